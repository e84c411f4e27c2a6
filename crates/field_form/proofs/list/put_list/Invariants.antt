use Rattle.std.proofs.Common.{◌≡◌, ◌++◌, [], length, take}
use Rattle.byte_form.specs.Fields.{u32_spelling}
use Rattle.field_form.specs.Forms.{AllBehind, spelled}
use Rattle.field_form.proofs.list.put_list.Given as goal

abbrev pub invariant-loop-place : goal.invariant-loop-place
invariant-loop-place g l =
    (l.out.items ≡ l.fn.out.items ++ (u32_spelling (length l.items) ++ spelled g.L.Listing.behind [] (take l.place l.items)))
    × AllBehind (λ before x. (g.L.Listing.behind before).Fits x) [] (take l.place l.items)
