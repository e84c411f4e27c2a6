use Rattle.std.proofs.Common.{◌≡◌, ◌++◌, [], length, take}
use Rattle.std.specs.List.{AllByRecursion}
use Rattle.byte_form.specs.Fields.{u32_spelling}
use Rattle.field_form.specs.Forms.{spelled}
use Rattle.field_form.specs.Cells.{entry_form, entry_behind}
use Rattle.field_form.proofs.entries.EntriesField.spell.Given as goal

abbrev pub invariant-loop-place : goal.invariant-loop-place
invariant-loop-place l =
    (l.out.items ≡ l.fn.out.items ++ (u32_spelling (length l.self) ++ spelled entry_behind [] (take l.place l.self)))
    × AllByRecursion entry_form.Fits (take l.place l.self)
