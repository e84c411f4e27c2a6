use Rattle.std.proofs.Common.{◌≡◌, ◌++◌, [], List, length}
use Rattle.byte_form.specs.Fields.{u32_spelling}
use Rattle.field_form.specs.Forms.{AllBehind, spelled}
use Rattle.field_form.proofs.list.ChainField.spell.Given as goal

abbrev pub invariant-loop-item : goal.invariant-loop-item
invariant-loop-item g l =
    (before : List g.row.T.Denot) × (before ++ l.rest ≡ l.self)
    × (l.out.items ≡ l.fn.out.items ++ (u32_spelling (length l.self) ++ spelled (λ b. g.T.Field.form) [] before))
    × AllBehind (λ b x. g.T.Field.form.Fits x) [] before

abbrev pub decreases-loop-item : goal.decreases-loop-item
decreases-loop-item g l = length l.rest
