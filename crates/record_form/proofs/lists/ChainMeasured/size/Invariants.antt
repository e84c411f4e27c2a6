use Rattle.std.proofs.Common.{◌≡◌, ◌+◌, ◌-◌, ◌^◌, ◌++◌, [], List, length, min}
use Rattle.field_form.specs.Forms.{spelled}
use Rattle.record_form.proofs.lists.ChainMeasured.size.Given as goal

abbrev pub invariant-loop-item : goal.invariant-loop-item
invariant-loop-item g l =
    (before : List g.row.T.Denot) × (before ++ l.rest ≡ l.self)
    × (l.size ≡ min (4 + length (spelled (λ b. g.T.Field.form) [] before)) (2 ^ 64 - 1))

abbrev pub decreases-loop-item : goal.decreases-loop-item
decreases-loop-item g l = length l.rest
