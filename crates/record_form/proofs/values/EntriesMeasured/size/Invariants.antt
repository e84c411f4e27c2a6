use Rattle.std.proofs.Common.{◌≡◌, ◌+◌, ◌-◌, ◌^◌, [], length, take, min}
use Rattle.field_form.specs.Forms.{spelled}
use Rattle.field_form.specs.Cells.{entry_behind}
use Rattle.record_form.proofs.values.EntriesMeasured.size.Given as goal

abbrev pub invariant-loop-place : goal.invariant-loop-place
invariant-loop-place l = l.size ≡ min (4 + length (spelled entry_behind [] (take l.place l.self))) (2 ^ 64 - 1)
