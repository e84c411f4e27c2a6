use Rattle.std.proofs.Common.{◌≡◌, ◌-◌, ◌^◌, take, min}
use Rattle.model_values.specs.Cells.{entry_bytes}
use Rattle.image_check.proofs.sizes.entries_bytes.Given as goal

abbrev pub invariant-loop-at : goal.invariant-loop-at
invariant-loop-at l = l.bytes ≡ min (entry_bytes (take l.at l.entries)) (2 ^ 64 - 1)
