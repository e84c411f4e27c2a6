use Rattle.std.proofs.Common.{◌≡◌, ◌+◌, ◌-◌, ◌^◌, drop, min}
use Rattle.model_values.specs.Cells.{heap_bytes}
use Rattle.image_check.proofs.sizes.are_small.Given as goal

abbrev pub invariant-loop-cell : goal.invariant-loop-cell
invariant-loop-cell l = min (l.bytes + heap_bytes (drop l.cell-index l.cells)) (2 ^ 64 - 1) ≡ min (heap_bytes l.cells) (2 ^ 64 - 1)
