use Rattle.std.proofs.Common.{◌≡◌, take}
use Rattle.model_values.specs.Cells.{heap_bytes}
use Rattle.cell_heap.proofs.heap.Heap.restore.Given as goal

abbrev pub invariant-loop-cell : goal.invariant-loop-cell
invariant-loop-cell l = l.total ≡ heap_bytes (take l.cell-index l.cell-items)
