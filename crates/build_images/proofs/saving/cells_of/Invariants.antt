use Rattle.std.proofs.Common.{◌≡◌, take}
use Rattle.build_images.proofs.saving.cells_of.Given as goal

abbrev pub invariant-loop-id : goal.invariant-loop-id
invariant-loop-id l = l.cells ≡ take l.id l.fn.heap.cells
