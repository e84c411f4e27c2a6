use Rattle.std.proofs.Common.{◌≡◌, drop}
use Rattle.image_check.specs.Cells.{are_there}
use Rattle.image_check.proofs.cells.are_there.Given as goal

abbrev pub invariant-loop-value : goal.invariant-loop-value
invariant-loop-value l = are_there l.cells (drop l.value-index l.values) ≡ are_there l.cells l.values
