use Rattle.std.proofs.Common.{◌≡◌, drop}
use Rattle.image_check.specs.Cells.{entries_there}
use Rattle.image_check.proofs.cells.entries_there.Given as goal

abbrev pub invariant-loop-at : goal.invariant-loop-at
invariant-loop-at l = entries_there l.cells (drop l.at l.entries) ≡ entries_there l.cells l.entries
