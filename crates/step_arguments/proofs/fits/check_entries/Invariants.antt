use Rattle.std.proofs.Common.{◌≡◌, drop}
use Rattle.model_run.specs.StepTable.{branch_fit}
use Rattle.step_arguments.proofs.fits.check_entries.Given as goal

abbrev pub invariant-loop-at : goal.invariant-loop-at
invariant-loop-at l = branch_fit l.heap.cells (drop l.at l.entries) ≡ branch_fit l.heap.cells l.entries
