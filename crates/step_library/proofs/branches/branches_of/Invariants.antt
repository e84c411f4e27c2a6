use Rattle.std.proofs.Common.{◌≡◌, ◌++◌, drop}
use Rattle.model_run.specs.State.{World, put_cells}
use Rattle.model_run.specs.Steps.{branches_of}
use Rattle.step_library.proofs.branches.branches_of.Given as goal

abbrev pub invariant-loop-at : goal.invariant-loop-at
invariant-loop-at l = (w : World) → l.named.items ++ branches_of (put_cells l.heap.cells w) (drop l.at l.entries) ≡ branches_of (put_cells l.heap.cells w) l.entries
