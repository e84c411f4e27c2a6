use Rattle.std.specs.List.{All}
use Rattle.cell_heap.specs.Soundness.{ValueBelow}
use Rattle.value_trials.proofs.heaps.nulls.Given as goal

abbrev pub invariant-loop : goal.invariant-loop
invariant-loop l = All (ValueBelow 0) l.values
