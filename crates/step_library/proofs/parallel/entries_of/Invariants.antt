use Rattle.std.proofs.Common.{◌≡◌, [], ℕ, drop}
use Rattle.std.specs.List.{All}
use Rattle.indexmap.specs.IndexMap.{insert_all}
use Rattle.cell_heap.specs.Soundness.{ValueBelow}
use Rattle.model_values.specs.Keys.{same_key}
use Rattle.model_run.specs.Steps.{values_of}
use Rattle.step_library.specs.Branches.{OutcomeBelow}
use Rattle.step_library.proofs.parallel.entries_of.Given as goal

abbrev pub invariant-loop-branch : goal.invariant-loop-branch
invariant-loop-branch l = record {
  rest : insert_all same_key l.entries (values_of (drop l.branch-index l.ends)) ≡ insert_all same_key [] (values_of l.ends);
  below : (n : ℕ) → All (λ b. OutcomeBelow n b.end.outcome) l.ends → All (λ e. ValueBelow n e.1) l.entries;
}
