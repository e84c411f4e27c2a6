use Rattle.std.proofs.Common.{◌≡◌, drop}
use Rattle.std.specs.Prelude.{option_copied}
use Rattle.model_run.specs.Steps.{first_failure}
use Rattle.step_library.proofs.parallel.first_failure.Given as goal

abbrev pub invariant-loop-at : goal.invariant-loop-at
invariant-loop-at l = option_copied l.first ≡ first_failure (drop l.at l.ends)
