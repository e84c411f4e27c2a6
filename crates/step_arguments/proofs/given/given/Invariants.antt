use Rattle.std.proofs.Common.{◌≡◌, drop}
use Rattle.model_run.specs.StepTable.{given}
use Rattle.step_arguments.proofs.given.given.Given as goal

abbrev pub invariant-loop-known : goal.invariant-loop-known
invariant-loop-known l = given l.name (drop l.known-index l.arguments) ≡ given l.name l.arguments
