use Rattle.std.proofs.Common.{◌≡◌, drop}
use Rattle.model_run.specs.StepTable.{parameters, unknown}
use Rattle.step_arguments.proofs.checks.check_names.Given as goal

abbrev pub invariant-loop-name : goal.invariant-loop-name
invariant-loop-name l = unknown (parameters l.step) (drop l.name-index l.arguments) ≡ unknown (parameters l.step) l.arguments
