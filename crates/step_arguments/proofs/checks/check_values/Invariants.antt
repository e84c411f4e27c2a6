use Rattle.std.proofs.Common.{◌≡◌, None, drop}
use Rattle.model_run.specs.State.{World}
use Rattle.model_run.specs.StepTable.{all_fit, parameters, unknown}
use Rattle.step_arguments.specs.Binding.{seen_with}
use Rattle.step_arguments.proofs.checks.check_values.Given as goal

abbrev pub invariant-loop-name : goal.invariant-loop-name
invariant-loop-name l = record {
  fits : (w : World) → all_fit (seen_with l.heap.cells w) (parameters l.step) (drop l.name-index l.arguments) ≡ all_fit (seen_with l.heap.cells w) (parameters l.step) l.arguments;
  known : unknown (parameters l.step) (drop l.name-index l.arguments) ≡ None;
}
