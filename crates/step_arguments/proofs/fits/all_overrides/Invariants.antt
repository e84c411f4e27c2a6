use Rattle.std.proofs.Common.{◌≡◌, drop}
use Rattle.std.specs.List.{list_all}
use Rattle.model_values.specs.Kinds.{kind}
use Rattle.model_run.specs.StepTable.{is_override}
use Rattle.step_arguments.proofs.fits.all_overrides.Given as goal

abbrev pub invariant-loop-value : goal.invariant-loop-value
invariant-loop-value l = list_all (λ v. is_override (kind l.heap.cells v)) (drop l.value-index l.values) ≡ list_all (λ v. is_override (kind l.heap.cells v)) l.values
