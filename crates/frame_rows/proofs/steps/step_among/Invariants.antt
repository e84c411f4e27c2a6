use Rattle.std.proofs.Common.{◌≡◌, drop}
use Rattle.model_run.specs.StepTable.{step_among}
use Rattle.frame_rows.proofs.steps.step_among.Given as goal

abbrev pub invariant-loop-step : goal.invariant-loop-step
invariant-loop-step l = step_among l.name (drop l.step-index l.steps) ≡ step_among l.name l.steps
