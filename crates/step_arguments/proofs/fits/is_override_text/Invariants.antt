use Rattle.std.proofs.Common.{◌≡◌, [], take, drop}
use Rattle.model_run.specs.StepTable.{is_override_name}
use Rattle.step_arguments.proofs.fits.is_override_text.Given as goal

abbrev pub invariant-loop-at : goal.invariant-loop-at
invariant-loop-at l = is_override_name (take l.at l.text) (drop l.at l.text) ≡ is_override_name [] l.text
