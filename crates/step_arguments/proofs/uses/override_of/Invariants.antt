use Rattle.std.proofs.Common.{◌≡◌, [], take, drop, true}
use Rattle.model_run.specs.Steps.{override_of}
use Rattle.model_run.specs.StepTable.{is_override_name}
use Rattle.step_arguments.proofs.uses.override_of.Given as goal

abbrev pub invariant-loop-at : goal.invariant-loop-at
invariant-loop-at l = record {
  rest : override_of (take l.at l.text) (drop l.at l.text) ≡ override_of [] l.text;
  signed : is_override_name (take l.at l.text) (drop l.at l.text) ≡ true;
}
