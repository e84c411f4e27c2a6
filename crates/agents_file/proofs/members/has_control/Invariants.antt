use Rattle.std.proofs.Common.{◌≡◌, drop}
use Rattle.model_run.specs.AgentsFaults.{has_control}
use Rattle.agents_file.proofs.members.has_control.Given as goal

abbrev pub invariant-loop-at : goal.invariant-loop-at
invariant-loop-at l = has_control l.bytes ≡ has_control (drop l.at l.bytes)
