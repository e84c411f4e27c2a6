use Rattle.std.proofs.Common.{◌≡◌, ◌+◌, drop}
use Rattle.agents_file.specs.Agents.{executor_sum}
use Rattle.agents_file.proofs.agents.check_executors.Given as goal

abbrev pub invariant-loop-agent : goal.invariant-loop-agent
invariant-loop-agent l = executor_sum l.agents + l.left ≡ 64 + executor_sum (drop l.agent-index l.agents)
