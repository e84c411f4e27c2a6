use Rattle.std.proofs.Common.{◌≡◌, ◌+◌, ◌++◌, length, drop}
use Rattle.agents_file.specs.Agents.{all_executors, executor_sum}
use Rattle.agents_file.proofs.site.executors.Given as goal

abbrev pub invariant-loop-agent : goal.invariant-loop-agent
invariant-loop-agent l = record {
  room : length l.executors + executor_sum (drop l.agent-index l.agents) ≡ executor_sum l.agents;
  rest : all_executors 0 l.agents ≡ l.executors ++ all_executors (length l.executors) (drop l.agent-index l.agents);
}
