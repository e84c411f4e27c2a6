use Rattle.std.proofs.Common.{◌≡◌, ◌+◌, ◌-◌, ◌++◌, length}
use Rattle.agents_file.specs.Agents.{some_executors}
use Rattle.agents_file.proofs.site.add_executors.Given as goal

abbrev pub invariant-loop-slot : goal.invariant-loop-slot
invariant-loop-slot l = record {
  count : length l.executors ≡ length l.initial.executors + l.slot;
  rest : l.initial.executors ++ some_executors l.agent (length l.initial.executors) 0 l.agent.executors
      ≡ l.executors ++ some_executors l.agent (length l.executors) l.slot (l.agent.executors - l.slot);
}
