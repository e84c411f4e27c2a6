use Rattle.agents_file.proofs.AgentLemmas.{NamesFrom}
use Rattle.agents_file.proofs.agents.check_names.Given as goal

abbrev pub invariant-loop-at : goal.invariant-loop-at
invariant-loop-at l = NamesFrom l.agents l.at
