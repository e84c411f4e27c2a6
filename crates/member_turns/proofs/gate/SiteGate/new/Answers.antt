use Rattle.member_turns.proofs.TrailLemmas.{gate_none}
use Rattle.member_turns.proofs.gate.SiteGate.new.Goals as goal

pub invariant_of-result-clause-answered : goal.invariant_of-result-clause-answered
invariant_of-result-clause-answered g c = gate_none c.requires.since c.new.ensures
