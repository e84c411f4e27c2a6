use Rattle.std.proofs.Common.{◌∙◌, ◌++◌, List, sym, ap, reverse, arith}
use Rattle.agent_worker.specs.declared.member.Member.{Member}
use Rattle.agent_worker.specs.Crews.{hosts_in}
use Rattle.agent_worker.proofs.CrewLemmas.{last_host}
use Rattle.agent_worker.proofs.crew.unseat.Goals as goal

pub loop-member-preserved : goal.loop-member-preserved
loop-member-preserved g c = record {
  hosts =
      ap (λ (hs : List g.row.H.Denot). hs ++ reverse (hosts_in c.pop.new.self.items)) c.unseat_one.ensures.hosts
      ∙ last_host c.loop-member.hosts.items c.pop.new.self.items c.in-Some.member
      ∙ ap (λ (ms : List (Member g.row.H.Denot g.row.A.Denot)). c.loop-member.hosts.items ++ reverse (hosts_in ms)) (sym c.in-Some.ensures.items)
      ∙ c.loop-member.invariant.hosts;
  room = omega (arith, c.unseat_one.ensures.len, c.unseat_one.ensures.capacity, c.in-Some.ensures.len, c.loop-member.invariant.room);
}
