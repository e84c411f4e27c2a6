use Rattle.std.proofs.Common.{◌∙◌, ◌++◌, [], ◌∷◌, List, false, refl, sym, ap, subst, reverse}
use Rattle.agent_worker.specs.declared.member.Member.{Member}
use Rattle.agent_worker.specs.declared.member.Member.TheVariants.{Operator}
use Rattle.agent_worker.specs.Crews.{IsCrew, seats_of}
use Rattle.agent_worker.proofs.CrewLemmas.{seats_crew}
use Rattle.agent_worker.proofs.crew.Crew.gather.Goals as goal

pub returns-clause-crew : goal.returns-clause-crew
returns-clause-crew g c =
    let H = g.row.H.Denot in
    let A = g.row.A.Denot in
    let operator : Member H A = Operator c.args.answers c.new.result false false in
    let executors = c.args.executors.now in
    let hosts = reverse c.reverse.new.self.items in
    subst (λ (ms : List (Member H A)). IsCrew ms)
    (sym (c.push_reserved.ensures.items ∙ ap (λ (ms : List (Member H A)). ms ++ operator ∷ []) (c.seat.ensures.seated ∙ ap (λ (ms : List (Member H A)). ms ++ seats_of executors hosts) c.in-Ok.ensures.items)))
    (seats_crew {H = H} {A = A} executors hosts operator refl)
