use Rattle.std.proofs.Common.{◌≡◌, ◌∙◌, ◌++◌, [], ◌∷◌, List, sym, ap, subst, reverse}
use Rattle.std.proofs.lemmas.List.{reverse-append, reverse-reverse, append-nil}
use Rattle.agent_worker.specs.declared.member.Member.{Member}
use Rattle.agent_worker.specs.Crews.{answers_in, hosts_in, IsCrew}
use Rattle.agent_worker.proofs.CrewLemmas.{answers_in-append, hosts_in-append, no_last_executor, one_operator}
use Rattle.agent_worker.proofs.crew.Crew.dismiss.Goals as goal

pub unreachable-requires : goal.unreachable-requires
unreachable-requires g c =
    let is = c.in-Some-Executor in
    no_last_executor c.pop.new.self.items is.field-0-0 is.field-0-1
    (subst (λ (m : Member g.row.H.Denot g.row.A.Denot). IsCrew (c.pop.new.self.items ++ m ∷ [])) is.field-0-is (subst (λ (ms : List (Member g.row.H.Denot g.row.A.Denot)). IsCrew ms) is.ensures.items c.requires.crew))

pub returns-clause-hosts : goal.returns-clause-hosts
returns-clause-hosts g c =
    let H = g.row.H.Denot in
    let A = g.row.A.Denot in
    let op = c.in-Some-Operator in
    let front = c.pop.new.self.items in
    let all : hosts_in c.args.self.members.items ≡ hosts_in front =
    ap (λ (ms : List (Member H A)). hosts_in ms) op.ensures.items ∙ hosts_in-append front (op.field-0 ∷ []) ∙ ap (λ (m : Member H A). hosts_in front ++ hosts_in (m ∷ [])) op.field-0-is ∙ append-nil (hosts_in front) in
    c.reverse.ensures.items
    ∙ ap (λ (hs : List H). reverse hs) c.unseat.ensures.hosts
    ∙ reverse-append c.args.self.others.items (reverse (hosts_in front))
    ∙ ap (λ (hs : List H). hs ++ reverse c.args.self.others.items) (reverse-reverse (hosts_in front) ∙ sym all)

pub returns-clause-answers : goal.returns-clause-answers
returns-clause-answers g c =
    let H = g.row.H.Denot in
    let A = g.row.A.Denot in
    let op = c.in-Some-Operator in
    let front = c.pop.new.self.items in
    let none = one_operator front op.field-0 (subst (λ (ms : List (Member H A)). IsCrew ms) op.ensures.items c.requires.crew) in
    ap (λ (ms : List (Member H A)). answers_in ms) op.ensures.items ∙ answers_in-append front (op.field-0 ∷ []) ∙ ap (λ (as' : List A). as' ++ answers_in (op.field-0 ∷ [])) none ∙ ap (λ (m : Member H A). answers_in (m ∷ [])) op.field-0-is
