use Rattle.std.proofs.Common.{◌≡◌, ◌∙◌, ap, ℤ, rules, to_z, of_z, w32, arith}
use Rattle.agent_worker.specs.Serving.{exited}
use Rattle.agent_worker.specs.Serve.{seen}
use Rattle.agent_worker.proofs.ServeLemmas.{serves-exited, serves-removed}
use Rattle.agent_worker.proofs.GoesOnLemmas.{goes-stays}
use Rattle.agent_worker.proofs.task.finish.Goals as goal

pub returns-in-Done-clause-serves : goal.returns-in-Done-clause-serves
returns-in-Done-clause-serves g c looks old past exits all turning stands =
    let code_is : to_z w32 (of_z w32 c.args.code) ≡ c.args.code = search rules in
    let event = c.exit_of.ensures.event ∙ ap (λ (z : ℤ). exited c.args.order.now z) code_is in
    serves-removed _ _ c.args.order.now looks old (seen g.H.Host g.G.Gate.tells c.args.host.now c.args.gate.now) past c.args.code _ _ _ c.tell.result c.remove.result _ (g.H.Host.output c.remove.new.self) (g.H.Host.exited c.remove.new.self) _ _
    stands c.exit_of.result event c.tell.ensures.tells c.in-Done.is exits all turning c.remove.ensures.honest.0 c.remove.ensures.calls
    (λ is. goes-stays c.args.order.now.task _ _ _ _ (c.remove.ensures.output is)) c.remove.ensures.folder

pub returns-in_default-clause-serves : goal.returns-in_default-clause-serves
returns-in_default-clause-serves g c looks old past exits all turning stands =
    let code_is : to_z w32 (of_z w32 c.args.code) ≡ c.args.code = search rules in
    let event = c.exit_of.ensures.event ∙ ap (λ (z : ℤ). exited c.args.order.now z) code_is in
    serves-exited _ c.args.order.now looks old _ past c.args.code c.exit_of.result _ _ _ _ c.tell.result stands event c.tell.ensures.tells exits all turning c.in_default.not-Done

pub returns-in-Done-clause-faults : goal.returns-in-Done-clause-faults
returns-in-Done-clause-faults g c = omega (arith, c.remove.ensures.cause.never_falls)
