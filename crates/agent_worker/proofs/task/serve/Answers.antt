use Rattle.std.proofs.Common.{refl, arith}
use Rattle.agent_worker.specs.Serve.{seen, tasks_at}
use Rattle.agent_worker.proofs.OpenLemmas.{opened-stands, serves-order, serves-failed, begun-opened, serves-none}
use Rattle.agent_worker.proofs.task.serve.Goals as goal

pub returns-in_default-clause-serves : goal.returns-in_default-clause-serves
returns-in_default-clause-serves g c = serves-none _ c.args.order c.args.looks _ _

pub returns-then-not-opened-clause-serves : goal.returns-then-not-opened-clause-serves
returns-then-not-opened-clause-serves g c =
    let opens = c.opened.ensures.opens in
    let old = seen g.H.Host g.G.Gate.tells c.args.host.now c.args.gate.now in
    let on = serves-failed (g.H.Host.honest c.opened.new.host) c.args.order c.args.looks old (g.H.Host.calls c.opened.new.host) (g.H.Host.output c.opened.new.host) (g.H.Host.exited c.opened.new.host) (g.G.Gate.tells c.lose.new.gate).told (g.G.Gate.tells c.lose.new.gate).calls (g.G.Gate.tells c.lose.new.gate).said
    _ _ _ c.opened.result c.lose.result c.if-not-opened.true opens (λ is. c.opened.ensures.goes_on (c.opened.ensures.honest.0 is)) c.lose.ensures.tells in
    serves-order _ _ c.args.order c.args.looks old _ _ _ _ _ c.opened.result c.lose.result opens on (c.opened.ensures.honest.1) refl

pub returns-clause-serves : goal.returns-clause-serves
returns-clause-serves g c =
    let opens = c.opened.ensures.opens in
    let old = seen g.H.Host g.G.Gate.tells c.args.host.now c.args.gate.now in
    let opened = begun-opened _ c.args.order _ _ _ _ c.opened.result c.if-not-opened.false opens in
    let begun = opened-stands (g.H.Host.honest c.opened.new.host) c.args.order c.args.looks old (g.H.Host.calls c.opened.new.host) (g.H.Host.output c.opened.new.host) (g.H.Host.exited c.opened.new.host) opens.past
    opened opens.called (λ is. c.opened.ensures.goes_on (c.opened.ensures.honest.0 is)) in
    let on = c.watch.ensures.serves old opens.past opened begun in
    serves-order _ _ c.args.order c.args.looks old _ _ _ _ (tasks_at (g.H.Host.launches c.watch.new.host) (g.H.Host.dirs c.watch.new.host)) c.opened.result c.watch.result opens on (λ is. c.watch.ensures.honest.1 (c.opened.ensures.honest.1 is)) c.watch.ensures.launches

pub returns-clause-honest : goal.returns-clause-honest
returns-clause-honest g c = (λ is. c.opened.ensures.honest.0 (c.watch.ensures.honest.0 is), λ is. c.watch.ensures.honest.1 (c.opened.ensures.honest.1 is))

pub returns-clause-faults : goal.returns-clause-faults
returns-clause-faults g c = omega (arith, c.opened.ensures.faults, c.watch.ensures.faults)
