use Rattle.std.proofs.Common.{◌≡◌, inl, sym, ◌∙◌, refl, subst, ℤ, rules, to_z, of_z, w32, arith}
use Rattle.agent_worker.specs.Causes.{Exits}
use Rattle.agent_worker.specs.Types.{NotStarted, Gone}
use Rattle.agent_worker.proofs.TellLemmas.{keeps-gate-on}
use Rattle.agent_worker.proofs.ServeLemmas.{serves-by, serves-lost, leaves-on}
use Rattle.agent_worker.proofs.GoesOnLemmas.{goes-stays}
use Rattle.agent_worker.proofs.AwaitLemmas.{awaits-next, exits-so, not-started-so, may-have-started, gone-so}
use Rattle.agent_worker.proofs.task.watch.Goals as goal

pub returns-in-Err-clause-serves : goal.returns-in-Err-clause-serves
returns-in-Err-clause-serves g c old past opened stands =
    let aw = c.loop.invariant.awaits old past opened stands in
    let turn = c.in-Err.ensures.turns c.args.looks old aw.past aw.may aw.log_at aw.out_at aw.stands in
    serves-by _ c.args.order.now c.args.looks old _ turn.next _ _ c.in-Err.answer past (λ act done. turn.still act (aw.still act done)) turn.stands turn.adds
    (λ is. let was = c.take_turn.ensures.honest.0 is in inl (c.take_turn.ensures.folders was ∙ c.loop.invariant.folders (c.loop.invariant.honest.0 was)))

pub returns-in-Exited-clause-serves : goal.returns-in-Exited-clause-serves
returns-in-Exited-clause-serves g c old past opened stands =
    let aw = c.loop.invariant.awaits old past opened stands in
    let turn = c.in-Ok.ensures.turns c.args.looks old aw.past aw.may aw.log_at aw.out_at aw.stands in
    let means = c.in-Exited.ensures.decides in
    let code_is : to_z w32 (of_z w32 c.in-Exited.code) ≡ c.in-Exited.code = search rules in
    let on = c.finish.ensures.serves c.args.looks old turn.next (subst (λ (z : ℤ). Exits c.args.order.now z turn.next) (sym code_is) (exits-so c.args.order.now c.in-Exited.code c.in-Ok.turn aw.past turn.next turn.adds.2 means.0 means.1)) turn.adds.2.told turn.adds.2.in_turn turn.stands in
    let same : g.H.Host.honest c.take_turn.new.host → g.H.Host.dirs c.take_turn.new.host ≡ g.H.Host.dirs c.args.host.now =
    λ is. let was = c.take_turn.ensures.honest.0 is in c.take_turn.ensures.folders was ∙ c.loop.invariant.folders (c.loop.invariant.honest.0 was) in
    record { serve = on.serve; folders = λ is. leaves-on c.args.order.now on.serve.past _ _ _ (same (c.finish.ensures.honest.0 is)) (on.folders is); still = λ act done. on.still act (turn.still act (aw.still act done)) }

pub returns-in-NotStarted-clause-serves : goal.returns-in-NotStarted-clause-serves
returns-in-NotStarted-clause-serves g c old past opened stands =
    let aw = c.loop.invariant.awaits old past opened stands in
    let turn = c.in-Ok.ensures.turns c.args.looks old aw.past aw.may aw.log_at aw.out_at aw.stands in
    serves-lost _ c.args.order.now c.args.looks old _ turn.next NotStarted _ _ _ _ _ c.lose.result past (λ act done. turn.still act (aw.still act done)) turn.stands c.lose.ensures.tells
    (refl, not-started-so c.args.order.now c.in-Ok.turn aw.past turn.next turn.adds.2 aw.begun c.in-NotStarted.ensures.decides) turn.adds.2.told (inl turn.adds.2.in_turn)
    (λ is. let was = c.take_turn.ensures.honest.0 is in c.take_turn.ensures.folders was ∙ c.loop.invariant.folders (c.loop.invariant.honest.0 was))

pub returns-in-Gone-clause-serves : goal.returns-in-Gone-clause-serves
returns-in-Gone-clause-serves g c old past opened stands =
    let aw = c.loop.invariant.awaits old past opened stands in
    let turn = c.in-Ok.ensures.turns c.args.looks old aw.past aw.may aw.log_at aw.out_at aw.stands in
    let means = c.in-Gone.ensures.decides in
    serves-lost _ c.args.order.now c.args.looks old _ turn.next Gone _ _ _ _ _ c.lose-in-Gone.result past (λ act done. turn.still act (aw.still act done)) turn.stands c.lose-in-Gone.ensures.tells
    (refl, may-have-started c.args.order.now c.in-Ok.turn aw.past turn.next turn.adds.2 means.0, gone-so c.args.order.now c.args.looks c.loop.vain c.in-Ok.turn aw.past turn.next turn.adds.2 means.0 means.1 means.2 aw.row) turn.adds.2.told (inl turn.adds.2.in_turn)
    (λ is. let was = c.take_turn.ensures.honest.0 is in c.take_turn.ensures.folders was ∙ c.loop.invariant.folders (c.loop.invariant.honest.0 was))

pub loop-preserved : goal.loop-preserved
loop-preserved g c =
    let inv = c.loop.invariant in
    let means = c.in-Pause.ensures.decides in
    record {
      next = tt;
      finite = tt;
      few = means.1;
      awaits = λ old past opened stands.
          let aw = c.loop.invariant.awaits old past opened stands in
          let turn = c.in-Ok.ensures.turns c.args.looks old aw.past aw.may aw.log_at aw.out_at aw.stands in
          awaits-next _ _ c.args.order.now c.args.looks c.loop.vain c.in-Pause.count old _ _ _ c.in-Ok.turn aw.past turn.next _ (g.H.Host.output c.pause.new.self) (g.H.Host.exited c.pause.new.self)
          aw.not_failed aw.begun aw.row aw.no_more turn.stands turn.adds.0 turn.adds.1 turn.adds.2 means.0 means.1 means.2 past (λ act done. turn.still act (aw.still act done))
          c.pause.ensures.honest.0 c.pause.ensures.calls (λ is. goes-stays c.args.order.now.task _ _ _ _ (c.pause.ensures.output is));
      gate = keeps-gate-on _ _ _ inv.gate c.take_turn.ensures.gate;
      launches = c.pause.ensures.launches ∙ c.take_turn.ensures.launches ∙ inv.launches;
      folders = λ is. c.pause.ensures.folders (c.take_turn.ensures.honest.1 (inv.honest.1 is)) ∙ c.take_turn.ensures.folders (inv.honest.1 is) ∙ inv.folders is;
      faults = omega (arith, inv.faults, c.take_turn.ensures.faults, c.pause.ensures.calm);
      honest = (λ is. inv.honest.0 (c.take_turn.ensures.honest.0 (c.pause.ensures.honest.0 is)), λ is. c.pause.ensures.honest.1 (c.take_turn.ensures.honest.1 (inv.honest.1 is)));
    }

pub returns-in-Err-clause-faults : goal.returns-in-Err-clause-faults
returns-in-Err-clause-faults g c = omega (arith, c.loop.invariant.faults, c.take_turn.ensures.faults)

pub returns-in-Exited-clause-faults : goal.returns-in-Exited-clause-faults
returns-in-Exited-clause-faults g c = omega (arith, c.loop.invariant.faults, c.take_turn.ensures.faults, c.finish.ensures.faults)

pub returns-in-NotStarted-clause-faults : goal.returns-in-NotStarted-clause-faults
returns-in-NotStarted-clause-faults g c = omega (arith, c.loop.invariant.faults, c.take_turn.ensures.faults)

pub returns-in-Gone-clause-faults : goal.returns-in-Gone-clause-faults
returns-in-Gone-clause-faults g c = omega (arith, c.loop.invariant.faults, c.take_turn.ensures.faults)
