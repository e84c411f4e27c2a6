use Rattle.std.proofs.Common.{◌∷◌, [], inl, inr, ◌∙◌, refl, arith}
use Rattle.agent_worker.specs.declared.gate.Claim.TheVariants as claim
use Rattle.agent_worker.specs.declared.task.Served.TheVariants as served
use Rattle.agent_worker.specs.Serve.{seen, tasks_at}
use Rattle.agent_worker.specs.Working.{Claims, Serves, Pauses, Halts, First, Paused, Done, Finished, on_host, telling}
use Rattle.agent_worker.proofs.TellLemmas.{stays, stays-on}
use Rattle.agent_worker.proofs.WorkLemmas.{work-claims, work-order, work-pauses, work-halts, works-ended, same-host}
use Rattle.agent_worker.proofs.executor.work_executor.Goals as goal

pub loop-init : goal.loop-init
loop-init g c = record {
  next = tt;
  finite = tt;
  so_far = ([], record { calls = stays _; told = stays _; reports = stays _; said = refl; claimed = stays _; lawful = tt; own = λ some. tt; launched = refl; on_host = λ is. refl }, First);
  lines = stays _;
  is_open = refl;
  honest = (λ is. is, λ is. is);
  faults = omega arith;
}

pub loop-preserved-in-Done : goal.loop-preserved-in-Done
loop-preserved-in-Done g c =
    let so = c.loop.invariant.so_far in
    let ended = work-order c.args.number c.args.looks (g.H.Host.honest c.args.host.now) _ (telling g.H.Host g.G.Gate.tells c.args.host.now c.args.gate.now) so.0 c.in-Order.order (g.G.Gate.tells c.loop.gate).told (g.G.Gate.tells c.loop.gate).calls (g.G.Gate.tells c.loop.gate).said (g.G.Gate.tells c.loop.gate).claimed (g.G.Gate.tells c.claim.new.self).claimed (g.G.Gate.tells c.serve.new.gate).claimed
    (seen g.H.Host g.G.Gate.tells c.loop.host c.claim.new.self) (seen g.H.Host g.G.Gate.tells c.serve.new.host c.serve.new.gate) (tasks_at (g.H.Host.launches c.loop.host) (g.H.Host.dirs c.loop.host)) (tasks_at (g.H.Host.launches c.serve.new.host) (g.H.Host.dirs c.serve.new.host)) c.serve.result served.Done
    so.1 so.2 c.in-Order.ensures.told c.in-Order.ensures.calls c.in-Order.ensures.said c.in-Order.ensures.claimed c.serve.ensures.serves (λ is. c.loop.invariant.honest.1 is) c.serve.ensures.gate.claimed_stay c.in-Done.is in
    let before = Claims (claim.Order c.in-Order.order) ∷ so.0 in
    record {
      next = tt;
      finite = tt;
      so_far = (Serves c.in-Order.order c.serve.ensures.serves.serve.past served.Done ∷ before, ended, Done c.in-Order.order c.serve.ensures.serves.serve.past before);
      lines = stays-on _ _ _ (stays-on _ _ _ c.loop.invariant.lines c.in-Order.ensures.lines) c.serve.ensures.gate.lines_stay;
      is_open = c.serve.ensures.gate.open_stays ∙ c.in-Order.ensures.is_open ∙ c.loop.invariant.is_open;
      faults = omega (arith, c.loop.invariant.faults, c.serve.ensures.faults);
      honest = (λ is. c.loop.invariant.honest.0 (c.serve.ensures.honest.0 is), λ is. c.serve.ensures.honest.1 (c.loop.invariant.honest.1 is));
    }

pub loop-preserved-in-Finished : goal.loop-preserved-in-Finished
loop-preserved-in-Finished g c =
    let so = c.loop.invariant.so_far in
    let ended = work-order c.args.number c.args.looks (g.H.Host.honest c.args.host.now) _ (telling g.H.Host g.G.Gate.tells c.args.host.now c.args.gate.now) so.0 c.in-Order.order (g.G.Gate.tells c.loop.gate).told (g.G.Gate.tells c.loop.gate).calls (g.G.Gate.tells c.loop.gate).said (g.G.Gate.tells c.loop.gate).claimed (g.G.Gate.tells c.claim.new.self).claimed (g.G.Gate.tells c.serve.new.gate).claimed
    (seen g.H.Host g.G.Gate.tells c.loop.host c.claim.new.self) (seen g.H.Host g.G.Gate.tells c.serve.new.host c.serve.new.gate) (tasks_at (g.H.Host.launches c.loop.host) (g.H.Host.dirs c.loop.host)) (tasks_at (g.H.Host.launches c.serve.new.host) (g.H.Host.dirs c.serve.new.host)) c.serve.result served.Finished
    so.1 so.2 c.in-Order.ensures.told c.in-Order.ensures.calls c.in-Order.ensures.said c.in-Order.ensures.claimed c.serve.ensures.serves (λ is. c.loop.invariant.honest.1 is) c.serve.ensures.gate.claimed_stay c.in-Finished.is in
    let before = Claims (claim.Order c.in-Order.order) ∷ so.0 in
    record {
      next = tt;
      finite = tt;
      so_far = (Serves c.in-Order.order c.serve.ensures.serves.serve.past served.Finished ∷ before, ended, Finished c.in-Order.order c.serve.ensures.serves.serve.past before);
      lines = stays-on _ _ _ (stays-on _ _ _ c.loop.invariant.lines c.in-Order.ensures.lines) c.serve.ensures.gate.lines_stay;
      is_open = c.serve.ensures.gate.open_stays ∙ c.in-Order.ensures.is_open ∙ c.loop.invariant.is_open;
      faults = omega (arith, c.loop.invariant.faults, c.serve.ensures.faults);
      honest = (λ is. c.loop.invariant.honest.0 (c.serve.ensures.honest.0 is), λ is. c.serve.ensures.honest.1 (c.loop.invariant.honest.1 is));
    }

pub returns-in-Stopped-serve-clause-works : goal.returns-in-Stopped-serve-clause-works
returns-in-Stopped-serve-clause-works g c =
    let so = c.loop.invariant.so_far in
    let ended = work-order c.args.number c.args.looks (g.H.Host.honest c.args.host.now) _ (telling g.H.Host g.G.Gate.tells c.args.host.now c.args.gate.now) so.0 c.in-Order.order (g.G.Gate.tells c.loop.gate).told (g.G.Gate.tells c.loop.gate).calls (g.G.Gate.tells c.loop.gate).said (g.G.Gate.tells c.loop.gate).claimed (g.G.Gate.tells c.claim.new.self).claimed (g.G.Gate.tells c.serve.new.gate).claimed
    (seen g.H.Host g.G.Gate.tells c.loop.host c.claim.new.self) (seen g.H.Host g.G.Gate.tells c.serve.new.host c.serve.new.gate) (tasks_at (g.H.Host.launches c.loop.host) (g.H.Host.dirs c.loop.host)) (tasks_at (g.H.Host.launches c.serve.new.host) (g.H.Host.dirs c.serve.new.host)) c.serve.result served.Stopped
    so.1 so.2 c.in-Order.ensures.told c.in-Order.ensures.calls c.in-Order.ensures.said c.in-Order.ensures.claimed c.serve.ensures.serves (λ is. c.loop.invariant.honest.1 is) c.serve.ensures.gate.claimed_stay c.in-Stopped-serve.is in
    let before = Claims (claim.Order c.in-Order.order) ∷ so.0 in
    works-ended _ _ _ _ _ (Serves c.in-Order.order c.serve.ensures.serves.serve.past served.Stopped ∷ before) _ ended (before, inr (c.in-Order.order, c.serve.ensures.serves.serve.past, refl))

pub returns-in-Memory-serve-clause-works : goal.returns-in-Memory-serve-clause-works
returns-in-Memory-serve-clause-works g c =
    let so = c.loop.invariant.so_far in
    let ended = work-order c.args.number c.args.looks (g.H.Host.honest c.args.host.now) _ (telling g.H.Host g.G.Gate.tells c.args.host.now c.args.gate.now) so.0 c.in-Order.order (g.G.Gate.tells c.loop.gate).told (g.G.Gate.tells c.loop.gate).calls (g.G.Gate.tells c.loop.gate).said (g.G.Gate.tells c.loop.gate).claimed (g.G.Gate.tells c.claim.new.self).claimed (g.G.Gate.tells c.serve.new.gate).claimed
    (seen g.H.Host g.G.Gate.tells c.loop.host c.claim.new.self) (seen g.H.Host g.G.Gate.tells c.serve.new.host c.serve.new.gate) (tasks_at (g.H.Host.launches c.loop.host) (g.H.Host.dirs c.loop.host)) (tasks_at (g.H.Host.launches c.serve.new.host) (g.H.Host.dirs c.serve.new.host)) c.serve.result served.Memory
    so.1 so.2 c.in-Order.ensures.told c.in-Order.ensures.calls c.in-Order.ensures.said c.in-Order.ensures.claimed c.serve.ensures.serves (λ is. c.loop.invariant.honest.1 is) c.serve.ensures.gate.claimed_stay c.in-Memory-serve.is in
    let before = Claims (claim.Order c.in-Order.order) ∷ so.0 in
    let past = Serves c.in-Order.order c.serve.ensures.serves.serve.past served.Memory ∷ before in
    works-ended _ _ _ _ _ (Halts ∷ past) _
    (work-halts c.args.number c.args.looks (g.H.Host.honest c.args.host.now) (telling g.H.Host g.G.Gate.tells c.args.host.now c.args.gate.now) (telling g.H.Host g.G.Gate.tells c.serve.new.host c.serve.new.gate) past (g.G.Gate.tells c.halt.new.self).told (g.G.Gate.tells c.halt.new.self).calls (g.G.Gate.tells c.halt.new.self).said (g.G.Gate.tells c.halt.new.self).claimed ended
    (before, inr (c.in-Order.order, c.serve.ensures.serves.serve.past, refl)) c.halt.ensures.told c.halt.ensures.calls c.halt.ensures.said c.halt.ensures.claimed)
    (past, refl)

pub loop-preserved-in-Idle : goal.loop-preserved-in-Idle
loop-preserved-in-Idle g c =
    let so = c.loop.invariant.so_far in
    let claimed = work-claims c.args.number c.args.looks (g.H.Host.honest c.args.host.now) (telling g.H.Host g.G.Gate.tells c.args.host.now c.args.gate.now) (telling g.H.Host g.G.Gate.tells c.loop.host c.loop.gate) so.0 (claim.Idle c.in-Idle.busy) (g.G.Gate.tells c.claim.new.self).told (g.G.Gate.tells c.claim.new.self).calls (g.G.Gate.tells c.claim.new.self).said (g.G.Gate.tells c.claim.new.self).claimed
    so.1 so.2 c.in-Idle.ensures.told c.in-Idle.ensures.calls c.in-Idle.ensures.said c.in-Idle.ensures.claimed in
    record {
      next = tt;
      finite = tt;
      so_far = (
        Pauses ∷ Claims (claim.Idle c.in-Idle.busy) ∷ so.0,
        work-pauses c.args.number c.args.looks (g.H.Host.honest c.args.host.now) (telling g.H.Host g.G.Gate.tells c.args.host.now c.args.gate.now) (telling g.H.Host g.G.Gate.tells c.loop.host c.claim.new.self) so.0 (claim.Idle c.in-Idle.busy) (g.H.Host.calls c.pause.new.self) (on_host g.H.Host c.pause.new.self)
            tt claimed c.pause.ensures.calls c.pause.ensures.launches (λ is. same-host _ _ _ _ _ _ _ _ c.pause.ensures.launches (c.pause.ensures.folders (c.loop.invariant.honest.1 is)) (c.pause.ensures.output (c.loop.invariant.honest.1 is))),
        Paused (Claims (claim.Idle c.in-Idle.busy) ∷ so.0),
      );
      lines = stays-on _ _ _ c.loop.invariant.lines c.in-Idle.ensures.lines;
      is_open = c.in-Idle.ensures.is_open ∙ c.loop.invariant.is_open;
      faults = omega (arith, c.loop.invariant.faults, c.pause.ensures.calm);
      honest = (λ is. c.loop.invariant.honest.0 (c.pause.ensures.honest.0 is), λ is. c.pause.ensures.honest.1 (c.loop.invariant.honest.1 is));
    }

pub loop-preserved : goal.loop-preserved
loop-preserved g c =
    let so = c.loop.invariant.so_far in
    let claimed = work-claims c.args.number c.args.looks (g.H.Host.honest c.args.host.now) (telling g.H.Host g.G.Gate.tells c.args.host.now c.args.gate.now) (telling g.H.Host g.G.Gate.tells c.loop.host c.loop.gate) so.0 claim.Rest (g.G.Gate.tells c.claim.new.self).told (g.G.Gate.tells c.claim.new.self).calls (g.G.Gate.tells c.claim.new.self).said (g.G.Gate.tells c.claim.new.self).claimed
    so.1 so.2 c.in-Rest.ensures.told c.in-Rest.ensures.calls c.in-Rest.ensures.said c.in-Rest.ensures.claimed in
    record {
      next = tt;
      finite = tt;
      so_far = (
        Pauses ∷ Claims claim.Rest ∷ so.0,
        work-pauses c.args.number c.args.looks (g.H.Host.honest c.args.host.now) (telling g.H.Host g.G.Gate.tells c.args.host.now c.args.gate.now) (telling g.H.Host g.G.Gate.tells c.loop.host c.claim.new.self) so.0 claim.Rest (g.H.Host.calls c.pause-in-Rest.new.self) (on_host g.H.Host c.pause-in-Rest.new.self)
            tt claimed c.pause-in-Rest.ensures.calls c.pause-in-Rest.ensures.launches (λ is. same-host _ _ _ _ _ _ _ _ c.pause-in-Rest.ensures.launches (c.pause-in-Rest.ensures.folders (c.loop.invariant.honest.1 is)) (c.pause-in-Rest.ensures.output (c.loop.invariant.honest.1 is))),
        Paused (Claims claim.Rest ∷ so.0),
      );
      lines = stays-on _ _ _ c.loop.invariant.lines c.in-Rest.ensures.lines;
      is_open = c.in-Rest.ensures.is_open ∙ c.loop.invariant.is_open;
      faults = omega (arith, c.loop.invariant.faults, c.pause-in-Rest.ensures.calm);
      honest = (λ is. c.loop.invariant.honest.0 (c.pause-in-Rest.ensures.honest.0 is), λ is. c.pause-in-Rest.ensures.honest.1 (c.loop.invariant.honest.1 is));
    }

pub returns-then-alone-ge-LAST_CLAIMS-clause-works : goal.returns-then-alone-ge-LAST_CLAIMS-clause-works
returns-then-alone-ge-LAST_CLAIMS-clause-works g c =
    let so = c.loop.invariant.so_far in
    let claimed = work-claims c.args.number c.args.looks (g.H.Host.honest c.args.host.now) (telling g.H.Host g.G.Gate.tells c.args.host.now c.args.gate.now) (telling g.H.Host g.G.Gate.tells c.loop.host c.loop.gate) so.0 claim.Rest (g.G.Gate.tells c.claim.new.self).told (g.G.Gate.tells c.claim.new.self).calls (g.G.Gate.tells c.claim.new.self).said (g.G.Gate.tells c.claim.new.self).claimed
    so.1 so.2 c.in-Rest.ensures.told c.in-Rest.ensures.calls c.in-Rest.ensures.said c.in-Rest.ensures.claimed in
    works-ended _ _ _ _ _ (Claims claim.Rest ∷ so.0) _ claimed (so.0, refl)

pub returns-in-Stopped-clause-works : goal.returns-in-Stopped-clause-works
returns-in-Stopped-clause-works g c =
    let so = c.loop.invariant.so_far in
    let claimed = work-claims c.args.number c.args.looks (g.H.Host.honest c.args.host.now) (telling g.H.Host g.G.Gate.tells c.args.host.now c.args.gate.now) (telling g.H.Host g.G.Gate.tells c.loop.host c.loop.gate) so.0 claim.Stopped (g.G.Gate.tells c.claim.new.self).told (g.G.Gate.tells c.claim.new.self).calls (g.G.Gate.tells c.claim.new.self).said (g.G.Gate.tells c.claim.new.self).claimed
    so.1 so.2 c.in-Stopped.ensures.told c.in-Stopped.ensures.calls c.in-Stopped.ensures.said c.in-Stopped.ensures.claimed in
    works-ended _ _ _ _ _ (Claims claim.Stopped ∷ so.0) _ claimed (so.0, inl refl)

pub returns-in-Memory-clause-works : goal.returns-in-Memory-clause-works
returns-in-Memory-clause-works g c =
    let so = c.loop.invariant.so_far in
    let claimed = work-claims c.args.number c.args.looks (g.H.Host.honest c.args.host.now) (telling g.H.Host g.G.Gate.tells c.args.host.now c.args.gate.now) (telling g.H.Host g.G.Gate.tells c.loop.host c.loop.gate) so.0 claim.Memory (g.G.Gate.tells c.claim.new.self).told (g.G.Gate.tells c.claim.new.self).calls (g.G.Gate.tells c.claim.new.self).said (g.G.Gate.tells c.claim.new.self).claimed
    so.1 so.2 c.in-Memory.ensures.told c.in-Memory.ensures.calls c.in-Memory.ensures.said c.in-Memory.ensures.claimed in
    works-ended _ _ _ _ _ (Halts ∷ Claims claim.Memory ∷ so.0) _
    (work-halts c.args.number c.args.looks (g.H.Host.honest c.args.host.now) (telling g.H.Host g.G.Gate.tells c.args.host.now c.args.gate.now) (telling g.H.Host g.G.Gate.tells c.loop.host c.claim.new.self) (Claims claim.Memory ∷ so.0) (g.G.Gate.tells c.halt-in-Memory.new.self).told (g.G.Gate.tells c.halt-in-Memory.new.self).calls (g.G.Gate.tells c.halt-in-Memory.new.self).said (g.G.Gate.tells c.halt-in-Memory.new.self).claimed claimed
    (so.0, inl refl) c.halt-in-Memory.ensures.told c.halt-in-Memory.ensures.calls c.halt-in-Memory.ensures.said c.halt-in-Memory.ensures.claimed)
    (Claims claim.Memory ∷ so.0, refl)

pub returns-in-Stopped-serve-clause-faults : goal.returns-in-Stopped-serve-clause-faults
returns-in-Stopped-serve-clause-faults g c = omega (arith, c.loop.invariant.faults, c.serve.ensures.faults)

pub returns-in-Memory-serve-clause-faults : goal.returns-in-Memory-serve-clause-faults
returns-in-Memory-serve-clause-faults g c = omega (arith, c.loop.invariant.faults, c.serve.ensures.faults)
