use Rattle.std.proofs.Common.{◌≡◌, refl, ap}
use Rattle.cps_frames.specs.declared.shared.Shared.{Shared}
use Rattle.script_thread.specs.Names.{DecidedEvent, DecidedAnswer}
use Rattle.script_thread.specs.Events.{shared_after}
use Rattle.build_core.proofs.Answering.{may_answer, decided, goes_on, map_ok}
use Rattle.build_core.proofs.Fitting.{input_open, thread_is}
use Rattle.build_core.proofs.Stepping.{steps_answered}
use Rattle.build_core.proofs.Marks.{but_for, closed_request}
use Rattle.build_core.proofs.events.decide.Goals as goal

pub answer-requires : goal.answer-requires
answer-requires g c =
    let u : Shared = c.args.shared.now in
    let u2 : Shared = record u { requests = c.close-closed.new.requests; count = 0 } in
    let same : u2 ≡ shared_after (DecidedEvent c.args.request c.args.proceed c.args.name) u = ap (λ rs. record u { requests = rs; count = 0 }) c.close-closed.ensures.others in
    record {
      may = may_answer g.R.Runner.number g.R.Runner.parent g.R.Runner.branch g.R.Runner.fits g.met.R.ScriptThread.awaited g.met.R.ScriptThread.event_fits c.args.group.now u c.requires.go
          (DecidedEvent c.args.request c.args.proceed c.args.name) c.requires.accepted tt c.args.request (DecidedAnswer c.args.proceed c.args.name) refl (input_open _ c.requires.accepted)
          c.close-closed.result.thread (thread_is c.args.request u.requests c.close-closed.result c.close-closed.ensures.closed) _ refl u2 same;
    }

pub returns-clause-stands : goal.returns-clause-stands
returns-clause-stands g c =
    let u : Shared = c.args.shared.now in
    let u2 : Shared = record u { requests = c.close-closed.new.requests; count = 0 } in
    let same : u2 ≡ shared_after (DecidedEvent c.args.request c.args.proceed c.args.name) u = ap (λ rs. record u { requests = rs; count = 0 }) c.close-closed.ensures.others in
    map_ok c.answer.result c.answer.ensures.stands
    (λ p further. goes_on g.R.ScriptThread.stance c.args.group.now u (DecidedEvent c.args.request c.args.proceed c.args.name) _ (DecidedAnswer c.args.proceed c.args.name) c.close-closed.result.thread (thread_is c.args.request u.requests c.close-closed.result c.close-closed.ensures.closed) _ refl u2 same
    (decided g.R.ScriptThread.stance c.args.group.now u c.args.request c.args.proceed c.args.name) p _ _ further)

pub returns-clause-steps : goal.returns-clause-steps
returns-clause-steps g c =
    let u : Shared = c.args.shared.now in
    let u2 : Shared = record u { requests = c.close-closed.new.requests; count = 0 } in
    let same : u2 ≡ shared_after (DecidedEvent c.args.request c.args.proceed c.args.name) u = ap (λ rs. record u { requests = rs; count = 0 }) c.close-closed.ensures.others in
    map_ok c.answer.result c.answer.ensures.steps
    (λ p k. steps_answered g.R.ScriptThread.stance g.R.Runner.seated g.R.Runner.head g.R.Runner.turns g.R.Runner.room (DecidedEvent c.args.request c.args.proceed c.args.name) c.args.group.now u c.args.request (DecidedAnswer c.args.proceed c.args.name) refl (λ j passes. passes)
    c.close-closed.result.thread (thread_is c.args.request u.requests c.close-closed.result c.close-closed.ensures.closed) _ refl u2 same p _ _ k)

pub returns-clause-marks : goal.returns-clause-marks
returns-clause-marks g c = map_ok c.answer.result c.answer.ensures.marks (λ p k. but_for c.args.shared.now (record c.args.shared.now { requests = c.close-closed.new.requests; count = 0 }) _ refl refl refl refl (closed_request c.args.request _ _ refl c.close-closed.ensures.others) k)
