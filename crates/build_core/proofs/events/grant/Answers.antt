use Rattle.std.proofs.Common.{◌≡◌, refl}
use Rattle.cps_frames.specs.Standing.{setting_of, common_of}
use Rattle.cps_frames.specs.declared.shared.Shared.{Shared}
use Rattle.script_thread.specs.Names.{GrantedEvent, GrantedAnswer}
use Rattle.script_thread.specs.Events.{shared_after}
use Rattle.build_core.proofs.Answering.{may_answer, granted, granted_same, goes_on, map_ok}
use Rattle.build_core.proofs.Fitting.{grant_open, thread_is, few_held}
use Rattle.build_core.proofs.Stepping.{steps_answered}
use Rattle.build_core.proofs.Marks.{but_for, closed_request}
use Rattle.build_core.proofs.events.grant.Goals as goal

pub hold_executor-requires : goal.hold_executor-requires
hold_executor-requires g c =
    let u : Shared = c.args.shared.now in
    few_held (setting_of u) (common_of u) c.args.request (g.met.R.ScriptThread.shared_fits _ _ c.requires.go.fit) (grant_open u.site u.held u.requests c.args.executor _ c.requires.accepted)

pub answer-requires : goal.answer-requires
answer-requires g c =
    let u : Shared = c.args.shared.now in
    let u2 : Shared = record u { requests = c.close-closed.new.requests; held = c.hold_executor.new.held; count = 0 } in
    let same : u2 ≡ shared_after (GrantedEvent c.args.request c.args.executor) u = granted_same u c.args.request c.args.executor c.close-closed.new.requests c.hold_executor.new.held c.close-closed.ensures.others c.in_ok-hold_executor.ensures in
    record {
      may = may_answer g.R.Runner.number g.R.Runner.parent g.R.Runner.branch g.R.Runner.fits g.met.R.ScriptThread.awaited g.met.R.ScriptThread.event_fits c.args.group.now u c.requires.go
          (GrantedEvent c.args.request c.args.executor) c.requires.accepted tt c.args.request (GrantedAnswer c.args.executor) refl (grant_open u.site u.held u.requests c.args.executor _ c.requires.accepted)
          c.close-closed.result.thread (thread_is c.args.request u.requests c.close-closed.result c.close-closed.ensures.closed) _ refl u2 same;
    }

pub returns-clause-stands : goal.returns-clause-stands
returns-clause-stands g c =
    let u : Shared = c.args.shared.now in
    let u2 : Shared = record u { requests = c.close-closed.new.requests; held = c.hold_executor.new.held; count = 0 } in
    let same : u2 ≡ shared_after (GrantedEvent c.args.request c.args.executor) u = granted_same u c.args.request c.args.executor c.close-closed.new.requests c.hold_executor.new.held c.close-closed.ensures.others c.in_ok-hold_executor.ensures in
    map_ok c.answer.result c.answer.ensures.stands
    (λ p further. goes_on g.R.ScriptThread.stance c.args.group.now u (GrantedEvent c.args.request c.args.executor) _ (GrantedAnswer c.args.executor) c.close-closed.result.thread (thread_is c.args.request u.requests c.close-closed.result c.close-closed.ensures.closed) _ refl u2 same
    (granted g.R.ScriptThread.stance c.args.group.now u c.args.request c.args.executor) p _ _ further)

pub returns-clause-steps : goal.returns-clause-steps
returns-clause-steps g c =
    let u : Shared = c.args.shared.now in
    let u2 : Shared = record u { requests = c.close-closed.new.requests; held = c.hold_executor.new.held; count = 0 } in
    let same : u2 ≡ shared_after (GrantedEvent c.args.request c.args.executor) u = granted_same u c.args.request c.args.executor c.close-closed.new.requests c.hold_executor.new.held c.close-closed.ensures.others c.in_ok-hold_executor.ensures in
    map_ok c.answer.result c.answer.ensures.steps
    (λ p k. steps_answered g.R.ScriptThread.stance g.R.Runner.seated g.R.Runner.head g.R.Runner.turns g.R.Runner.room (GrantedEvent c.args.request c.args.executor) c.args.group.now u c.args.request (GrantedAnswer c.args.executor) refl (λ j passes. passes)
    c.close-closed.result.thread (thread_is c.args.request u.requests c.close-closed.result c.close-closed.ensures.closed) _ refl u2 same p _ _ k)

pub returns-clause-marks : goal.returns-clause-marks
returns-clause-marks g c = map_ok c.answer.result c.answer.ensures.marks (λ p k. but_for c.args.shared.now (record c.args.shared.now { requests = c.close-closed.new.requests; held = c.hold_executor.new.held; count = 0 }) _ refl refl refl refl (closed_request c.args.request _ _ refl c.close-closed.ensures.others) k)
