use Rattle.std.proofs.Common.{◌≡◌, ◌∙◌, ℕ, ℤ, List, Some, refl, sym, ap, rules, to_z, of_z, w32}
use Rattle.std.specs.Prelude.{find, nat_eq}
use Rattle.model_run.specs.World as W
use Rattle.model_run.specs.Taking.{request_of}
use Rattle.cps_frames.specs.declared.shared.Shared.{Shared}
use Rattle.script_thread.specs.Names.{ExitedEvent, Done, OpenRequest}
use Rattle.script_thread.specs.Events.{shared_after}
use Rattle.build_core.proofs.Answering.{may_answer, ended, goes_on, map_ok}
use Rattle.build_core.proofs.Fitting.{task_open, thread_is, request_is}
use Rattle.build_core.proofs.Stepping.{steps_answered}
use Rattle.build_core.proofs.Marks.{but_for, closed_request}
use Rattle.build_core.proofs.events.end_task.Goals as goal

-- the answer that the thread gets
answer_is : (out : List ℕ) (code code2 : ℤ) (rs : List OpenRequest) (n : ℕ) (r : OpenRequest) → code2 ≡ code → find (λ q. nat_eq q.number n) rs ≡ Some r → out ≡ W.kept_output (Some r.request) → Done code (W.kept_output (request_of rs n)) ≡ Done code2 out
answer_is out code code2 rs n r e f o = ap (λ z. Done z (W.kept_output (request_of rs n))) (sym e) ∙ ap (λ q. Done code2 (W.kept_output q)) (request_is n rs r f) ∙ ap (λ b. Done code2 b) (sym o)

pub answer-requires : goal.answer-requires
answer-requires g c =
    let u : Shared = c.args.shared.now in
    let u2 : Shared = record u { requests = c.close-closed.new.requests; count = 0 } in
    let same : u2 ≡ shared_after (ExitedEvent c.args.task c.args.code) u = ap (λ rs. record u { requests = rs; count = 0 }) c.close-closed.ensures.others in
    let code_is : to_z w32 (of_z w32 c.args.code) ≡ c.args.code = search rules in
    record {
      may = may_answer g.R.Runner.number g.R.Runner.parent g.R.Runner.branch g.R.Runner.fits g.met.R.ScriptThread.awaited g.met.R.ScriptThread.event_fits c.args.group.now u c.requires.go
          (ExitedEvent c.args.task c.args.code) c.requires.accepted tt c.args.task (Done c.args.code (W.kept_output (request_of u.requests c.args.task))) refl (task_open _ c.requires.accepted)
          c.close-closed.result.thread (thread_is c.args.task u.requests c.close-closed.result c.close-closed.ensures.closed)
          (Done (to_z w32 (of_z w32 c.args.code)) c.take_output-out.result) (answer_is c.take_output-out.result c.args.code (to_z w32 (of_z w32 c.args.code)) u.requests c.args.task c.close-closed.result code_is c.close-closed.ensures.closed c.take_output-out.ensures) u2 same;
    }

pub returns-clause-stands : goal.returns-clause-stands
returns-clause-stands g c =
    let u : Shared = c.args.shared.now in
    let u2 : Shared = record u { requests = c.close-closed.new.requests; count = 0 } in
    let same : u2 ≡ shared_after (ExitedEvent c.args.task c.args.code) u = ap (λ rs. record u { requests = rs; count = 0 }) c.close-closed.ensures.others in
    let code_is : to_z w32 (of_z w32 c.args.code) ≡ c.args.code = search rules in
    map_ok c.answer.result c.answer.ensures.stands
    (λ p further. goes_on g.R.ScriptThread.stance c.args.group.now u (ExitedEvent c.args.task c.args.code) _ (Done c.args.code (W.kept_output (request_of u.requests c.args.task))) c.close-closed.result.thread (thread_is c.args.task u.requests c.close-closed.result c.close-closed.ensures.closed)
    (Done (to_z w32 (of_z w32 c.args.code)) c.take_output-out.result) (answer_is c.take_output-out.result c.args.code (to_z w32 (of_z w32 c.args.code)) u.requests c.args.task c.close-closed.result code_is c.close-closed.ensures.closed c.take_output-out.ensures) u2 same
    (ended g.R.ScriptThread.stance c.args.group.now u c.args.task c.args.code) p _ _ further)

pub returns-clause-steps : goal.returns-clause-steps
returns-clause-steps g c =
    let u : Shared = c.args.shared.now in
    let u2 : Shared = record u { requests = c.close-closed.new.requests; count = 0 } in
    let same : u2 ≡ shared_after (ExitedEvent c.args.task c.args.code) u = ap (λ rs. record u { requests = rs; count = 0 }) c.close-closed.ensures.others in
    let code_is : to_z w32 (of_z w32 c.args.code) ≡ c.args.code = search rules in
    map_ok c.answer.result c.answer.ensures.steps
    (λ p k. steps_answered g.R.ScriptThread.stance g.R.Runner.seated g.R.Runner.head g.R.Runner.turns g.R.Runner.room (ExitedEvent c.args.task c.args.code) c.args.group.now u c.args.task (Done c.args.code (W.kept_output (request_of u.requests c.args.task))) refl (λ j passes. passes)
    c.close-closed.result.thread (thread_is c.args.task u.requests c.close-closed.result c.close-closed.ensures.closed)
    (Done (to_z w32 (of_z w32 c.args.code)) c.take_output-out.result) (answer_is c.take_output-out.result c.args.code (to_z w32 (of_z w32 c.args.code)) u.requests c.args.task c.close-closed.result code_is c.close-closed.ensures.closed c.take_output-out.ensures) u2 same p _ _ k)

pub returns-clause-marks : goal.returns-clause-marks
returns-clause-marks g c = map_ok c.answer.result c.answer.ensures.marks (λ p k. but_for c.args.shared.now (record c.args.shared.now { requests = c.close-closed.new.requests; count = 0 }) _ refl refl refl refl (closed_request c.args.task _ _ refl c.close-closed.ensures.others) k)
