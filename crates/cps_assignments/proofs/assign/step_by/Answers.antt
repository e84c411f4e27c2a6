use Rattle.std.proofs.Common.{◌^◌, Err, arith}
use Rattle.std.proofs.lemmas.Result.{err_from_is_err_and}
use Rattle.model_run.specs.State.{counted, may_count}
use Rattle.model_run.specs.Nesting.{shape_at}
use Rattle.cps_code.specs.Script.{script_of}
use Rattle.cps_frames.specs.Halts.{halt_of}
use Rattle.cps_frames.specs.Standing.{standing}
use Rattle.cps_frames.specs.declared.halt.Halt.TheVariants.{Limit}
use Rattle.cps_frames.proofs.MoveLaws.{comes_met}
use Rattle.cps_assignments.specs.Targets.{read_answer, stepped}
use Rattle.model_run.specs.Around.{form_at}
use Rattle.model_run.specs.State.{operating}
use Rattle.model_run.specs.Assignments.{write_target}
use Rattle.cps_assignments.proofs.AssignLaws.{behind_read, to_not_counted, to_not_read, to_not_stepped, to_read, to_stepped}
use Rattle.cps_assignments.proofs.TargetLaws.{read_later, stands_counted, stands_done, stands_suffix, stepped_later, there_counted}
use Rattle.cps_assignments.proofs.assign.step_by.Goals as goal

pub returns-in_err-count_suffix : goal.returns-in_err-count_suffix
returns-in_err-count_suffix c = λ r lt.
    let p = err_from_is_err_and c.from_residual.result c.from_residual.ensures.1 in
    rw (p.1, p.2) (to_not_counted c.args.node r c.args.place c.args.env (behind_read c.args.is_up c.args.place c.args.env) c.in_err-count_suffix.field-0.0 _ _ (c.in_err-count_suffix.ensures c.args.state.now) lt)

pub read_target-requires : goal.read_target-requires
read_target-requires c = stands_suffix _ (standing c.args.shared.now c.args.state.now) (standing c.count_suffix.new.shared c.args.state.now) c.args.node c.args.env c.args.place (c.in_ok-count_suffix.ensures c.args.state.now) c.requires

pub returns-in_err-old : goal.returns-in_err-old
returns-in_err-old c = λ r lt.
    let p = err_from_is_err_and c.from_residual-in_err-old.result c.from_residual-in_err-old.ensures.1 in
    rw (p.1, p.2) (to_not_read c.args.node r c.args.place c.args.env (behind_read c.args.is_up c.args.place c.args.env) c.in_err-old.field-0.0 _ _ _ (c.in_ok-count_suffix.ensures c.args.state.now) (c.in_err-old.ensures.done c.args.state.now) lt)

pub returns-in_err-tick : goal.returns-in_err-tick
returns-in_err-tick c = λ r lt.
    let p = err_from_is_err_and c.from_residual-in_err-tick.result c.from_residual-in_err-tick.ensures.1 in
    rw (p.1, p.2) (to_read c.args.node r c.args.place c.args.env (behind_read c.args.is_up c.args.place c.args.env) c.in_ok-old.old _ _ _ (Err (Limit c.in_err-tick.field-0.0)) _ (c.in_ok-count_suffix.ensures c.args.state.now) (c.in_ok-old.ensures.done c.args.state.now)
    (comes_met c.args.node r may_count counted (λ sh a. operating (λ w. stepped c.args.is_up w c.in_ok-old.old) (write_target (form_at sh.parts 0) c.args.place c.args.env)) c.in_err-tick.field-0.0 _ _ (c.in_err-tick.ensures c.args.state.now) lt))

pub stepped-requires : goal.stepped-requires
stepped-requires c = there_counted (standing c.read_target.new.shared c.args.state.now) (standing c.tick.new.shared c.args.state.now) c.in_ok-old.old (c.in_ok-tick.ensures c.args.state.now) c.in_ok-old.ensures.there

pub returns-in_err-new : goal.returns-in_err-new
returns-in_err-new c = λ r lt.
    let p = err_from_is_err_and c.from_residual-in_err-new.result c.from_residual-in_err-new.ensures.1 in
    rw (p.1, p.2) (to_read c.args.node r c.args.place c.args.env (behind_read c.args.is_up c.args.place c.args.env) c.in_ok-old.old _ _ _ (Err (halt_of c.in_err-new.field-0.0)) (standing c.stepped.new.shared c.args.state.now) (c.in_ok-count_suffix.ensures c.args.state.now) (c.in_ok-old.ensures.done c.args.state.now)
    (to_not_stepped c.args.node r c.args.is_up c.args.place c.args.env c.in_ok-old.old c.in_err-new.field-0.0 _ _ _ (c.in_ok-tick.ensures c.args.state.now) (c.in_err-new.ensures.done c.args.state.now)))

pub write_target-requires-clause-stands : goal.write_target-requires-clause-stands
write_target-requires-clause-stands c =
    stands_done (λ w. stepped c.args.is_up w c.in_ok-old.old) (standing c.tick.new.shared c.args.state.now) (standing c.stepped.new.shared c.args.state.now) c.in_ok-new.new c.args.node c.args.env c.args.place (stepped_later c.args.is_up c.in_ok-old.old (standing c.tick.new.shared c.args.state.now).world) (c.in_ok-new.ensures.done c.args.state.now)
    (stands_counted (standing c.read_target.new.shared c.args.state.now) (standing c.tick.new.shared c.args.state.now) c.args.node c.args.env c.args.place (c.in_ok-tick.ensures c.args.state.now)
    (stands_done (read_answer (form_at (shape_at (script_of c.count_suffix.new.shared.code) c.args.node).parts 0) c.args.place c.args.env) (standing c.count_suffix.new.shared c.args.state.now) (standing c.read_target.new.shared c.args.state.now) c.in_ok-old.old c.args.node c.args.env c.args.place (read_later (form_at (shape_at (script_of c.count_suffix.new.shared.code) c.args.node).parts 0) c.args.place c.args.env (standing c.count_suffix.new.shared c.args.state.now).world) (c.in_ok-old.ensures.done c.args.state.now)
    (stands_suffix _ (standing c.args.shared.now c.args.state.now) (standing c.count_suffix.new.shared c.args.state.now) c.args.node c.args.env c.args.place (c.in_ok-count_suffix.ensures c.args.state.now) c.requires)))

pub returns : goal.returns
returns c = λ r lt.
    to_read c.args.node r c.args.place c.args.env (behind_read c.args.is_up c.args.place c.args.env) c.in_ok-old.old _ _ _ _ _ (c.in_ok-count_suffix.ensures c.args.state.now) (c.in_ok-old.ensures.done c.args.state.now)
    (to_stepped c.args.node r c.args.is_up c.args.place c.args.env c.in_ok-old.old c.in_ok-new.new _ _ _ _ _ (c.in_ok-tick.ensures c.args.state.now) (c.in_ok-new.ensures.done c.args.state.now) (c.write_target.ensures c.args.state.now (2 ^ 66) (omega arith)))
