use Rattle.std.proofs.Common.{[], sym, subst}
use Rattle.std.proofs.lemmas.Result.{err_from_is_err_and}
use Rattle.model_run.proofs.Room.{spends_body}
use Rattle.model_run.specs.FlowNodes.{body_limit, noted_body}
use Rattle.model_run.specs.Forms.{after}
use Rattle.model_run.specs.Steps.{run_body}
use Rattle.model_run.specs.declared.ending.Entry.TheVariants.{Body}
use Rattle.cps_frames.specs.Moves.{Comes}
use Rattle.cps_frames.specs.Standing.{standing}
use Rattle.cps_frames.specs.declared.thread.Move.TheVariants.{Enter}
use Rattle.cps_frames.proofs.MoveLaws.{beside_frames, comes_body, same_world, to_body_refused}
use Rattle.cps_frames.proofs.calls.run_body.Goals as goal

pub returns-in_err-note_body : goal.returns-in_err-note_body
returns-in_err-note_body c = λ r pos.
    let p = err_from_is_err_and c.from_residual.result c.from_residual.ensures.1 in
    rw (p.1, p.2) (to_body_refused r _ c.args.frame _ _ (body_limit c.args.label.now) (noted_body c.args.label.now) c.in_err-note_body.field-0.0 _ _ c.in_err-note_body.ensures pos)

pub returns : goal.returns
returns c = λ r pos.
    subst (λ vs. Comes c.args.frame.node r (λ sh a. run_body a c.args.frame (after c.args.frame sh a) c.args.label.now c.args.callee) (standing c.args.shared.now c.args.state.now) (Enter (Body vs) c.args.callee.node c.args.callee.env) (standing c.note_body.new.shared c.push.new.self)) (sym c.new-arguments.ensures)
    (comes_body r _ c.args.frame [] _ (body_limit c.args.label.now) (noted_body c.args.label.now) (spends_body c.args.label.now) _ _ _ c.in_ok-note_body.ensures
    (same_world c.note_body.new.shared c.note_body.new.state c.push.new.self c.in_ok-push.ensures.same) c.in_ok-push.ensures.pushed (beside_frames c.note_body.new.shared c.note_body.new.state c.push.new.self c.push.ensures.parent) c.requires.few)
