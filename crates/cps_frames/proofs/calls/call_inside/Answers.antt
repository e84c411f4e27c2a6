use Rattle.std.proofs.lemmas.Result.{err_from_is_err_and}
use Rattle.model_run.proofs.Room.{spends_count}
use Rattle.model_run.specs.State.{may_count, counted}
use Rattle.cps_frames.specs.declared.halt.Halt.TheVariants.{Limit}
use Rattle.cps_frames.proofs.MoveLaws.{beside_frames, comes_body, same_world, to_body_refused}
use Rattle.cps_frames.proofs.calls.call_inside.Goals as goal

pub returns-in_err-tick : goal.returns-in_err-tick
returns-in_err-tick c = λ r pos.
    let p = err_from_is_err_and c.from_residual.result c.from_residual.ensures.1 in
    rw (p.1, p.2) (to_body_refused r _ c.args.frame _ _ may_count counted (Limit c.in_err-tick.field-0.0) _ _ (c.in_err-tick.ensures c.args.state.now) pos)

pub returns : goal.returns
returns c = λ r pos.
    comes_body r _ c.args.frame _ _ may_count counted spends_count _ _ _ (c.in_ok-tick.ensures c.args.state.now)
    (same_world c.tick.new.shared c.args.state.now c.push.new.self c.in_ok-push.ensures.same) c.in_ok-push.ensures.pushed (beside_frames c.tick.new.shared c.args.state.now c.push.new.self c.push.ensures.parent) c.requires.few
