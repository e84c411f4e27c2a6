use Rattle.std.proofs.lemmas.Result.{err_from_is_err_and}
use Rattle.model_run.proofs.Room.{spends_count}
use Rattle.model_run.specs.State.{may_count, counted}
use Rattle.cps_frames.proofs.MoveLaws.{comes_again, comes_met}
use Rattle.cps_frames.proofs.calls.turn.Goals as goal

pub returns-in_err-tick : goal.returns-in_err-tick
returns-in_err-tick c = λ t r pos.
    let p = err_from_is_err_and c.from_residual.result c.from_residual.ensures.1 in
    rw (p.1, p.2) (comes_met _ r may_count counted (λ sh a. a.again c.args.at c.args.kept c.args.env) _ _ _ (c.in_err-tick.ensures t) pos)

pub returns : goal.returns
returns c = λ t r pos. comes_again _ r _ _ _ may_count counted spends_count _ _ (c.in_ok-tick.ensures t)
