use Rattle.std.proofs.Common.{refl}
use Rattle.std.specs.Prelude.{Ok}
use Rattle.std.proofs.lemmas.Result.{err_from_is_err_and}
use Rattle.model_run.proofs.Room.{keeps_count}
use Rattle.model_run.specs.Around.{ended}
use Rattle.model_run.specs.State.{counted, may_count}
use Rattle.model_run.specs.declared.ending.Ending.TheVariants.{Normal}
use Rattle.cps_frames.specs.declared.thread.Move.TheVariants.{Ends}
use Rattle.cps_frames.proofs.MoveLaws.{comes_ended, comes_met, to_passed}
use Rattle.cps_operators.proofs.moves.counted_value.Goals as goal

pub returns-in_err-tick : goal.returns-in_err-tick
returns-in_err-tick c = λ t k r pos.
    let p = err_from_is_err_and c.from_residual.result c.from_residual.ensures.1 in
    rw (p.1, p.2) (comes_met k r may_count counted (λ sh a. ended c.args.value) _ _ _ (c.in_err-tick.ensures t) pos)

pub returns : goal.returns
returns c = λ t k r pos.
    to_passed k r may_count counted keeps_count (λ sh a. ended c.args.value) _ _ (Ok (Ends (Normal c.args.value))) _ (c.in_ok-tick.ensures t) (comes_ended k r (λ sh a. ended c.args.value) _ (Normal c.args.value) pos (λ a rs. refl))
