use Rattle.std.proofs.Common.{Ok, refl}
use Rattle.std.proofs.lemmas.Result.{err_from_is_err_and}
use Rattle.model_run.specs.State.{Ended}
use Rattle.model_run.specs.declared.ending.Ending.TheVariants.{Declared}
use Rattle.cps_frames.specs.declared.thread.Move.TheVariants.{Ends}
use Rattle.cps_frames.proofs.MoveLaws.{comes_ended}
use Rattle.cps_variables.proofs.VariableLaws.{to_new, to_not_new}
use Rattle.cps_variables.proofs.variables.declare.Goals as goal

pub returns-in_err-cell : goal.returns-in_err-cell
returns-in_err-cell c = λ t k r pos.
    let p = err_from_is_err_and c.from_residual.result c.from_residual.ensures.1 in
    rw (p.1, p.2) (to_not_new k r c.args.value (λ n sh a. Ended (Declared (record { name = c.args.name; cell = n }))) c.in_err-cell.field-0.0 _ _ (c.in_err-cell.ensures.done t) pos)

pub returns : goal.returns
returns c = λ t k r pos.
    let e = Declared (record { name = c.args.name; cell = c.in_ok-cell.cell }) in
    to_new k r c.args.value (λ n sh a. Ended (Declared (record { name = c.args.name; cell = n }))) c.in_ok-cell.cell _ _ (Ok (Ends e)) _ (c.in_ok-cell.ensures.done t)
    (comes_ended k r (λ sh a. Ended e) _ e pos (λ a rs. refl))
