use Rattle.std.proofs.Common.{refl}
use Rattle.std.proofs.lemmas.Result.{err_from_is_err_and}
use Rattle.std.specs.Prelude.{Ok}
use Rattle.cps_frames.specs.declared.thread.Move.TheVariants.{Ends}
use Rattle.model_run.specs.declared.ending.Ending.TheVariants.{Normal}
use Rattle.model_values.specs.declared.value.Value.TheVariants.{Null}
use Rattle.model_run.specs.Around.{ended}
use Rattle.step_library.proofs.StepMoves.{no_line, to_line}
use Rattle.cps_frames.proofs.MoveLaws.{comes_ended}
use Rattle.step_library.proofs.lines.last_line.Goals as goal

pub returns-in_err-say : goal.returns-in_err-say
returns-in_err-say c = λ t k r pos.
    let p = err_from_is_err_and c.from_residual.result c.from_residual.ensures.1 in
    rw (p.1, p.2) (no_line k r c.args.text.now (λ sh a. ended Null) c.in_err-say.field-0.0 _ _ (c.in_err-say.ensures t) pos)

pub returns : goal.returns
returns c = λ t k r pos. to_line k r c.args.text.now (λ sh a. ended Null) _ _ (Ok (Ends (Normal Null))) _ (c.in_ok-say.ensures t) (comes_ended k r _ _ _ pos (λ a rs. refl))
