use Rattle.std.proofs.Common.{refl}
use Rattle.std.proofs.lemmas.Result.{err_from_is_err_and}
use Rattle.std.specs.Prelude.{Err}
use Rattle.std.specs.Str.Lossy.{utf8_lossy}
use Rattle.model_values.specs.Cells.{new_text}
use Rattle.model_run.specs.Around.{cells, ended, limits}
use Rattle.cps_frames.specs.Halts.{halt_of}
use Rattle.cps_frames.specs.Standing.{standing}
use Rattle.cps_frames.proofs.MoveLaws.{done_answers, to_thrown}
use Rattle.step_library.proofs.StepMoves.{to_text}
use Rattle.step_library.proofs.shell.kept_output.Goals as goal

pub returns-in_err-value : goal.returns-in_err-value
returns-in_err-value c = λ t k r pos.
    let p = err_from_is_err_and c.from_residual-in_err-value.result c.from_residual-in_err-value.ensures.1 in
    rw (p.1, p.2) (to_text k r c.in_ok-text.text (utf8_lossy c.args.out.now) (standing c.args.shared.now t) (Err (halt_of c.in_err-value.field-0.0)) (standing (record c.args.shared.now { heap = c.perform.new.heap }) t) c.in_ok-text.ensures
    (to_thrown k r (λ w. new_text (limits w) (cells w) c.in_ok-text.text) (λ v sh a. ended v) c.in_err-value.field-0.0 _ _ (done_answers (λ w. new_text (limits w) (cells w) c.in_ok-text.text) c.args.shared.now.heap c.perform.new.heap _ (Err c.in_err-value.field-0.0) _ refl refl refl (record { parent = refl; heap = c.in_err-value.ensures.leaves.follows }) c.in_err-value.ensures.answer) pos))
