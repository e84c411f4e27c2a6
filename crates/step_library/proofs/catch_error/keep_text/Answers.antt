use Rattle.std.proofs.Common.{refl, subst}
use Rattle.std.proofs.lemmas.Result.{err_from_is_err_and}
use Rattle.value_view.specs.Answers.{Answers}
use Rattle.model_run.specs.Steps.{kept_text}
use Rattle.cps_frames.specs.Standing.{standing}
use Rattle.cps_frames.proofs.MoveLaws.{done_answers}
use Rattle.step_library.proofs.KeptLaws.{closures_stay, read_stops}
use Rattle.step_library.proofs.catch_error.keep_text.Goals as goal

pub returns-in_err-effect-clause-done : goal.returns-in_err-effect-clause-done
returns-in_err-effect-clause-done c = λ t.
    let p = err_from_is_err_and c.from_residual.result c.from_residual.ensures.1 in
    rw (p.1, p.2) (read_stops (λ w. kept_text w c.args.message) (standing c.args.shared.now t) c.in_err-effect.field-0.0 (c.in_err-effect.ensures.read t))

pub returns-clause-done : goal.returns-clause-done
returns-clause-done c = λ t.
    done_answers (λ w. kept_text w c.args.message) c.args.shared.now.heap c.perform.new.heap (standing c.args.shared.now t) c.perform.result _ refl refl refl (record { parent = refl; heap = c.perform.ensures.leaves.follows })
    (subst (λ a. Answers a c.args.shared.now.heap c.perform.new.heap c.perform.result) (c.in_ok-effect.ensures.read t) c.perform.ensures.answer)

pub returns-clause-stay : goal.returns-clause-stay
returns-clause-stay c = closures_stay c.in_ok-effect.effect c.args.shared.now.heap c.perform.new.heap c.perform.result c.in_ok-effect.ensures.kept c.perform.ensures.answer
