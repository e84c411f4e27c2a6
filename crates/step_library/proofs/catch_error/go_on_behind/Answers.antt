use Rattle.std.proofs.Common.{◌∙◌, List, ℕ, subst, arith}
use Rattle.std.proofs.lemmas.Result.{err_from_is_err_and}
use Rattle.std.specs.Prelude.{Err}
use Rattle.model_run.specs.State.{changed}
use Rattle.model_run.specs.Steps.{catch_end, logging_all, result_at, worsened}
use Rattle.cps_frames.specs.Moves.{ComesTo}
use Rattle.cps_frames.specs.Standing.{standing}
use Rattle.step_library.specs.Changing.{Changes}
use Rattle.step_library.proofs.StepMoves.{no_logged, to_left, to_logged}
use Rattle.step_library.proofs.catch_error.go_on_behind.Goals as goal

pub returns-in_err-say_all : goal.returns-in_err-say_all
returns-in_err-say_all c = λ k r pos.
    let told = c.as_slice.ensures ∙ c.in_ok-lines.ensures in
    let p = err_from_is_err_and c.from_residual-in_err-say_all.result c.from_residual-in_err-say_all.ensures.1 in
    rw (p.1, p.2) (subst (λ (ls : List (List ℕ)). ComesTo k r (λ sh a. logging_all ls (changed (worsened (result_at c.args.least)) (catch_end c.args.start))) (standing c.args.shared.now c.args.state.now) (Err c.in_err-say_all.field-0.0) (standing c.say_all.new.shared c.args.state.now)) told
    (no_logged k r (logging_all c.as_slice.result.now) (λ sh a. changed (worsened (result_at c.args.least)) (catch_end c.args.start)) c.in_err-say_all.field-0.0 _ _ (c.in_err-say_all.ensures c.args.state.now) pos))

pub returns : goal.returns
returns c = λ k r pos.
    let told = c.as_slice.ensures ∙ c.in_ok-lines.ensures in
    let u = standing c.args.shared.now c.args.state.now in
    let u1 = standing c.say_all.new.shared c.args.state.now in
    let u2 = standing c.worsen.new.shared c.args.state.now in
    let v = standing c.catch_end.new.shared c.catch_end.new.state in
    subst (λ (ls : List (List ℕ)). ComesTo k r (λ sh a. logging_all ls (changed (worsened (result_at c.args.least)) (catch_end c.args.start))) u c.catch_end.result v) told
    (to_logged k r (logging_all c.as_slice.result.now) (λ sh a. changed (worsened (result_at c.args.least)) (catch_end c.args.start)) u u1 _ _ (c.in_ok-say_all.ensures c.args.state.now)
    (to_left k r (worsened (result_at c.args.least)) (λ w. omega arith) (λ sh a. catch_end c.args.start) u1 u2 _ _ (subst (λ x. Changes (worsened x) u1 u2) c.result_at.ensures (c.worsen.ensures c.args.state.now)) (c.catch_end.ensures k r pos)))
