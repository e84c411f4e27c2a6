use Rattle.std.proofs.Common.{◌∙◌, ◌++◌, ◌∷◌, [], List, ℕ, ap, subst}
use Rattle.std.proofs.lemmas.Result.{err_from_is_err_and}
use Rattle.std.specs.Prelude.{Err, slice_get}
use Rattle.model_run.specs.Steps.{after_retry, caught_lines, logging_all, retry_body}
use Rattle.cps_frames.specs.Moves.{ComesTo}
use Rattle.cps_frames.specs.Standing.{standing}
use Rattle.step_library.proofs.StepMoves.{cells_logged, closure_kept, countable_logged, no_logged, to_logged}
use Rattle.step_library.proofs.retry.try_again.Goals as goal

pub returns-in_err-say_all : goal.returns-in_err-say_all
returns-in_err-say_all c = λ r pos.
    let caught = caught_lines (slice_get c.args.shared.now.heap.cells c.args.cell) in
    let told = c.as_slice.ensures ∙ c.in_ok-push.ensures.pushed ∙ ap (λ (ls : List (List ℕ)). ls ++ c.in_ok-from_str.field-0 ∷ []) c.in_ok-lines.ensures ∙ ap (λ (t : List ℕ). caught ++ t ∷ []) c.in_ok-from_str.ensures in
    let p = err_from_is_err_and c.from_residual-in_err-say_all.result c.from_residual-in_err-say_all.ensures.1 in
    rw (p.1, p.2) (subst (λ (ls : List (List ℕ)). ComesTo c.args.node r (λ sh a. logging_all ls (retry_body (after_retry a c.args.node c.args.env c.args.start c.args.body.now c.args.more) a c.args.node c.args.env c.args.start c.args.more c.args.body.now)) (standing c.args.shared.now c.args.state.now) (Err c.in_err-say_all.field-0.0) (standing c.say_all.new.shared c.args.state.now)) told
    (no_logged c.args.node r (logging_all c.as_slice.result.now) (λ sh a. retry_body (after_retry a c.args.node c.args.env c.args.start c.args.body.now c.args.more) a c.args.node c.args.env c.args.start c.args.more c.args.body.now) c.in_err-say_all.field-0.0 _ _ (c.in_err-say_all.ensures c.args.state.now) pos))

pub begin_try-requires-clause-body : goal.begin_try-requires-clause-body
begin_try-requires-clause-body c = closure_kept _ _ _ (cells_logged _ _ (c.in_ok-say_all.ensures c.args.state.now).only) c.requires.body

pub begin_try-requires-clause-countable : goal.begin_try-requires-clause-countable
begin_try-requires-clause-countable c = countable_logged _ _ (c.in_ok-say_all.ensures c.args.state.now).only c.requires.countable

pub returns : goal.returns
returns c = λ r pos.
    let caught = caught_lines (slice_get c.args.shared.now.heap.cells c.args.cell) in
    let told = c.as_slice.ensures ∙ c.in_ok-push.ensures.pushed ∙ ap (λ (ls : List (List ℕ)). ls ++ c.in_ok-from_str.field-0 ∷ []) c.in_ok-lines.ensures ∙ ap (λ (t : List ℕ). caught ++ t ∷ []) c.in_ok-from_str.ensures in
    subst (λ (ls : List (List ℕ)). ComesTo c.args.node r (λ sh a. logging_all ls (retry_body (after_retry a c.args.node c.args.env c.args.start c.args.body.now c.args.more) a c.args.node c.args.env c.args.start c.args.more c.args.body.now)) (standing c.args.shared.now c.args.state.now) c.begin_try.result (standing c.begin_try.new.shared c.begin_try.new.state)) told
    (to_logged c.args.node r (logging_all c.as_slice.result.now) (λ sh a. retry_body (after_retry a c.args.node c.args.env c.args.start c.args.body.now c.args.more) a c.args.node c.args.env c.args.start c.args.more c.args.body.now) _ (standing c.say_all.new.shared c.args.state.now) _ _ (c.in_ok-say_all.ensures c.args.state.now) (c.begin_try.ensures r pos))
