use Rattle.std.proofs.Common.{◌-◌, ◌++◌, ◌∷◌, [], ℕ, refl, subst, arith}
use Rattle.std.proofs.lemmas.Result.{err_from_is_err_and}
use Rattle.std.specs.Prelude.{Ok, Err, codes, slice_get}
use Rattle.model_values.specs.declared.value.Value.{Value}
use Rattle.model_run.specs.Around.{position, value_at}
use Rattle.model_run.specs.FrameTable.{A_closure, A_count}
use Rattle.model_run.specs.Steps.{after_retry, caught_lines, logging_all, retry_body, retry_end}
use Rattle.model_run.specs.declared.frame.FrameKind.TheVariants as kind
use Rattle.cps_frames.specs.Moves.{ComesTo}
use Rattle.cps_frames.specs.Order.{rank}
use Rattle.cps_frames.specs.Standing.{standing, state}
use Rattle.cps_frames.proofs.EndLaws.{block_inside}
use Rattle.cps_frames.proofs.MoveLaws.{to_as, to_kind}
use Rattle.step_library.specs.Retries.{FailsSo, after_try}
use Rattle.step_library.proofs.FrameFacts.{starts_in}
use Rattle.step_library.proofs.RetryLaws.{to_tries, try_again, try_over}
use Rattle.step_library.proofs.StepMoves.{low_rank, no_body_end, to_body_end}
use Rattle.step_library.proofs.retry.retry_body.Goals as goal

pub number_at-requires : goal.number_at-requires
number_at-requires c = let s = (starts_in (standing c.args.shared.now c.args.state.now) c.args.frame c.args.ending kind.RetryBody (A_count ∷ A_closure ∷ []) c.requires.may c.requires.kind (λ sh left env. refl)) in record { within = omega (arith, s.many); natural = s.body }

pub returns-in_err-end_body : goal.returns-in_err-end_body
returns-in_err-end_body c =
    let f = c.args.frame in
    let s = position (value_at 0 f.values) in
    let b = position (value_at 1 f.values) in
    let m = position (value_at 2 f.values) in
    let v = value_at 3 f.values in
    let pos = low_rank f kind.RetryBody c.requires.kind refl in
    let p = err_from_is_err_and c.from_residual.result c.from_residual.ensures.1 in
    rw (p.1, p.2) (to_kind (rank f) f kind.RetryBody c.args.ending _ (Err c.in_err-end_body.field-0.0) _ c.requires.kind (to_tries f.node (rank f) f.env s v m b c.args.ending _ (Err c.in_err-end_body.field-0.0) _
    (no_body_end f.node (rank f) b c.number_at.result (λ sh a. after_try a f.node f.env s v m c.args.ending) c.in_err-end_body.field-0.0 _ _ c.number_at.ensures.number c.in_err-end_body.ensures pos)))

pub failure-requires-clause-ending : goal.failure-requires-clause-ending
failure-requires-clause-ending c = block_inside c.requires.may c.requires.kind refl

pub returns-in-Ok : goal.returns-in-Ok
returns-in-Ok c =
    let f = c.args.frame in
    let s = position (value_at 0 f.values) in
    let b = position (value_at 1 f.values) in
    let m = position (value_at 2 f.values) in
    let v = value_at 3 f.values in
    let pos = low_rank f kind.RetryBody c.requires.kind refl in
    let u = standing c.end_body.new.shared c.end_body.new.state in
    let w = standing c.try_again.new.shared c.try_again.new.state in
    let lines = caught_lines (slice_get u.world.shared.cells c.in-Ok.cell) ++ codes "Retrying" ∷ [] in
    let fails = subst (λ (n : ℕ). FailsSo u.world.shared.cells n c.args.ending (Ok c.in-Ok.cell)) c.number_at-more.ensures.number c.in-Ok.ensures in
    to_kind (rank f) f kind.RetryBody c.args.ending _ _ _ c.requires.kind (to_tries f.node (rank f) f.env s v m b c.args.ending _ _ _
    (to_body_end f.node (rank f) b c.number_at.result (λ sh a. after_try a f.node f.env s v m c.args.ending) _ u _ _ c.number_at.ensures.number c.in_ok-end_body.ensures
    (to_as f.node (rank f) (λ sh a. after_try a f.node f.env s v m c.args.ending) (λ sh a. logging_all lines (retry_body (after_retry a f.node f.env s v (m - 1)) a f.node f.env s (m - 1) v)) u _ _ (λ a rs. try_again a f.node f.env s v m c.args.ending c.in-Ok.cell (state u.world rs) fails)
    (subst (λ (x : ℕ). ComesTo f.node (rank f) (λ sh a. logging_all lines (retry_body (after_retry a f.node f.env x v (m - 1)) a f.node f.env x (m - 1) v)) u c.try_again.result w) c.number_at-start.ensures.number
    (subst (λ (n : ℕ). ComesTo f.node (rank f) (λ sh a. logging_all lines (retry_body (after_retry a f.node f.env c.number_at-start.result v (n - 1)) a f.node f.env c.number_at-start.result (n - 1) v)) u c.try_again.result w) c.number_at-more.ensures.number
    (subst (λ (x : Value). ComesTo f.node (rank f) (λ sh a. logging_all lines (retry_body (after_retry a f.node f.env c.number_at-start.result x (c.number_at-more.result - 1)) a f.node f.env c.number_at-start.result (c.number_at-more.result - 1) x)) u c.try_again.result w) c.value_at-body.ensures (c.try_again.ensures (rank f) pos)))))))

pub returns-in-Err : goal.returns-in-Err
returns-in-Err c =
    let f = c.args.frame in
    let s = position (value_at 0 f.values) in
    let b = position (value_at 1 f.values) in
    let m = position (value_at 2 f.values) in
    let v = value_at 3 f.values in
    let pos = low_rank f kind.RetryBody c.requires.kind refl in
    let u = standing c.end_body.new.shared c.end_body.new.state in
    let w = standing c.close.new.shared c.close.new.state in
    let fails = subst (λ (n : ℕ). FailsSo u.world.shared.cells n c.args.ending (Err c.in-Err.ending)) c.number_at-more.ensures.number c.in-Err.ensures in
    to_kind (rank f) f kind.RetryBody c.args.ending _ _ _ c.requires.kind (to_tries f.node (rank f) f.env s v m b c.args.ending _ _ _
    (to_body_end f.node (rank f) b c.number_at.result (λ sh a. after_try a f.node f.env s v m c.args.ending) _ u _ _ c.number_at.ensures.number c.in_ok-end_body.ensures
    (to_as f.node (rank f) (λ sh a. after_try a f.node f.env s v m c.args.ending) (λ sh a. retry_end s c.in-Err.ending) u _ _ (λ a rs. try_over a f.node f.env s v m c.args.ending c.in-Err.ending (state u.world rs) fails)
    (subst (λ (x : ℕ). ComesTo f.node (rank f) (λ sh a. retry_end x c.in-Err.ending) u c.close.result w) c.number_at-start.ensures.number (c.close.ensures f.node (rank f) pos)))))
