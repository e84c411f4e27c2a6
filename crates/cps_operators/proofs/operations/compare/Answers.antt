use Rattle.std.proofs.Common.{◌∙◌, if◌then◌else◌, refl, ap, sym}
use Rattle.std.specs.Prelude.{not}
use Rattle.std.proofs.lemmas.Result.{err_from_is_err_and}
use Rattle.cps_frames.specs.Standing.{world_of}
use Rattle.cps_frames.proofs.MoveLaws.{beside_same}
use Rattle.cps_operators.proofs.YieldLaws.{compare_gives, compare_stops}
use Rattle.cps_operators.proofs.operations.compare.Goals as goal
use Rattle.cps_operators.proofs.operations.compare.Goals.{then-same, else-same}

pub returns-in_err-are_equal-clause-yields : goal.returns-in_err-are_equal-clause-yields
returns-in_err-are_equal-clause-yields c = λ t.
    let p = err_from_is_err_and c.from_residual.result c.from_residual.ensures.1 in
    rw (p.1, p.2) (compare_stops c.args.same c.args.left.now c.args.right.now _ _ _ _ c.in_err-are_equal.ensures (ap (λ s. world_of s t) c.raise.ensures) refl (beside_same _ _ refl (ap (λ s. s.heap) c.raise.ensures)))

pub returns-clause-yields : goal.returns-clause-yields
returns-clause-yields c = λ t.
    compare_gives c.args.same c.args.left.now c.args.right.now _ _ _ _ _ c.in_ok-are_equal.ensures
    (elim c.if-same.branch [ then-same w ↦ w.result-is ∙ ap (λ s. if s then c.in_ok-are_equal.are_equal else not c.in_ok-are_equal.are_equal) (sym w.if-same.true) | else-same w ↦ w.result-is ∙ ap (λ s. if s then c.in_ok-are_equal.are_equal else not c.in_ok-are_equal.are_equal) (sym w.if-same.false) ])
    (ap (λ s. world_of s t) c.raise.ensures) refl (beside_same _ _ refl (ap (λ s. s.heap) c.raise.ensures))
