use Rattle.std.proofs.Common.{◌≡◌, ◌∙◌, ◌++◌, sym, arith}
use Rattle.image_check.proofs.Numbers.{half_behind, half_in_front}
use Rattle.image_check.proofs.lookup.numbered_by_halves.Goals as goal

pub loop-rest-preserved-then-number : goal.loop-rest-preserved-then-number
loop-rest-preserved-then-number g c =
    let split = c.split_at.ensures in
    let rest = c.loop-rest.rest.now in
    let whole : c.split_at.result.0.now ++ c.split_at.result.1.now ≡ rest = sym split.by_index.0 in
    let half = half_behind g.T.HasNumber.number c.args.number c.split_at.result.0.now c.split_at.result.1.now rest c.index-behind-0.result whole (omega (arith, split.back_len, c.loop-rest-test.true)) c.index-behind-0.is (omega (arith, c.number.ensures, c.if-number.true)) c.loop-rest.invariant.0 in
    (half.0, half.1 ∙ c.loop-rest.invariant.1)

pub loop-rest-preserved : goal.loop-rest-preserved
loop-rest-preserved g c =
    let split = c.split_at.ensures in
    let rest = c.loop-rest.rest.now in
    let whole : c.split_at.result.0.now ++ c.split_at.result.1.now ≡ rest = sym split.by_index.0 in
    let half = half_in_front g.T.HasNumber.number c.args.number c.split_at.result.0.now c.split_at.result.1.now rest c.index-behind-0.result whole (omega (arith, split.back_len, c.loop-rest-test.true)) c.index-behind-0.is (omega (arith, c.number.ensures, c.if-number.false)) c.loop-rest.invariant.0 in
    (half.0, half.1 ∙ c.loop-rest.invariant.1)
