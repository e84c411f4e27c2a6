use Rattle.std.proofs.Common.{◌∙◌, arith, refl, true}
use Rattle.jp_io.proofs.Pieces.{piece_written}
use Rattle.jp_io.proofs.whole.write_all.Goals as goal

pub loop-done-preserved : goal.loop-done-preserved
loop-done-preserved g c =
    let before = c.loop-done.invariant in
    let wrote = piece_written _ _ _ c.args.bytes.now c.loop-done.done c.in_ok-done.field-0 before.1 c.in_ok-done.ensures.bytes in
    (omega (arith, c.in_ok-done.ensures.count), wrote, c.in_ok-done.ensures.cause.calm (refl {a = true}) ∙ before.2)
