use Rattle.std.proofs.Common.{length, ap, arith}
use Rattle.value_ops.proofs.CellLemmas.{bytes_take_more}
use Rattle.value_ops.proofs.cells.text_bytes.Goals as goal

pub loop-text-preserved : goal.loop-text-preserved
loop-text-preserved c =
    let more = bytes_take_more c.args.texts.now c.loop-text.text-index c.text-item.result c.loop-text-test.true in
    omega (arith, more, ap length c.text-item.is, c.len.ensures, c.saturating_add.ensures, c.saturating_add-bytes.ensures, c.loop-text.invariant)
