use Rattle.std.proofs.Common.{sym, arith}
use Rattle.cell_heap.proofs.SizeLemmas.{entry_bytes-take_more, slice_get-none}
use Rattle.cell_heap.proofs.sizes.entries_bytes.Goals as goal
use Rattle.cell_heap.proofs.sizes.entries_bytes.Goals.{in-Some, in_default}

pub loop-at-preserved : goal.loop-at-preserved
loop-at-preserved c =
    elim c.match-entry_at.branch [
      | in-Some w ↦
          let more = entry_bytes-take_more c.args.entries.now c.loop-at.at (w.in-Some.key.now, w.in-Some.field-0-1.now) (sym w.in-Some.ensures) in
          omega (arith, more, w.bytes-is, w.saturating_add-bytes.ensures, w.pair_bytes.ensures, c.loop-at.invariant)
      | in_default w ↦
          let past = slice_get-none c.args.entries.now c.loop-at.at (sym w.in_default.ensures) in
          absurd (omega (arith, past, c.loop-at-test.true, c.len-at-end.ensures.len))
    ]
