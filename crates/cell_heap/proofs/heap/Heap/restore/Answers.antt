use Rattle.std.proofs.Common.{◌≡◌, ◌+◌, get_or, ap, arith}
use Rattle.model_values.specs.Cells.{cell_bytes, heap_bytes}
use Rattle.cell_heap.proofs.SizeLemmas.{heap_bytes-take-le, heap_bytes-take_more}
use Rattle.cell_heap.proofs.heap.Heap.restore.Goals as goal

pub overflow_add-total : goal.overflow_add-total
overflow_add-total c =
    let cells = c.deref-cell-items.result.now in
    let at = c.loop-cell.cell-index in
    let same : cell_bytes c.cell-item.result ≡ cell_bytes (get_or cells at c.cell-item.result) = ap cell_bytes c.cell-item.is in
    let more = heap_bytes-take_more cells at c.cell-item.result (omega (arith, c.loop-cell-test.true)) in
    let whole : heap_bytes cells ≡ heap_bytes c.args.cells.items = ap heap_bytes c.deref-cell-items.ensures.value in
    omega (arith, same, more, whole, heap_bytes-take-le cells (at + 1), c.requires.bytes, c.loop-cell.invariant, c.bytes_of-total.ensures)

pub loop-cell-preserved : goal.loop-cell-preserved
loop-cell-preserved c =
    let cells = c.deref-cell-items.result.now in
    let at = c.loop-cell.cell-index in
    let same : cell_bytes c.cell-item.result ≡ cell_bytes (get_or cells at c.cell-item.result) = ap cell_bytes c.cell-item.is in
    let more = heap_bytes-take_more cells at c.cell-item.result (omega (arith, c.loop-cell-test.true)) in
    let whole : heap_bytes cells ≡ heap_bytes c.args.cells.items = ap heap_bytes c.deref-cell-items.ensures.value in
    omega (arith, same, more, whole, heap_bytes-take-le cells (at + 1), c.requires.bytes, c.loop-cell.invariant, c.bytes_of-total.ensures)
