use Rattle.std.proofs.Common.{◌≡◌, ◌+◌, ◌++◌, length, take}
use Rattle.cell_heap.specs.Follows.{Follows}
use Rattle.model_values.specs.TextMethods.{text_cells}
use Rattle.value_ops.proofs.cells.push_texts.Given as goal

abbrev pub invariant-loop-text : goal.invariant-loop-text
invariant-loop-text l = record {
  cells : l.heap.cells ≡ l.fn.heap.cells ++ text_cells (take (length l.yielded) l.fn.texts);
  spare : l.heap.spare + length l.yielded ≡ l.fn.heap.spare;
  follows : Follows l.fn.heap l.heap;
}
