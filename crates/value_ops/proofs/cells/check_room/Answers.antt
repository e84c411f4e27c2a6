use Rattle.std.proofs.Common.{ℕ, List, ap, arith}
use Rattle.model_values.specs.Cells.{heap_bytes}
use Rattle.model_values.specs.TextMethods.{text_cells}
use Rattle.value_ops.proofs.CellLemmas.{all_too_large, all_too_many}
use Rattle.value_ops.proofs.cells.check_room.Goals as goal

pub returns-then-saturating_add-ge-MAX_CELLS-clause-limit : goal.returns-then-saturating_add-ge-MAX_CELLS-clause-limit
returns-then-saturating_add-ge-MAX_CELLS-clause-limit c = λ last e. all_too_many c.args.heap.now.cells c.args.texts.now last (omega arith)

pub returns-then-saturating_add-gt-MAX_BYTES-clause-limit : goal.returns-then-saturating_add-gt-MAX_BYTES-clause-limit
returns-then-saturating_add-gt-MAX_BYTES-clause-limit c = λ last e. all_too_large c.args.heap.now.cells c.args.texts.now last (omega arith) (omega (arith, e, ap (λ (ts : List (List ℕ)). heap_bytes (text_cells ts)) c.as_slice.ensures, c.text_bytes.ensures))
