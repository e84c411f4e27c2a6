use Rattle.std.proofs.Common.{◌≡◌, ◌-◌, ◌^◌, min, take}
use Rattle.model_values.specs.Cells.{heap_bytes}
use Rattle.model_values.specs.TextMethods.{text_cells}
use Rattle.value_ops.proofs.cells.text_bytes.Given as goal

abbrev pub invariant-loop-text : goal.invariant-loop-text
invariant-loop-text l = l.bytes ≡ min (heap_bytes (text_cells (take l.text-index l.texts))) (2 ^ 64 - 1)
