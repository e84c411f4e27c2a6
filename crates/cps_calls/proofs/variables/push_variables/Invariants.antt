use Rattle.std.proofs.Common.{◌≡◌, ◌++◌, map, take}
use Rattle.cell_heap.specs.Follows.{Follows}
use Rattle.model_values.specs.declared.cell.Cell.TheVariants.{Variable}
use Rattle.cps_calls.proofs.variables.push_variables.Given as goal

abbrev pub invariant-loop-value : goal.invariant-loop-value
invariant-loop-value l = record {
  cells : l.heap.cells ≡ l.fn.heap.cells ++ map Variable (take l.value-index l.values);
  follows : Follows l.fn.heap l.heap;
}
