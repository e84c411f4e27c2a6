use Rattle.std.proofs.Common.{◌≡◌, ◌≤◌, ◌+◌, ◌*◌, [], drop, length}
use Rattle.std.specs.List.{AllByRecursion as AllAre}
use Rattle.cell_heap.specs.Soundness.{ValueBelow}
use Rattle.model_run.specs.Gathering.{entries_of}
use Rattle.model_run.specs.Nesting.{shape_at}
use Rattle.cps_code.specs.Script.{script_of}
use Rattle.cps_values.specs.Values.{values_given}
use Rattle.cps_values.proofs.entries.entries_of.Given as goal

abbrev pub invariant-loop-at : goal.invariant-loop-at
invariant-loop-at l = record {
  same : entries_of l.fn.shared.heap.cells (shape_at (script_of l.fn.shared.code) l.fn.node).parts l.fn.values [] ≡ entries_of l.fn.shared.heap.cells (drop l.at (shape_at (script_of l.fn.shared.code) l.fn.node).parts) (drop l.used l.fn.values) l.entries;
  below : AllAre (λ e. ValueBelow (length l.fn.shared.heap.cells) e.1) l.entries;
  low : l.used ≤ 2 * l.at;
  enough : l.used + values_given (drop l.at (shape_at (script_of l.fn.shared.code) l.fn.node).parts) ≤ length l.fn.values;
}
