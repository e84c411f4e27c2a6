use Rattle.std.proofs.Common.{◌≡◌, ◌+◌, ◌-◌, ◌*◌, eqb, true, drop}
use Rattle.model_values.specs.Limits.{product_limits}
use Rattle.model_values.specs.TextOf.{pairs_behind, text_within, values_behind}
use Rattle.value_view.proofs.text.+writing.Given as goal

abbrev pub decreases-write_within : goal.decreases-write_within
decreases-write_within l = 3 * l.left + 2

abbrev pub decreases-write_list : goal.decreases-write_list
decreases-write_list l = 3 * l.left + 1

abbrev pub decreases-write_map : goal.decreases-write_map
decreases-write_map l = 3 * l.left + 1

abbrev pub decreases-write_item : goal.decreases-write_item
decreases-write_item l = 3 * l.left + 3

abbrev pub decreases-write_entry : goal.decreases-write_entry
decreases-write_entry l = 3 * l.left + 3

abbrev pub invariant-write_list-loop-at : goal.invariant-write_list-loop-at
invariant-write_list-loop-at l =
    values_behind product_limits l.heap.cells (text_within product_limits l.heap.cells (l.left - 1)) (eqb l.at 0) (drop l.at l.values) l.text
    ≡ values_behind product_limits l.heap.cells (text_within product_limits l.heap.cells (l.left - 1)) true l.values l.initial.text

abbrev pub invariant-write_map-loop-at : goal.invariant-write_map-loop-at
invariant-write_map-loop-at l =
    pairs_behind product_limits l.heap.cells (text_within product_limits l.heap.cells (l.left - 1)) (eqb l.at 0) (drop l.at l.entries) l.text
    ≡ pairs_behind product_limits l.heap.cells (text_within product_limits l.heap.cells (l.left - 1)) true l.entries l.initial.text
