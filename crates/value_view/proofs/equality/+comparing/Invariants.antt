use Rattle.std.proofs.Common.{◌≡◌, ◌+◌, ◌*◌, drop}
use Rattle.std.specs.List.{zip}
use Rattle.model_values.specs.Equality.{by_key, equal_within, parts_equal}
use Rattle.model_values.specs.Limits.{product_limits}
use Rattle.value_view.proofs.equality.+comparing.Given as goal

abbrev pub decreases-equal_within : goal.decreases-equal_within
decreases-equal_within l = 2 * l.left

abbrev pub decreases-lists_equal : goal.decreases-lists_equal
decreases-lists_equal l = 2 * l.left + 1

abbrev pub decreases-maps_equal : goal.decreases-maps_equal
decreases-maps_equal l = 2 * l.left + 1

abbrev pub invariant-lists_equal-loop-at : goal.invariant-lists_equal-loop-at
invariant-lists_equal-loop-at l =
    parts_equal (equal_within product_limits l.heap.cells l.left) (zip (drop l.at l.xs) (drop l.at l.ys)) l.count
    ≡ parts_equal (equal_within product_limits l.heap.cells l.left) (zip l.xs l.ys) l.initial.count

abbrev pub invariant-maps_equal-loop-at : goal.invariant-maps_equal-loop-at
invariant-maps_equal-loop-at l =
    parts_equal (equal_within product_limits l.heap.cells l.left) (by_key (drop l.at l.xs) l.ys) l.count
    ≡ parts_equal (equal_within product_limits l.heap.cells l.left) (by_key l.xs l.ys) l.initial.count
