use Rattle.std.proofs.Common.{◌≡◌, [], true, drop, eqb}
use Rattle.model_values.specs.Limits.{product_limits}
use Rattle.model_values.specs.ListMethods.{joined_behind}
use Rattle.list_methods.proofs.lists.joined_text.Given as goal

abbrev pub invariant-loop-at : goal.invariant-loop-at
invariant-loop-at l =
    joined_behind product_limits l.heap.cells l.between (eqb l.at 0) (drop l.at l.values) l.text
    ≡ joined_behind product_limits l.heap.cells l.between true l.values []
