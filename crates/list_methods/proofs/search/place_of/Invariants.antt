use Rattle.std.proofs.Common.{◌≡◌, drop}
use Rattle.model_values.specs.Limits.{product_limits}
use Rattle.model_values.specs.ListMethods.{search}
use Rattle.list_methods.proofs.search.place_of.Given as goal

abbrev pub invariant-loop-at : goal.invariant-loop-at
invariant-loop-at l =
    search product_limits l.heap.cells (drop l.at l.values) l.value l.at l.count
    ≡ search product_limits l.heap.cells l.values l.value 0 l.initial.count
