use Rattle.std.proofs.Common.{◌≡◌, ◌*◌, [], drop, length}
use Rattle.std.specs.List.{All}
use Rattle.cell_heap.specs.Soundness.{ValueBelow}
use Rattle.model_values.specs.Limits.{product_limits}
use Rattle.model_values.specs.Walks.{kept_entries}
use Rattle.value_walks.proofs.walk.kept_entries.Given as goal

abbrev pub invariant-loop-pair : goal.invariant-loop-pair
invariant-loop-pair l = record {
  rest : kept_entries product_limits l.heap.cells l.entries (drop (2 * l.pair) l.kept) ≡ kept_entries product_limits l.heap.cells [] l.kept;
  below : All (λ e. ValueBelow (length l.heap.cells) e.1) l.entries;
}
