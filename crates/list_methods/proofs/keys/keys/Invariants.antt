use Rattle.std.proofs.Common.{◌≡◌, ◌≤◌, ◌+◌, ◌++◌, drop, length}
use Rattle.model_values.specs.ListMethods.{key_cells, key_values}
use Rattle.model_values.specs.TextMethods.{text_cells}
use Rattle.list_methods.proofs.keys.keys.Given as goal

abbrev pub invariant-loop-at : goal.invariant-loop-at
invariant-loop-at l = record {
  few : length l.texts ≤ l.at;
  texts : text_cells l.texts ++ key_cells (drop l.at l.entries) ≡ key_cells l.entries;
  values : l.values.items ++ key_values (l.first + length l.texts) (drop l.at l.entries) ≡ key_values l.first l.entries;
}
