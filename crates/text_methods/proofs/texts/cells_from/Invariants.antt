use Rattle.std.proofs.Common.{◌≡◌, ◌+◌, ◌++◌, drop}
use Rattle.model_values.specs.TextMethods.{cells_from}
use Rattle.text_methods.proofs.texts.cells_from.Given as goal

abbrev pub invariant-loop-at : goal.invariant-loop-at
invariant-loop-at l = l.values.items ++ cells_from (l.first + l.at) (drop l.at l.texts) ≡ cells_from l.first l.texts
