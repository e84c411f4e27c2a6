use Rattle.std.proofs.Common.{◌≡◌, drop}
use Rattle.model_values.specs.Equality.{has_keys}
use Rattle.value_view.proofs.equality.has_keys.Given as goal

abbrev pub invariant-loop-at : goal.invariant-loop-at
invariant-loop-at l = has_keys (drop l.at l.xs) l.ys ≡ has_keys l.xs l.ys
