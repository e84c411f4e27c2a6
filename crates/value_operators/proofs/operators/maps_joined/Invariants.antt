use Rattle.std.proofs.Common.{◌≡◌, take}
use Rattle.indexmap.specs.IndexMap.{insert_all}
use Rattle.model_values.specs.Keys.{same_key}
use Rattle.value_operators.proofs.operators.maps_joined.Given as goal

abbrev pub invariant-loop-at : goal.invariant-loop-at
invariant-loop-at l = l.all ≡ insert_all same_key l.xs (take l.at l.ys)
