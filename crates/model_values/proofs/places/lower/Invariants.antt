use Rattle.std.proofs.Common.{◌≡◌, ◌++◌, map, take, drop}
use Rattle.model_values.specs.KeyOrder.{lowered}
use Rattle.model_values.proofs.places.lower.Given as goal

abbrev pub invariant-loop-place : goal.invariant-loop-place
invariant-loop-place l = l.places ≡ map (lowered l.gone) (take l.place-index l.fn.places) ++ drop l.place-index l.fn.places
