use Rattle.std.proofs.Common.{◌≡◌, ◌++◌, drop}
use Rattle.std.specs.Map.{values_of}
use Rattle.list_methods.proofs.keys.values_of.Given as goal

abbrev pub invariant-loop-at : goal.invariant-loop-at
invariant-loop-at l = l.values.items ++ values_of (drop l.at l.entries) ≡ values_of l.entries
