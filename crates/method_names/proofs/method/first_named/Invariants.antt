use Rattle.std.proofs.Common.{◌≡◌, nat_eq, drop}
use Rattle.std.specs.Cmp.Lexicographic.{pointwise}
use Rattle.std.specs.Map.{lookup}
use Rattle.method_names.specs.Names.{rows}
use Rattle.method_names.proofs.method.first_named.Given as goal

abbrev pub invariant-loop-method : goal.invariant-loop-method
invariant-loop-method l =
    lookup (pointwise nat_eq l.name) (rows (drop l.method-index l.methods)) ≡ lookup (pointwise nat_eq l.name) (rows l.methods)
