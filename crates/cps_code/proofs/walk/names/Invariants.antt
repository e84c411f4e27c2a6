use Rattle.std.proofs.Common.{◌≡◌, ◌++◌, drop}
use Rattle.model_syntax.specs.TreeNodes.{names_of}
use Rattle.cps_code.proofs.walk.names.Given as goal

abbrev pub invariant-loop-one : goal.invariant-loop-one
invariant-loop-one l = l.names ++ names_of (drop l.one-index l.declared) ≡ names_of l.declared
