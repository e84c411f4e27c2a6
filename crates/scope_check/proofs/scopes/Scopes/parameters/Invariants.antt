use Rattle.std.proofs.Common.{◌≡◌, map, drop}
use Rattle.model_syntax.specs.Scopes.{all}
use Rattle.scope_check.specs.Walk.{walked}
use Rattle.scope_check.proofs.WalkLaws.{declared_one}
use Rattle.scope_check.proofs.scopes.Scopes.parameters.Given as goal

abbrev pub invariant-loop-parameter : goal.invariant-loop-parameter
invariant-loop-parameter l = walked (all (map declared_one (drop l.parameter-index l.parameters))) l.self ≡ walked (all (map declared_one l.parameters)) l.initial.self
