use Rattle.std.proofs.Common.{◌≡◌, map, drop}
use Rattle.model_syntax.specs.Scopes.{all, top_marks}
use Rattle.scope_check.specs.Walk.{walked}
use Rattle.scope_check.proofs.scopes.Scopes.tops.Given as goal

abbrev pub invariant-loop-top : goal.invariant-loop-top
invariant-loop-top l = walked (all (map top_marks (drop l.top-index l.tops))) l.self ≡ walked (all (map top_marks l.tops)) l.initial.self
