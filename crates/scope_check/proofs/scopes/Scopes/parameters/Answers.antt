use Rattle.std.proofs.Common.{ap, sym, ◌∙◌}
use Rattle.model_syntax.specs.Scopes.{declares}
use Rattle.scope_check.specs.Walk.{walked}
use Rattle.scope_check.proofs.WalkLaws.{declared_one, all-declared_one, walked-one, walked-step, walked-done}
use Rattle.scope_check.proofs.scopes.Scopes.parameters.Goals as goal

pub loop-parameter-preserved : goal.loop-parameter-preserved
loop-parameter-preserved c =
    walked-step declared_one c.args.parameters.now _ _ _ c.parameter-item.is c.loop-parameter-test.true
    (c.in_ok-declare.ensures ∙ sym (walked-one (declares _) _))
    c.loop-parameter.invariant

pub returns : goal.returns
returns c =
    walked-done declared_one c.args.parameters.now _ _ c.loop-parameter-test.false c.loop-parameter.invariant
    ∙ ap (λ ms. walked ms c.args.self.now) (all-declared_one c.args.parameters.now)
