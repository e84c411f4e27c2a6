use Rattle.model_syntax.specs.Scopes.{top_marks}
use Rattle.scope_check.proofs.WalkLaws.{walked-step, walked-done}
use Rattle.scope_check.proofs.scopes.Scopes.tops.Goals as goal

pub loop-top-preserved : goal.loop-top-preserved
loop-top-preserved c =
    walked-step top_marks c.args.tops.now _ _ _ c.top-item.is c.loop-top-test.true
    c.in_ok-top.ensures
    c.loop-top.invariant

pub returns : goal.returns
returns c = walked-done top_marks c.args.tops.now _ _ c.loop-top-test.false c.loop-top.invariant
