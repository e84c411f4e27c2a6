use Rattle.model_syntax.specs.TreeNodes.{prefix_node}
use Rattle.cps_code.proofs.WalkLaws.{added-step-at, added-done}
use Rattle.cps_code.proofs.table.Table.signs.Goals as goal

pub loop-sign-preserved : goal.loop-sign-preserved
loop-sign-preserved c = added-step-at prefix_node c.args.signs.now _ _ _ _ c.loop-sign-test.true c.in_ok-leaf.ensures c.loop-sign.invariant

pub returns : goal.returns
returns c = added-done prefix_node c.args.signs.now _ _ _ c.loop-sign-test.false c.loop-sign.invariant
