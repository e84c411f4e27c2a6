use Rattle.model_syntax.specs.TreeNodes.{top_node}
use Rattle.cps_code.proofs.WalkLaws.{added-step, added-done}
use Rattle.cps_code.proofs.table.Table.tops.Goals as goal

pub loop-top-preserved : goal.loop-top-preserved
loop-top-preserved c = added-step top_node c.args.tops.now _ _ _ _ c.top-item.is c.loop-top-test.true c.in_ok-top.ensures c.loop-top.invariant

pub returns : goal.returns
returns c = added-done top_node c.args.tops.now _ _ _ c.loop-top-test.false c.loop-top.invariant
