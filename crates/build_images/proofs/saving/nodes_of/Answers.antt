use Rattle.std.proofs.Common.{◌∙◌, ◌++◌, [], ◌∷◌, ap}
use Rattle.build_images.proofs.Parts.{one_more}
use Rattle.build_images.proofs.saving.nodes_of.Goals as goal

pub loop-node-preserved : goal.loop-node-preserved
loop-node-preserved c = one_more c.args.nodes.now c.loop-node.node-index c.node-item.result c.loop-node.copies c.push.new.self c.node-item.is c.loop-node-test.true c.loop-node.invariant (c.in_ok-push.ensures.pushed ∙ ap (λ y. c.loop-node.copies ++ y ∷ []) c.in_ok-copied_node.ensures)
