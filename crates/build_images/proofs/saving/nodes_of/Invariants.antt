use Rattle.std.proofs.Common.{◌≡◌, take}
use Rattle.build_images.proofs.saving.nodes_of.Given as goal

abbrev pub invariant-loop-node : goal.invariant-loop-node
invariant-loop-node l = l.copies ≡ take l.node-index l.nodes
