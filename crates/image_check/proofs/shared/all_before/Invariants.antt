use Rattle.std.proofs.Common.{◌≡◌, drop}
use Rattle.image_check.specs.Shared.{all_before}
use Rattle.image_check.proofs.shared.all_before.Given as goal

abbrev pub invariant-loop-node : goal.invariant-loop-node
invariant-loop-node l = all_before l.id (drop l.node-index l.nodes) ≡ all_before l.id l.nodes
