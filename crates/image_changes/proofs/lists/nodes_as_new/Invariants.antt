use Rattle.std.proofs.Common.{◌≡◌, ◌<◌, ◌^◌, map, take}
use Rattle.std.specs.List.{AllByRecursion as AllAre}
use Rattle.image_changes.specs.Parts.{as_new}
use Rattle.image_changes.proofs.lists.nodes_as_new.Given as goal

abbrev pub invariant-loop-node : goal.invariant-loop-node
invariant-loop-node l = record {
  same : l.news ≡ map as_new (take l.node-index l.nodes);
  fit : AllAre (λ n. n.id < 2 ^ 32) (take l.node-index l.nodes);
}
