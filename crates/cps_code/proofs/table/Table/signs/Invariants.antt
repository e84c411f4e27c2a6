use Rattle.std.proofs.Common.{◌≡◌, map, drop}
use Rattle.model_syntax.specs.Nodes.{nodes}
use Rattle.model_syntax.specs.TreeNodes.{prefix_node}
use Rattle.cps_code.specs.Walk.{added_all}
use Rattle.cps_code.proofs.table.Table.signs.Given as goal

abbrev pub invariant-loop-sign : goal.invariant-loop-sign
invariant-loop-sign l = added_all l.of (nodes (map prefix_node (drop l.sign-index l.signs))) l.self ≡ added_all l.of (nodes (map prefix_node l.signs)) l.initial.self
