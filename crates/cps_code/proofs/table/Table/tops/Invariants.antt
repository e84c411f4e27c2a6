use Rattle.std.proofs.Common.{◌≡◌, map, drop}
use Rattle.model_syntax.specs.Nodes.{nodes}
use Rattle.model_syntax.specs.TreeNodes.{top_node}
use Rattle.cps_code.specs.Walk.{added_all}
use Rattle.cps_code.proofs.table.Table.tops.Given as goal

abbrev pub invariant-loop-top : goal.invariant-loop-top
invariant-loop-top l = added_all 0 (nodes (map top_node (drop l.top-index l.tops))) l.self ≡ added_all 0 (nodes (map top_node l.tops)) l.initial.self
