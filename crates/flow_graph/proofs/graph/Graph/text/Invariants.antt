use Rattle.std.proofs.Common.{◌≡◌, ◌++◌, drop}
use Rattle.std.specs.List.{flat_map}
use Rattle.model_run.specs.GraphText.{node_line}
use Rattle.flow_graph.proofs.graph.Graph.text.Given as goal

abbrev pub invariant-loop-node : goal.invariant-loop-node
invariant-loop-node l = l.text ++ flat_map node_line (drop l.node-index l.node-items) ≡ flat_map node_line l.node-items
