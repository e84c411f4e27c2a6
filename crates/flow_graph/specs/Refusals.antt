-- When a graph refuses a node (this product's own limit: 65,536 flow nodes).
use Rattle.std.specs.Prelude.{nat_lt, if◌then◌else◌, List, length, Option, Some, None}
use Rattle.model_values.specs.declared.limit.LimitKind.{LimitKind}
use Rattle.model_values.specs.declared.limit.LimitKind.TheVariants.{FlowNodes}
use Rattle.model_run.specs.declared.flow.FlowNode.{FlowNode}
use Rattle.model_run.specs.World.{run_limits}
use Rattle.flow_graph.specs.declared.refusal.NodeRefusal.{NodeRefusal}
use Rattle.flow_graph.specs.declared.refusal.NodeRefusal.TheVariants.{Memory, NodeLimit}

-- the limit that one more node would pass
abbrev pub node_limit : List FlowNode → Option LimitKind
node_limit nodes = if nat_lt (length nodes) run_limits.flow_nodes then None else Some FlowNodes

-- the limit that a refusal tells; want of memory tells none
abbrev pub limit_of : NodeRefusal → Option LimitKind
limit_of Memory = None
limit_of NodeLimit = Some FlowNodes
