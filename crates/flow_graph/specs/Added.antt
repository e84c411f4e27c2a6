-- The nodes of a graph with one more, which stands behind the others and has the next number (this product's own).
use Rattle.std.specs.Prelude.{ℕ, ◌+◌, List, [], ◌∷◌, ◌++◌, length}
use Rattle.model_run.specs.declared.flow.FlowNode.{FlowNode}
use Rattle.model_run.specs.declared.flow.NodeKind.{NodeKind}
use Rattle.model_run.specs.declared.flow.NodeKind.TheVariants.{End as EndNode}

abbrev pub with_node : NodeKind → List ℕ → ℕ → List ℕ → List FlowNode → List FlowNode
with_node kind name start parents nodes =
    nodes ++ (record { id = length nodes + 2; kind = kind; name = name; start = start; parents = parents }) ∷ []

-- the end node of a build
abbrev pub with_end : List ℕ → List FlowNode → List FlowNode
with_end parents nodes = with_node EndNode [] 0 parents nodes
