-- The numbers of flow nodes (this product's own): the start node has number 2, each later one the next number.
use Rattle.std.specs.Prelude.{◌≡◌, ℕ, suc, ◌<◌, List, [], ◌∷◌, length}
use Rattle.model_run.specs.declared.flow.FlowNode.{FlowNode}

-- the numbers go up by one from this one
abbrev pub NumberedFrom : ℕ → List FlowNode → Type 0
NumberedFrom id [] = Unit {0}
NumberedFrom id (n ∷ ns) = (n.id ≡ id) × NumberedFrom (suc id) ns

-- a graph has its first node, and the numbers go up by one from 2
pub record AreNumbered (nodes : List FlowNode) : Type 0 where
  pub some : 0 < length nodes
  pub numbered : NumberedFrom 2 nodes
