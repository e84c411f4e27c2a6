-- Syntax as one kind of node, and the numbers of nodes (this product's own).
use Rattle.std.specs.Prelude.{ℕ, suc, ◌+◌, ◌==◌, if◌then◌else◌, Option, Some, None, List, [], ◌∷◌, ◌++◌}
use Rattle.model_syntax.specs.declared.node.NodeForm.{NodeForm}

mutual
  -- a form, and the parts in the order of the script
  pub data Node : Type 0 where
    node : NodeForm → Nodes → Node

  pub data Nodes : Type 0 where
    none : Nodes
    more : Node → Nodes → Nodes

-- Nodes as parts.
abbrev pub nodes : List Node → Nodes
nodes [] = none
nodes (p ∷ ps) = more p (nodes ps)

-- How many nodes there are.
unfoldable mutual
  pub size : Node → ℕ
  size (node f ps) = suc (sizes ps)

  pub sizes : Nodes → ℕ
  sizes none = 0
  sizes (more p ps) = size p + sizes ps

-- A node by its number, with its form and the numbers of its parts.
pub record Numbered : Type 0 where
  pub number : ℕ
  pub form : NodeForm
  pub parts : List ℕ

-- The numbers of parts, the first being k: behind each part comes the next.
unfoldable pub numbers : ℕ → Nodes → List ℕ
numbers k none = []
numbers k (more p ps) = k ∷ numbers (k + size p) ps

-- The nodes in the order of the script, an outer node before those within it; the first has the number k.
unfoldable mutual
  pub numbered : ℕ → Node → List Numbered
  numbered k (node f ps) = record { number = k; form = f; parts = numbers (k + 1) ps } ∷ numbered_parts (k + 1) ps

  pub numbered_parts : ℕ → Nodes → List Numbered
  numbered_parts k none = []
  numbered_parts k (more p ps) = numbered k p ++ numbered_parts (k + size p) ps

-- The first of two where it is there.
abbrev pub or_else : Option Node → Option Node → Option Node
or_else (Some p) o = Some p
or_else None o = o

-- The node with the number n, where the first has the number k.
unfoldable mutual
  pub find : ℕ → ℕ → Node → Option Node
  find n k (node f ps) = if n == k then Some (node f ps) else find_part n (k + 1) ps

  pub find_part : ℕ → ℕ → Nodes → Option Node
  find_part n k none = None
  find_part n k (more p ps) = or_else (find n k p) (find_part n (k + size p) ps)
