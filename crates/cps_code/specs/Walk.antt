-- How a table grows as a walk goes through a script, node by node (this product's own).
use Rattle.std.specs.Prelude.{ℕ, List, [], ◌∷◌, ◌++◌, length, Option, Some, None, slice_get, slice_set}
use Rattle.model_syntax.specs.declared.node.NodeForm.{NodeForm}
use Rattle.model_syntax.specs.Nodes.{Node, Nodes, node, none, more}
use Rattle.cps_code.specs.declared.row.Row.{Row}

-- the row of a node whose parts are not yet walked
abbrev pub new_row : NodeForm → Row
new_row f = record { form = f; parts = [] }

-- a row with one more part, behind the others
abbrev pub with_part : ℕ → Row → Row
with_part n r = record r { parts = r.parts ++ n ∷ [] }

-- the same, where the row of the node `of` is this one
abbrev pub linked_at : ℕ → ℕ → List Row → Option Row → List Row
linked_at of n rows (Some r) = slice_set rows of (with_part n r)
linked_at of n rows None = rows

-- the node with the number n is the next part of the node `of`, where there is one
abbrev pub linked : ℕ → ℕ → List Row → List Row
linked of n rows = linked_at of n rows (slice_get rows of)

-- a node begins, as the next part of the node `of`
abbrev pub opened : ℕ → NodeForm → List Row → List Row
opened of f rows = linked of (length rows) rows ++ new_row f ∷ []

-- a node, or several, with all nodes within
unfoldable mutual
  pub added : ℕ → Node → List Row → List Row
  added of (node f ps) rows = added_all (length rows) ps (opened of f rows)

  pub added_all : ℕ → Nodes → List Row → List Row
  added_all of none rows = rows
  added_all of (more p ps) rows = added_all of ps (added of p rows)
