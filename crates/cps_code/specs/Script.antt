-- The script whose table some rows are (this product's own).
use Rattle.std.specs.Prelude.{◌≡◌, ℕ, zero, suc, ◌+◌, ◌<◌, List, [], ◌∷◌, length, Some, get_or}
use Rattle.model_syntax.specs.TreeNodes.{tree_node}
use Rattle.model_syntax.specs.declared.tree.Tree.{Tree}
use Rattle.model_run.specs.Terms.{Term, Terms, Numbered, no_terms, and_then, term, nodes_of, empty_block, Found}
use Rattle.cps_code.specs.declared.row.Row.{Row}
use Rattle.cps_code.specs.Rows.{row_of, rows_of, part_number}

-- the nodes with these numbers, one after the other
abbrev pub terms_by : (ℕ → Term) → List ℕ → Terms
terms_by term [] = no_terms
terms_by term (k ∷ ks) = and_then (term k) (terms_by term ks)

-- the row with this number
abbrev pub row_at : List Row → ℕ → Row
row_at rows k = get_or rows k (row_of (empty_block k))

-- the node of row k, with the nodes of its parts' rows within it, so many deep
unfoldable pub node_at : ℕ → List Row → ℕ → Term
node_at zero rows k = empty_block k
node_at (suc n) rows k = Numbered k (row_at rows k).form (terms_by (node_at n rows) (row_at rows k).parts)

-- the node of the first row; no node lies deeper than there are rows
unfoldable pub script_of : List Row → Term
script_of rows = node_at (length rows) rows 0

-- part i of node k has a number above k + i, which is that of a node
abbrev pub ArePartsBehind : Term → Type 0
ArePartsBehind root = (k i p : ℕ) → part_number root k i ≡ Some p → (k + i < p) × (p < length (nodes_of root))

-- the term of some tree
abbrev pub IsScript : Term → Type 0
IsScript root = ∥ ((tree : Tree) × (root ≡ term 0 (tree_node tree))) ∥₁

-- rows that are the table of a script, in which each node is found by its number
pub record IsTable (rows : List Row) : Type 0 where
  pub table : rows ≡ rows_of (script_of rows)
  pub found : Found (script_of rows) (script_of rows)
  pub behind : ArePartsBehind (script_of rows)
