-- The table of a script: a row for each node, in the order of the numbers (this product's own).
use Rattle.std.specs.Prelude.{ℕ, List, [], ◌∷◌, length, map, Option, slice_get}
use Rattle.model_run.specs.Terms.{Term, Terms, no_terms, and_then, number_of, form_of, parts_of, nodes_of, term_at}
use Rattle.cps_code.specs.declared.row.Row.{Row}

-- the numbers of these nodes
abbrev pub numbers_of : Terms → List ℕ
numbers_of no_terms = []
numbers_of (and_then t ts) = number_of t ∷ numbers_of ts

-- the row of a node: what it is, and the numbers of its parts
abbrev pub row_of : Term → Row
row_of t = record { form = form_of t; parts = numbers_of (parts_of t) }

-- the rows of a node and of all nodes within it
abbrev pub rows_of : Term → List Row
rows_of root = map row_of (nodes_of root)

-- the number of part i of the node with the number k, and none where it has no such part
abbrev pub part_number : Term → ℕ → ℕ → Option ℕ
part_number root k i = slice_get (numbers_of (parts_of (term_at root k))) i

-- how many parts the node with the number k has
abbrev pub part_count : Term → ℕ → ℕ
part_count root k = length (numbers_of (parts_of (term_at root k)))
