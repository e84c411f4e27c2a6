-- The table of a script gives the script.
use Rattle.std.proofs.Common.{◌≡◌, ◌∙◌, ℕ, zero, suc, ◌+◌, ◌<◌, ◌≤◌, List, ◌++◌, length, length-append, get_or, refl, ap, ap₂, sym, subst, arith}
use Rattle.std.proofs.Math.ListN.{get_or-map}
use Rattle.std.proofs.lemmas.List.{length-map, get_or_read}
use Rattle.model_syntax.specs.Nodes.{Node, node}
use Rattle.model_run.specs.Terms.{Term, Terms, Numbered, no_terms, and_then, term, nodes_of, nodes_of_all, empty_block, number_of, term_at, Found, FoundAll}
use Rattle.model_run.proofs.Found.{found_script}
use Rattle.cps_code.specs.declared.row.Row.{Row}
use Rattle.cps_code.specs.Rows.{numbers_of, row_of, rows_of}
use Rattle.cps_code.specs.Script.{terms_by, row_at, node_at, script_of, ArePartsBehind, IsTable}
use Rattle.cps_code.proofs.Parts.{part_behind}

pub row_found : (root : Term) (k : ℕ) → row_at (rows_of root) k ≡ row_of (term_at root k)
unfolding term_at
row_found root k = get_or-map row_of (nodes_of root) k (empty_block k)

pub rows_count : (root : Term) → length (rows_of root) ≡ length (nodes_of root)
rows_count root = length-map (nodes_of root) row_of

mutual
  unfolding node_at

  decoded : (n : ℕ) (root t : Term) → Found root t → length (nodes_of t) ≤ n → node_at n (rows_of root) (number_of t) ≡ t
  decoded zero root (Numbered k f ps) h small = absurd (omega arith)
  decoded (suc n) root (Numbered k f ps) h small =
      let row : row_at (rows_of root) k ≡ row_of (Numbered k f ps) = row_found root k ∙ ap row_of h.0 in
      ap (λ (r : Row). Numbered k r.form (terms_by (node_at n (rows_of root)) r.parts)) row
      ∙ ap (λ (ts : Terms). Numbered k f ts) (decoded_all n root ps h.1 (omega arith))

  decoded_all : (n : ℕ) (root : Term) (ts : Terms) → FoundAll root ts → length (nodes_of_all ts) ≤ n → terms_by (node_at n (rows_of root)) (numbers_of ts) ≡ ts
  decoded_all n root no_terms h small = refl
  decoded_all n root (and_then t ts) h small =
      let len : length (nodes_of t ++ nodes_of_all ts) ≡ length (nodes_of t) + length (nodes_of_all ts) = length-append (nodes_of t) (nodes_of_all ts) in
      ap₂ and_then (decoded n root t h.0 (omega (arith, len))) (decoded_all n root ts h.1 (omega (arith, len)))

pub script_is : (p : Node) → script_of (rows_of (term 0 p)) ≡ term 0 p
unfolding script_of
script_is (node f ps) =
    let root : Term = term 0 (node f ps) in
    decoded (length (rows_of root)) root root (found_script (node f ps)) (omega (arith, rows_count root))

pub table_of : (p : Node) → IsTable (rows_of (term 0 p))
table_of p = record {
  table = ap rows_of (sym (script_is p));
  found = subst (λ (t : Term). Found t t) (sym (script_is p)) (found_script p);
  behind = subst ArePartsBehind (sym (script_is p)) (part_behind p);
}

-- rows that are the table of a script's node
pub kept_table : (p : Node) (rows : List Row) → rows ≡ rows_of (term 0 p) → IsTable rows
kept_table p rows is = subst IsTable (sym is) (table_of p)

pub kept_script : (p : Node) (rows : List Row) → rows ≡ rows_of (term 0 p) → script_of rows ≡ term 0 p
kept_script p rows is = ap script_of is ∙ script_is p

-- what is read from a table
pub code_row : (rows now : List Row) → rows ≡ now → (k : ℕ) (r : Row) → IsTable rows → k < length (nodes_of (script_of now)) → r ≡ get_or rows k r → r ≡ row_of (term_at (script_of now) k)
code_row rows now view k r table within read =
    let kept : IsTable now = subst IsTable view table in
    let count : length now ≡ length (nodes_of (script_of now)) = ap length kept.table ∙ rows_count (script_of now) in
    get_or_read now k r (omega (arith, count, within)) (read ∙ ap (λ (rs : List Row). get_or rs k r) view) (row_of (empty_block k))
    ∙ ap (λ (rs : List Row). row_at rs k) kept.table
    ∙ row_found (script_of now) k
