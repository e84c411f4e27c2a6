-- The functions of a script by their names, from its last part to its first.
use Rattle.std.proofs.Common.{◌≡◌, ◌∙◌, ℕ, zero, suc, ◌<◌, ◌≤◌, Bool, true, false, cond, if◌then◌else◌, List, [], length, Option, Some, slice_get, get_or, refl, sym, ap, arith}
use Rattle.std.proofs.lemmas.Option.{slice_get-get_or}
use Rattle.std.specs.Option.{option_map}
use Rattle.std.specs.BTreeMap.{BTreeMap, get, Updates}
use Rattle.std.specs.Cmp.Lexicographic.{slice_cmp, texts_ties}
use Rattle.std.specs.Map.{lookup}
use Rattle.std.specs.Ordering.{nat_cmp, is_eq}
use Rattle.model_syntax.specs.declared.node.NodeForm.{NodeForm}
use Rattle.model_syntax.specs.declared.node.NodeForm.TheVariants as form
use Rattle.model_run.specs.declared.callee.Callee.{Callee}
use Rattle.model_run.specs.Callables.{function_if, function_in}
use Rattle.model_run.specs.Terms.{Term, Terms, Numbered, no_terms, and_then, form_of, number_of, parts_of, nodes_of, term_at, Found, FoundAll}
use Rattle.cps_code.specs.Functions.{function_at, HasFunctions}
use Rattle.cps_code.specs.Rows.{numbers_of, part_number, row_of}
use Rattle.cps_code.specs.Script.{IsTable, script_of}
use Rattle.cps_code.specs.declared.row.Row.{Row}
use Rattle.cps_code.proofs.Decoding.{code_row, rows_count}

-- the nodes behind the first n
abbrev pub terms_behind : ℕ → Terms → Terms
terms_behind zero ts = ts
terms_behind (suc n) no_terms = no_terms
terms_behind (suc n) (and_then t ts) = terms_behind n ts

pub some_node : (t : Term) → 0 < length (nodes_of t)
some_node (Numbered k f ps) = omega arith

-- the first node is the script itself
pub first_node : (root : Term) → term_at root 0 ≡ root
unfolding term_at
first_node (Numbered k f ps) = refl

behind_all : (ts : Terms) (i : ℕ) → i ≡ length (numbers_of ts) → terms_behind i ts ≡ no_terms
behind_all no_terms zero e = refl
behind_all no_terms (suc i) e = refl
behind_all (and_then t ts) zero e = absurd (omega (arith, e))
behind_all (and_then t ts) (suc i) e = behind_all ts i (omega (arith, e))

-- before any function is put, behind all nodes
pub no_functions : (ts : Terms) (i : ℕ) (functions : BTreeMap (List ℕ) ℕ) → i ≡ length (numbers_of ts) → functions.entries ≡ [] → HasFunctions (terms_behind i ts) functions
no_functions ts i functions end empty = λ x.
    ap (λ es. option_map function_at (lookup (λ k. is_eq (slice_cmp nat_cmp x k)) es)) empty ∙ sym (ap (function_in x) (behind_all ts i end))

-- the part that is read is the first of those that are left
record Left (root : Term) (ts : Terms) (i n : ℕ) : Type 0 where
  left : terms_behind i ts ≡ and_then (term_at root n) (terms_behind (suc i) ts)
  number : number_of (term_at root n) ≡ n

left_at : (root : Term) (ts : Terms) (i n : ℕ) → FoundAll root ts → slice_get (numbers_of ts) i ≡ Some n → Left root ts i n
left_at root no_terms i n h e = absurd (cc e)
left_at root (and_then (Numbered k f qs) ts) zero n h e =
    let at : k ≡ n = cc e in
    record {
      left = ap (λ t. and_then t ts) (sym h.0.0 ∙ ap (term_at root) at);
      number = ap (λ m. number_of (term_at root m)) (sym at) ∙ ap number_of h.0.0 ∙ at;
    }
left_at root (and_then t ts) (suc i) n h e =
    let rest = left_at root ts i n h.1 e in
    record { left = rest.left; number = rest.number }

parts_found : (root t : Term) → Found root t → FoundAll root (parts_of t)
parts_found root (Numbered k f ps) h = h.1

chosen : (b : Bool) (n : ℕ) (o : Option ℕ) → option_map function_at (cond b (Some n) o) ≡ (if b then Some (function_at n) else option_map function_at o)
chosen true n o = refl
chosen false n o = refl

-- a function is put in front of those behind it
put_first : (x name : List ℕ) (names : List (List ℕ)) (t : Term) (ts : Terms) (o p : Option ℕ) → form_of t ≡ form.Function name names → p ≡ cond (is_eq (slice_cmp nat_cmp name x)) (Some (number_of t)) o → option_map function_at o ≡ function_in x ts → option_map function_at p ≡ function_in x (and_then t ts)
put_first x name names t ts o p is put rest =
    ap (option_map function_at) put
    ∙ chosen (is_eq (slice_cmp nat_cmp name x)) (number_of t) o
    ∙ ap (λ b. if b then Some (function_at (number_of t)) else option_map function_at o) (sym (texts_ties name x))
    ∙ ap (λ r. function_if x t (form.Function name names) r) rest
    ∙ ap (λ f. function_if x t f (function_in x ts)) (sym is)

no_function : (x : List ℕ) (t : Term) (f : NodeForm) (rest : Option Callee) → ((name : List ℕ) (names : List (List ℕ)) → f ≡ form.Function name names → ⊥) → function_if x t f rest ≡ rest
no_function x t (form.Function name names) rest other = absurd (other name names refl)
no_function x t f rest other = refl

-- Part i of the script, from the rows of the script.
module _ (rows : List Row) (table : IsTable rows) where
  rows_all : length rows ≡ length (nodes_of (script_of rows))
  rows_all = ap length table.table ∙ rows_count (script_of rows)

  pub rows_some : 0 < length rows
  rows_some = omega (arith, rows_all, some_node (script_of rows))

  form_there : (n : ℕ) (r : Row) → n < length rows → r ≡ get_or rows n r → r ≡ row_of (term_at (script_of rows) n)
  form_there n r lt is = code_row rows rows refl n r table (omega (arith, rows_all, lt)) is

  pub parts_are : (r : Row) (tops : List ℕ) → r ≡ get_or rows 0 r → tops ≡ (get_or rows 0 r).parts → tops ≡ numbers_of (parts_of (script_of rows))
  parts_are r tops is read = read ∙ ap (λ (q : Row). q.parts) (sym is ∙ form_there 0 r rows_some is) ∙ ap (λ t. numbers_of (parts_of t)) (first_node (script_of rows))

  module _ (tops : List ℕ) (are : tops ≡ numbers_of (parts_of (script_of rows))) (at i : ℕ) (next : at ≡ suc i) (within : at ≤ length tops) where
    read : slice_get (numbers_of (parts_of (script_of rows))) i ≡ Some (get_or tops i 0)
    read = ap (λ ns. slice_get ns i) (sym are) ∙ slice_get-get_or tops i 0 (omega (arith, next, within))

    pub part_there : get_or tops i 0 < length rows
    part_there =
        let number : part_number (script_of rows) 0 i ≡ Some (get_or tops i 0) = ap (λ t. slice_get (numbers_of (parts_of t)) i) (first_node (script_of rows)) ∙ read in
        omega (arith, rows_all, (table.behind 0 i (get_or tops i 0) number).1)

    module _ (functions : BTreeMap (List ℕ) ℕ) (behind : HasFunctions (terms_behind at (parts_of (script_of rows))) functions) (r : Row) (is : r ≡ get_or rows (get_or tops i 0) r) where
      here : Left (script_of rows) (parts_of (script_of rows)) i (get_or tops i 0)
      here = left_at (script_of rows) (parts_of (script_of rows)) i (get_or tops i 0) (parts_found (script_of rows) (script_of rows) table.found) read

      same_form : (get_or rows (get_or tops i 0) r).form ≡ form_of (term_at (script_of rows) (get_or tops i 0))
      same_form = ap (λ (q : Row). q.form) (sym is ∙ form_there (get_or tops i 0) r part_there is)

      rest : (x : List ℕ) → option_map function_at (get (slice_cmp nat_cmp) functions x) ≡ function_in x (terms_behind (suc i) (parts_of (script_of rows)))
      rest x = behind x ∙ ap (λ j. function_in x (terms_behind j (parts_of (script_of rows)))) next

      pub function_put : (name key : List ℕ) (names : List (List ℕ)) (more : BTreeMap (List ℕ) ℕ) → (get_or rows (get_or tops i 0) r).form ≡ form.Function name names → key ≡ name → Updates (slice_cmp nat_cmp) functions more key (Some (get_or tops i 0)) → HasFunctions (terms_behind i (parts_of (script_of rows))) more
      function_put name key names more a_function copy put = λ x.
          put_first x key names (term_at (script_of rows) (get_or tops i 0)) (terms_behind (suc i) (parts_of (script_of rows))) (get (slice_cmp nat_cmp) functions x) (get (slice_cmp nat_cmp) more x)
          (sym same_form ∙ a_function ∙ ap (λ n. form.Function n names) (sym copy))
          (put.0 x ∙ ap (λ m. cond (is_eq (slice_cmp nat_cmp key x)) (Some m) (get (slice_cmp nat_cmp) functions x)) (sym here.number))
          (rest x)
          ∙ ap (function_in x) (sym here.left)

      pub function_passed : ((name : List ℕ) (names : List (List ℕ)) → (get_or rows (get_or tops i 0) r).form ≡ form.Function name names → ⊥) → HasFunctions (terms_behind i (parts_of (script_of rows))) functions
      function_passed other = λ x.
          rest x
          ∙ sym (no_function x (term_at (script_of rows) (get_or tops i 0)) (get_or rows (get_or tops i 0) r).form (function_in x (terms_behind (suc i) (parts_of (script_of rows)))) other)
          ∙ ap (λ f. function_if x (term_at (script_of rows) (get_or tops i 0)) f (function_in x (terms_behind (suc i) (parts_of (script_of rows))))) same_form
          ∙ ap (function_in x) (sym here.left)
