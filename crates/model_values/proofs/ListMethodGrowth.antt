-- The methods of lists and maps that take no closure.
use Rattle.std.proofs.Common.{arith, inr, ◌≡◌, ◌≤◌, ◌+◌, subst, sym, ℕ, ℤ, pos, negsuc, neg_ℤ, Bool, true, false, List, [], ◌∷◌, length, reverse, Option, Some, None, cond}
use Rattle.std.specs.Prelude.{slice_get, slice_set, nat_lt, if◌then◌else◌, is_some, slice_index_or}
use Rattle.std.specs.List.{AllByRecursion as AllAre}
use Rattle.std.specs.Map.{lookup, remove_entry, values_of}
use Rattle.std.proofs.lemmas.List.{reverse-append}
use Rattle.model_values.specs.Cells.{entry_bytes, Answer, Gives}
use Rattle.model_values.specs.Fitting.{There, CellFits}
use Rattle.model_values.specs.Index.{key_of}
use Rattle.model_values.specs.Keys.{same_key}
use Rattle.model_values.specs.Kinds.{Kind, kind}
use Rattle.model_values.specs.ListMethods.{Search, Found, Absent, Met, key_cells, key_values, search, is_found, place_found, joined_behind, entry_at, first_of_list, is_empty_list, list_method, old_or_null, with_key, map_method}
use Rattle.model_values.specs.MethodNames.{Method, Size, IsEmpty, Contains, IndexOf, Add, Get, First, Last, Join, Reverse, Put, ContainsKey, Remove, KeySet, Values}
use Rattle.model_values.specs.Throws.{bad_key, outside}
use Rattle.model_values.specs.Types.{Value, Null, Whole, Key, IntKey, TextKey, Cell, ListCell, MapCell}
use Rattle.model_values.specs.declared.cell.Binding.{Binding}
use Rattle.model_values.proofs.CellGrowth.{Before, Sort, Answers, gives, new_list_grows, new_list_of_grows, list_push_grows, map_put_grows, map_changes, items_there, pairs_there, all_append, text_is_there, list_is_there, flag_is_there}
use Rattle.model_values.proofs.IndexGrowth.{all_index, all_lookup, map_at_grows}
use Rattle.model_values.proofs.TextMethodGrowth.{MayAnswer, with_text_grows, with_number_grows, flag_there_too, count_there_too}
use Rattle.model_values.proofs.ThrowGrowth.{bad_key_grows, outside_grows, empty_list_grows, written_grows}

pub all_reverse : (P : Value → Type 0) (vs : List Value) → AllAre P vs → AllAre P (reverse vs)
all_reverse P [] h = tt
all_reverse P (v ∷ vs) h = subst (AllAre P) (sym (reverse-append (v ∷ []) vs)) (all_append P (reverse vs) (v ∷ []) (all_reverse P vs h.1) (h.0, tt))

pub all_values : (P : Value → Type 0) (es : List (Key × Value)) → AllAre (λ e. P e.1) es → AllAre P (values_of es)
all_values P [] h = tt
all_values P (e ∷ es) h = (h.0, all_values P es h.1)

remove_step : (P : Value → Type 0) (test : Bool) (e : Key × Value) (es fs : List (Key × Value)) → AllAre (λ p. P p.1) (e ∷ es) → AllAre (λ p. P p.1) fs → AllAre (λ p. P p.1) (cond test es (e ∷ fs))
remove_step P true e es fs h k = h.1
remove_step P false e es fs h k = (h.0, k)

pub all_removed : (P : Value → Type 0) (test : Key → Bool) (es : List (Key × Value)) → AllAre (λ e. P e.1) es → AllAre (λ e. P e.1) (remove_entry test es)
all_removed P test [] h = tt
all_removed P test (e ∷ es) h = remove_step P (test e.0) e es (remove_entry test es) h (all_removed P test es h.1)

removed_step : (test : Bool) (e : Key × Value) (es fs : List (Key × Value)) → entry_bytes fs ≤ entry_bytes es → entry_bytes (cond test es (e ∷ fs)) ≤ entry_bytes (e ∷ es)
removed_step true e es fs h = omega arith
removed_step false e es fs h = omega arith

-- a map without an entry has no more bytes
bytes_removed : (test : Key → Bool) (es : List (Key × Value)) → entry_bytes (remove_entry test es) ≤ entry_bytes es
bytes_removed test [] = omega arith
bytes_removed test (e ∷ es) = removed_step (test e.0) e es (remove_entry test es) (bytes_removed test es)

shorter_step : (test : Bool) (e : Key × Value) (es fs : List (Key × Value)) → length fs ≤ length es → length (cond test es (e ∷ fs)) ≤ length (e ∷ es)
shorter_step true e es fs h = omega arith
shorter_step false e es fs h = omega arith

length_removed : (test : Key → Bool) (es : List (Key × Value)) → length (remove_entry test es) ≤ length es
length_removed test [] = omega arith
length_removed test (e ∷ es) = shorter_step (test e.0) e es (remove_entry test es) (length_removed test es)

key_cells_fit : (rule : ℕ → List Binding → Type 0) (es : List (Key × Value)) (g : List Cell) → AllAre (CellFits rule g) (key_cells es)
key_cells_fit rule [] g = tt
key_cells_fit rule ((IntKey x, v) ∷ es) g = key_cells_fit rule es g
key_cells_fit rule ((TextKey t, v) ∷ es) g = (tt, key_cells_fit rule es g)

key_values_there : (g : List Cell) (n : ℕ) (es : List (Key × Value)) → n + length (key_cells es) ≤ length g → AllAre (There g) (key_values n es)
key_values_there g n [] long = tt
key_values_there g n ((IntKey x, v) ∷ es) long = (tt, key_values_there g n es long)
key_values_there g n ((TextKey t, v) ∷ es) long = (omega arith, key_values_there g (n + 1) es (omega arith))

-- an answer with the count of evaluated nodes, where there is such a method
abbrev pub MayAnswerCounted : Before → Option (Answer × ℕ) → Type 0
MayAnswerCounted b None = Unit {0}
MayAnswerCounted b (Some r) = Answers b There r.0

module _ (b : Before) where
  is_found_grows : (s : Search) → Answers b There (is_found b.l b.h s).0
  is_found_grows (Found i n) = flag_there_too b true
  is_found_grows (Absent n) = flag_there_too b false
  is_found_grows (Met k n) = tt

  place_found_grows : (s : Search) → Answers b There (place_found b.l b.h s).0
  place_found_grows (Found i n) = count_there_too b i
  place_found_grows (Absent n) = gives b There (Whole (neg_ℤ (pos 1))) (λ x. tt)
  place_found_grows (Met k n) = tt

  entry_or_outside : (inside : Bool) (v : Value) (i : ℤ) (n : ℕ) → (b.given → There b.h v) → Answers b There (if inside then Gives b.h v else outside b.l b.h i n)
  entry_or_outside true v i n t = gives b There v t
  entry_or_outside false v i n t = outside_grows b There i n

  entry_at_grows : (vs : List Value) (i : ℤ) → (b.given → AllAre (There b.h) vs) → Answers b There (entry_at b.l b.h vs i)
  entry_at_grows vs (pos i) a = entry_or_outside (nat_lt i (length vs)) (slice_index_or vs i Null) (pos i) (length vs) (λ x. all_index (There b.h) vs i Null (a x) tt)
  entry_at_grows vs (negsuc i) a = outside_grows b There (negsuc i) (length vs)

  first_of_list_grows : (vs : List Value) → (b.given → AllAre (There b.h) vs) → Answers b There (first_of_list b.l b.h vs)
  first_of_list_grows [] a = empty_list_grows b There
  first_of_list_grows (v ∷ vs) a = gives b There v (λ x. (a x).0)

  pub list_method_grows : (c : ℕ) (vs : List Value) (m : Method) (args : List Value) (n : ℕ) → slice_get b.h c ≡ Some (ListCell vs) → (b.given → AllAre (There b.h) args) → MayAnswerCounted b (list_method b.l b.h c vs m args n)
  list_method_grows c vs Size [] n e a = count_there_too b (length vs)
  list_method_grows c vs IsEmpty [] n e a = flag_there_too b (is_empty_list b.l b.h vs)
  list_method_grows c vs Add (v ∷ []) n e a = flag_is_there b _ (list_push_grows b c vs v e (λ x. (a x).0))
  list_method_grows c vs Get (v ∷ []) n e a = with_number_grows b There (kind b.h v) (entry_at b.l b.h vs) (λ i. entry_at_grows vs i (items_there b c vs e))
  list_method_grows c vs Contains (v ∷ []) n e a = is_found_grows (search b.l b.h vs v 0 n)
  list_method_grows c vs IndexOf (v ∷ []) n e a = place_found_grows (search b.l b.h vs v 0 n)
  list_method_grows c vs First [] n e a = first_of_list_grows vs (items_there b c vs e)
  list_method_grows c vs Last [] n e a = first_of_list_grows (reverse vs) (λ x. all_reverse (There b.h) vs (items_there b c vs e x))
  list_method_grows c vs Join (v ∷ []) n e a = with_text_grows b There (kind b.h v) _ (λ t. text_is_there b _ (written_grows b (joined_behind b.l b.h t true vs [])))
  list_method_grows c vs Reverse [] n e a = list_is_there b _ (new_list_grows b (reverse vs) (λ x. all_reverse (There b.h) vs (items_there b c vs e x)))
  list_method_grows c vs m args n e a = tt

  with_key_case : (sort : Sort) (o : Option Key) (go : Key → Answer) → ((k : Key) → Answers b sort (go k)) → Answers b sort (elim o as (λ o. Answer) [ Some key ↦ go key | None ↦ bad_key b.l b.h ])
  with_key_case sort (Some k) go a = a k
  with_key_case sort None go a = bad_key_grows b sort

  pub with_key_grows : (sort : Sort) (k : Kind) (go : Key → Answer) → ((key : Key) → Answers b sort (go key)) → Answers b sort (with_key b.l b.h k go)
  with_key_grows sort k go a = with_key_case sort (key_of k) go a

  remove_grows : (c : ℕ) (es : List (Key × Value)) (k : Key) → slice_get b.h c ≡ Some (MapCell es) → Answers b There (Gives (slice_set b.h c (MapCell (remove_entry (same_key k) es))) (old_or_null b.l b.h es k))
  remove_grows c es k e =
      map_changes b c es (remove_entry (same_key k) es) (old_or_null b.l b.h es k) e (inr (omega (arith, bytes_removed (same_key k) es), length_removed (same_key k) es))
      (λ x. all_removed (There b.h) (same_key k) es (pairs_there b c es e x)) (λ x. all_lookup (There b.h) (same_key k) es (pairs_there b c es e x) tt)

  pub map_method_grows : (c : ℕ) (es : List (Key × Value)) (m : Method) (args : List Value) → slice_get b.h c ≡ Some (MapCell es) → (b.given → AllAre (There b.h) args) → MayAnswer b (map_method b.l b.h c es m args)
  map_method_grows c es Size [] e a = count_there_too b (length es)
  map_method_grows c es IsEmpty [] e a = flag_there_too b (is_empty_list b.l b.h es)
  map_method_grows c es Get (v ∷ []) e a = map_at_grows b es (key_of (kind b.h v)) (pairs_there b c es e)
  map_method_grows c es Put (v ∷ w ∷ []) e a = with_key_grows There (kind b.h v) _ (λ k. map_put_grows b c es k w (old_or_null b.l b.h es k) e (λ x. (a x).1.0) (λ x. all_lookup (There b.h) (same_key k) es (pairs_there b c es e x) tt))
  map_method_grows c es ContainsKey (v ∷ []) e a = with_key_grows There (kind b.h v) _ (λ k. flag_there_too b (is_some (lookup (same_key k) es)))
  map_method_grows c es Remove (v ∷ []) e a = with_key_grows There (kind b.h v) _ (λ k. remove_grows c es k e)
  map_method_grows c es KeySet [] e a = list_is_there b _ (new_list_of_grows b (key_cells es) (key_values (length b.h) es) (key_cells_fit b.rule es) (λ g long x. key_values_there g (length b.h) es long))
  map_method_grows c es Values [] e a = list_is_there b _ (new_list_grows b (values_of es) (λ x. all_values (There b.h) es (pairs_there b c es e x)))
  map_method_grows c es m args e a = tt
