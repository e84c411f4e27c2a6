-- The methods of lists and maps that take no closure. None: there is no method of this name with this number of arguments.
use Rattle.std.specs.Prelude.{ℕ, ◌+◌, nat_lt, Bool, true, false, if◌then◌else◌, List, [], ◌∷◌, length, reverse, ℤ, pos, negsuc, neg_ℤ, Option, Some, None, is_some, unwrap_or, slice_index_or, slice_set}
use Rattle.std.specs.Map.{lookup, remove_entry, values_of}
use Rattle.model_values.specs.Cells.{Answer, Gives, Meets, new_list, new_list_of, list_push, map_put}
use Rattle.model_values.specs.Equality.{Equality, Is, Stops as Halts, equal}
use Rattle.model_values.specs.Index.{key_of, map_at}
use Rattle.model_values.specs.Keys.{same_key}
use Rattle.model_values.specs.Limits.{Limits}
use Rattle.model_values.specs.Kinds.{Kind, kind}
use Rattle.model_values.specs.MethodNames.{Method, Size, IsEmpty, Contains, IndexOf, Add, Get, First, Last, Join, Reverse, Put, ContainsKey, Remove, KeySet, Values}
use Rattle.model_values.specs.TextMethods.{with_text, with_number, flag_of, count_of}
use Rattle.model_values.specs.TextOf.{Writing, Wrote, write_then, behind, text_behind, written}
use Rattle.model_values.specs.Throws.{bad_key, outside, empty_list}
use Rattle.model_values.specs.Types.{Value, Null, Whole, InCell, Key, IntKey, TextKey, Cell, TextCell, MapCell, LimitKind}

-- where a value first stands in a list, or the limit that the comparing met, and the count of evaluated nodes then
pub data Search : Type 0 where
  Found : ℕ → ℕ → Search
  Absent : ℕ → Search
  Met : LimitKind → ℕ → Search

abbrev pub found_or_on : Equality → ℕ → (ℕ → Search) → Search
found_or_on (Is true n) i go = Found i n
found_or_on (Is false n) i go = go n
found_or_on (Halts k n) i go = Met k n

-- the cells that the keys of a map need as values, and these values, where the first such cell is number n
abbrev pub key_cells : List (Key × Value) → List Cell
key_cells [] = []
key_cells ((IntKey x, v) ∷ es) = key_cells es
key_cells ((TextKey t, v) ∷ es) = TextCell t ∷ key_cells es

abbrev pub key_values : ℕ → List (Key × Value) → List Value
key_values n [] = []
key_values n ((IntKey x, v) ∷ es) = Whole x ∷ key_values n es
key_values n ((TextKey t, v) ∷ es) = InCell n ∷ key_values (n + 1) es

module _ (l : Limits) (h : List Cell) where
  -- the entries in order, from place i on, each as the left side of an equality
  abbrev pub search : List Value → Value → ℕ → ℕ → Search
  search [] v i n = Absent n
  search (x ∷ xs) v i n = found_or_on (equal l h x v n) i (search xs v (i + 1))

  abbrev pub is_found : Search → Answer × ℕ
  is_found (Found i n) = (flag_of l h true, n)
  is_found (Absent n) = (flag_of l h false, n)
  is_found (Met k n) = (Meets k, n)

  abbrev pub place_found : Search → Answer × ℕ
  place_found (Found i n) = (count_of l h i, n)
  place_found (Absent n) = (Gives h (Whole (neg_ℤ (pos 1))), n)
  place_found (Met k n) = (Meets k, n)

  -- the texts of the entries with t between
  abbrev pub joined_behind : List ℕ → Bool → List Value → List ℕ → Writing
  joined_behind t first [] s = Wrote s
  joined_behind t true (v ∷ vs) s = write_then (text_behind l h v s) (joined_behind t false vs)
  joined_behind t false (v ∷ vs) s = write_then (write_then (behind l h t s) (text_behind l h v)) (joined_behind t false vs)

  -- `get` takes no negative position, unlike an index
  abbrev pub entry_at : List Value → ℤ → Answer
  entry_at vs (pos i) = if nat_lt i (length vs) then Gives h (slice_index_or vs i Null) else outside l h (pos i) (length vs)
  entry_at vs (negsuc i) = outside l h (negsuc i) (length vs)

  abbrev pub first_of_list : List Value → Answer
  first_of_list [] = empty_list l h
  first_of_list (v ∷ vs) = Gives h v

  abbrev pub is_empty_list : {X : Type 0} → List X → Bool
  is_empty_list [] = true
  is_empty_list (x ∷ xs) = false

  -- the list in cell c. The count rises by the pairs that `contains` and `indexOf` compare
  abbrev pub list_method : ℕ → List Value → Method → List Value → ℕ → Option (Answer × ℕ)
  list_method c vs Size [] n = Some (count_of l h (length vs), n)
  list_method c vs IsEmpty [] n = Some (flag_of l h (is_empty_list vs), n)
  list_method c vs Add (v ∷ []) n = Some (list_push l h c vs v, n)
  list_method c vs Get (v ∷ []) n = Some (with_number l h (kind h v) (entry_at vs), n)
  list_method c vs Contains (v ∷ []) n = Some (is_found (search vs v 0 n))
  list_method c vs IndexOf (v ∷ []) n = Some (place_found (search vs v 0 n))
  list_method c vs First [] n = Some (first_of_list vs, n)
  list_method c vs Last [] n = Some (first_of_list (reverse vs), n)
  list_method c vs Join (v ∷ []) n = Some (with_text l h (kind h v) (λ t. written l h (joined_behind t true vs [])), n)
  list_method c vs Reverse [] n = Some (new_list l h (reverse vs), n)
  list_method c vs _ _ n = None

  abbrev pub old_or_null : List (Key × Value) → Key → Value
  old_or_null es k = unwrap_or (lookup (same_key k) es) Null

  abbrev pub with_key : Kind → (Key → Answer) → Answer
  with_key k go = elim (key_of k) as (λ o. Answer) [ Some key ↦ go key | None ↦ bad_key l h ]

  -- the map in cell c. `put` and `remove` give the old value or null, `keySet` and `values` lists
  abbrev pub map_method : ℕ → List (Key × Value) → Method → List Value → Option Answer
  map_method c es Size [] = Some (count_of l h (length es))
  map_method c es IsEmpty [] = Some (flag_of l h (is_empty_list es))
  map_method c es Get (v ∷ []) = Some (map_at l h es (key_of (kind h v)))
  map_method c es Put (v ∷ w ∷ []) = Some (with_key (kind h v) (λ k. map_put l h c es k w (old_or_null es k)))
  map_method c es ContainsKey (v ∷ []) = Some (with_key (kind h v) (λ k. flag_of l h (is_some (lookup (same_key k) es))))
  map_method c es Remove (v ∷ []) =
      Some (with_key (kind h v) (λ k. Gives (slice_set h c (MapCell (remove_entry (same_key k) es))) (old_or_null es k)))
  map_method c es KeySet [] = Some (new_list_of l h (key_cells es) (key_values (length h) es))
  map_method c es Values [] = Some (new_list l h (values_of es))
  map_method c es _ _ = None
