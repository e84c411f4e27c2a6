-- An index and a property, read and written.
use Rattle.std.specs.Prelude.{ℕ, suc, ◌-◌, nat_lt, nat_eq, if◌then◌else◌, List, [], length, ℤ, pos, negsuc, Option, Some, None, unwrap_or, slice_index_or, slice_set, codes}
use Rattle.std.specs.Map.{lookup}
use Rattle.std.specs.Cmp.Lexicographic.{pointwise}
use Rattle.model_values.specs.Cells.{Answer, Gives, new_text, map_put}
use Rattle.model_values.specs.Characters.{characters}
use Rattle.model_values.specs.Keys.{same_key}
use Rattle.model_values.specs.Limits.{Limits}
use Rattle.model_values.specs.Kinds.{Kind, null, number, text, items, pairs, thrown, kind}
use Rattle.model_values.specs.Throws.{no_method, no_property, no_property_to_set, outside, bad_key, bad_argument}
use Rattle.model_values.specs.Types.{Value, Null, Key, IntKey, TextKey, Cell, ListCell}

-- where an index points in n entries
pub data Place : Type 0 where
  at : ℕ → Place
  past : Place
  below : Place

-- Groovy: a negative index counts from the end
abbrev pub place_of : ℤ → ℕ → Place
place_of (pos i) n = if nat_lt i n then at i else past
place_of (negsuc i) n = if nat_lt i n then at (n - suc i) else below

-- this product's own: texts and whole numbers are keys, nothing else is
abbrev pub key_of : Kind → Option Key
key_of (text t) = Some (TextKey t)
key_of (number x) = Some (IntKey x)
key_of _ = None

module _ (l : Limits) (h : List Cell) where
  -- Groovy: past the end of a list stands null
  abbrev pub list_at : List Value → ℤ → Place → Answer
  list_at vs i (at j) = Gives h (slice_index_or vs j Null)
  list_at vs i past = Gives h Null
  list_at vs i below = outside l h i (length vs)

  -- one character of the text, as a new text
  abbrev pub text_at : List (List ℕ) → ℤ → Place → Answer
  text_at cs i (at j) = new_text l h (slice_index_or cs j [])
  text_at cs i past = outside l h i (length cs)
  text_at cs i below = outside l h i (length cs)

  -- Groovy: a key that is not there reads as null
  abbrev pub map_at : List (Key × Value) → Option Key → Answer
  map_at es (Some k) = Gives h (unwrap_or (lookup (same_key k) es) Null)
  map_at es None = bad_key l h

  abbrev pub kind_at : Kind → Kind → Answer
  kind_at (items c vs) (number i) = list_at vs i (place_of i (length vs))
  kind_at (text s) (number i) = text_at (characters s) i (place_of i (length (characters s)))
  kind_at (pairs c es) k = map_at es (key_of k)
  kind_at (items c vs) _ = bad_argument l h
  kind_at (text s) _ = bad_argument l h
  kind_at on _ = no_method l h on (codes "getAt")

  -- `a[b]`
  abbrev pub get_at : Value → Value → Answer
  get_at a b = kind_at (kind h a) (kind h b)

  -- this product's own: a list does not grow by an index
  abbrev pub set_list_at : ℕ → List Value → ℤ → Value → Place → Answer
  set_list_at c vs i v (at j) = Gives (slice_set h c (ListCell (slice_set vs j v))) v
  set_list_at c vs i v past = outside l h i (length vs)
  set_list_at c vs i v below = outside l h i (length vs)

  abbrev pub set_map_at : ℕ → List (Key × Value) → Value → Option Key → Answer
  set_map_at c es v (Some k) = map_put l h c es k v v
  set_map_at c es v None = bad_key l h

  abbrev pub set_kind_at : Kind → Kind → Value → Answer
  set_kind_at (items c vs) (number i) v = set_list_at c vs i v (place_of i (length vs))
  set_kind_at (pairs c es) k v = set_map_at c es v (key_of k)
  set_kind_at (items c vs) _ v = bad_argument l h
  set_kind_at on _ v = no_method l h on (codes "putAt")

  -- `a[b] = v`, whose value is v
  abbrev pub set_at : Value → Value → Value → Answer
  set_at a b v = set_kind_at (kind h a) (kind h b) v

  -- a throwable's message as a new text, or null where it has none
  abbrev pub message_of : Option (List ℕ) → Answer
  message_of None = Gives h Null
  message_of (Some m) = new_text l h m

  abbrev pub kind_property : Kind → List ℕ → Answer
  kind_property (pairs c es) p = map_at es (Some (TextKey p))
  kind_property (thrown c class m) p = if pointwise nat_eq p (codes "message") then message_of m else no_property l h (thrown c class m) p
  kind_property on p = no_property l h on p

  -- `a.p`
  abbrev pub get_property : Value → List ℕ → Answer
  get_property a p = kind_property (kind h a) p

  -- `a.p = v`, whose value is v; a throwable's message is not written
  abbrev pub set_kind_property : Kind → List ℕ → Value → Answer
  set_kind_property (pairs c es) p v = map_put l h c es (TextKey p) v v
  set_kind_property on p v = no_property_to_set l h on p

  abbrev pub set_property : Value → List ℕ → Value → Answer
  set_property a p v = set_kind_property (kind h a) p v

  -- Groovy: `a?.p` and `a?.f()` on null give null, and are else what `a.p` and `a.f()` are
  abbrev pub unless_null : Kind → Answer → Answer
  unless_null null answer = Gives h Null
  unless_null _ answer = answer
