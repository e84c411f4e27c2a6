-- The methods that walk over a value with a closure, and the loop over a value: what a turn begins with, what it
-- keeps, and when the walk ends. A turn reads its position as the collection is then.
use Rattle.std.specs.Prelude.{ℕ, ◌+◌, nat_eq, Bool, true, false, if◌then◌else◌, List, [], ◌∷◌, ◌++◌, length, pos, int_lt, Option, Some, None, slice_get, codes}
use Rattle.indexmap.specs.IndexMap.{insert_entry}
use Rattle.model_values.specs.Cells.{Answer, Gives, no_room, new_cell, new_list, new_map}
use Rattle.model_values.specs.Characters.{characters}
use Rattle.model_values.specs.Index.{key_of}
use Rattle.model_values.specs.Keys.{same_key}
use Rattle.model_values.specs.Limits.{Limits}
use Rattle.model_values.specs.Kinds.{Kind, null, number, text, items, pairs, kind}
use Rattle.model_values.specs.MethodNames.{Method, Each, Collect, Find, FindAll, Any, Every}
use Rattle.model_values.specs.Truth.{truth}
use Rattle.model_values.specs.Types.{Value, Null, Truth, Whole, InCell, Key, IntKey, TextKey, Cell, TextCell, MapCell, LimitKind}

-- the next turn: the cells, the arguments of the closure, and the element that was read (an entry of a map is its key
-- and its value); or past the end; or a limit
pub data Turn : Type 0 where
  Turns : List Cell → List Value → List Value → Turn
  Past : Turn
  Stops : LimitKind → Turn

-- a map with `key` and `value`
abbrev pub entry_map : Value → Value → Cell
entry_map k v = MapCell ((TextKey (codes "key"), k) ∷ (TextKey (codes "value"), v) ∷ [])

-- the key of an entry as a value, where a new cell would be number n
abbrev pub key_value : ℕ → Key → Value
key_value n (IntKey x) = Whole x
key_value n (TextKey t) = InCell n

abbrev pub key_cell : Key → List Cell
key_cell (IntKey x) = []
key_cell (TextKey t) = TextCell t ∷ []

module _ (l : Limits) (h : List Cell) where
  abbrev pub unless_full : Option LimitKind → Turn → Turn
  unless_full (Some k) turn = Stops k
  unless_full None turn = turn

  abbrev pub element_turn : Option Value → Turn
  element_turn None = Past
  element_turn (Some v) = Turns h (v ∷ []) (v ∷ [])

  -- a closure of two parameters gets key and value, another one map with `key` and `value`
  abbrev pub entry_turn : Bool → Option (Key × Value) → Turn
  entry_turn two None = Past
  entry_turn true (Some e) =
      unless_full (no_room l h (key_cell e.0))
      (Turns (h ++ key_cell e.0) (key_value (length h) e.0 ∷ e.1 ∷ []) (key_value (length h) e.0 ∷ e.1 ∷ []))
  entry_turn false (Some e) =
      unless_full (no_room l h (key_cell e.0 ++ entry_map (key_value (length h) e.0) e.1 ∷ []))
      (Turns (h ++ key_cell e.0 ++ entry_map (key_value (length h) e.0) e.1 ∷ [])
      (InCell (length h + length (key_cell e.0)) ∷ []) (key_value (length h) e.0 ∷ e.1 ∷ []))

  -- `times` goes from 0 up to the number less one
  abbrev pub walk_turn : Kind → Bool → ℕ → Turn
  walk_turn (items c vs) two i = element_turn (slice_get vs i)
  walk_turn (pairs c es) two i = entry_turn two (slice_get es i)
  walk_turn (number x) two i = if int_lt (pos i) x then Turns h (Whole (pos i) ∷ []) (Whole (pos i) ∷ []) else Past
  walk_turn _ two i = Past

  -- turn i of a walk over a value, where `two` says that its closure has two parameters
  abbrev pub turn : Value → Bool → ℕ → Turn
  turn on two i = walk_turn (kind h on) two i

  abbrev pub character_turn : Option (List ℕ) → Turn
  character_turn None = Past
  character_turn (Some c) = unless_full (no_room l h (TextCell c ∷ [])) (Turns (h ++ TextCell c ∷ []) (InCell (length h) ∷ []) (InCell (length h) ∷ []))

  -- turn i of a `for` over a value. Over null there is none, over a text each character has one, over a value that
  -- is no collection there is one turn (Groovy); over a map there are maps with `key` and `value` (this product's own)
  abbrev pub loop_kind_turn : Value → Kind → ℕ → Turn
  loop_kind_turn on null i = Past
  loop_kind_turn on (items c vs) i = element_turn (slice_get vs i)
  loop_kind_turn on (pairs c es) i = entry_turn false (slice_get es i)
  loop_kind_turn on (text s) i = character_turn (slice_get (characters s) i)
  loop_kind_turn on _ i = if nat_eq i 0 then Turns h (on ∷ []) (on ∷ []) else Past

  abbrev pub loop_turn : Value → ℕ → Turn
  loop_turn on i = loop_kind_turn on (kind h on) i

-- after a turn: the walk goes on with what it keeps, or ends with an answer
pub data After : Type 0 where
  Keeps : List Value → After
  Ends : Answer → After

module _ (l : Limits) (h : List Cell) where
  -- what `find` gives: the argument of the closure; for a closure of two parameters a new map with `key` and `value`
  abbrev pub found : List Value → Answer
  found [] = Gives h Null
  found (v ∷ []) = Gives h v
  found (k ∷ v ∷ vs) = new_cell l h (entry_map k v)

  -- a turn with these arguments and this element, whose closure gave a value of this truth: `collect` keeps the
  -- value, `findAll` the element where the value is true; `find` and `any` end where it is true, `every` where it is false
  abbrev pub after_turn : Method → List Value → List Value → Bool → Value → List Value → After
  after_turn Collect args element true v kept = Keeps (kept ++ v ∷ [])
  after_turn Collect args element false v kept = Keeps (kept ++ v ∷ [])
  after_turn FindAll args element true v kept = Keeps (kept ++ element)
  after_turn Find args element true v kept = Ends (found args)
  after_turn Any args element true v kept = Ends (Gives h (Truth true))
  after_turn Every args element false v kept = Ends (Gives h (Truth false))
  after_turn m args element b v kept = Keeps kept

  -- what a walk keeps after a turn whose closure gave v
  abbrev pub after : Method → List Value → List Value → Value → List Value → After
  after m args element v kept = after_turn m args element (truth h v) v kept

  abbrev pub with_entry : List (Key × Value) → Option Key → Value → List (Key × Value)
  with_entry es None v = es
  with_entry es (Some k) v = insert_entry same_key es k v

  -- the entries whose keys and values were kept in turn
  abbrev pub kept_entries : List (Key × Value) → List Value → List (Key × Value)
  kept_entries es [] = es
  kept_entries es (k ∷ []) = es
  kept_entries es (k ∷ v ∷ vs) = kept_entries (with_entry es (key_of (kind h k)) v) vs

  -- `findAll` on a list gives a list, on a map a map
  abbrev pub all_found : Kind → List Value → Answer
  all_found (pairs c es) kept = new_map l h (kept_entries [] kept)
  all_found _ kept = new_list l h kept

  -- what a walk over a value gives that went past the end
  abbrev pub at_end : Method → Value → List Value → Answer
  at_end Each on kept = Gives h on
  at_end Collect on kept = new_list l h kept
  at_end FindAll on kept = all_found (kind h on) kept
  at_end Any on kept = Gives h (Truth false)
  at_end Every on kept = Gives h (Truth true)
  at_end _ on kept = Gives h Null
