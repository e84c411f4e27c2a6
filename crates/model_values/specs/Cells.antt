-- Heap bytes, and how an evaluation makes and changes cells under the limits.
use Rattle.std.specs.Prelude.{ℕ, ◌+◌, ◌*◌, nat_lt, if◌then◌else◌, List, [], ◌∷◌, ◌++◌, length, Option, Some, None, slice_get, slice_set, true}
use Rattle.std.specs.Map.{lookup}
use Rattle.indexmap.specs.IndexMap.{insert_entry}
use Rattle.model_values.specs.Keys.{same_key}
use Rattle.model_values.specs.Limits.{Limits}
use Rattle.model_values.specs.Types.{Value, Truth, InCell, Key, IntKey, TextKey, Cell, Variable, TextCell, ListCell, MapCell, ClosureCell, ThrownCell, Class, LimitKind, TextLength, CollectionSize, Cells, HeapBytes}

-- this product's own: a text key counts its bytes
abbrev pub key_bytes : Key → ℕ
key_bytes (IntKey x) = 0
key_bytes (TextKey t) = length t

abbrev pub entry_bytes : List (Key × Value) → ℕ
entry_bytes [] = 0
entry_bytes (e ∷ es) = 32 + key_bytes e.0 + entry_bytes es

-- this product's own: 16 for a cell, the bytes of a text or message, 16 for an entry of a list,
-- 32 for an entry of a map with the bytes of its text key, 16 for a name that a closure sees
abbrev pub cell_bytes : Cell → ℕ
cell_bytes (Variable v) = 16
cell_bytes (TextCell t) = 16 + length t
cell_bytes (ListCell vs) = 16 + 16 * length vs
cell_bytes (MapCell es) = 16 + entry_bytes es
cell_bytes (ClosureCell node env) = 16 + 16 * length env
cell_bytes (ThrownCell class None) = 16
cell_bytes (ThrownCell class (Some m)) = 16 + length m

abbrev pub heap_bytes : List Cell → ℕ
heap_bytes [] = 0
heap_bytes (c ∷ cs) = cell_bytes c + heap_bytes cs

-- how many bytes of text or entries a cell holds
abbrev pub cell_size : Cell → ℕ
cell_size (Variable v) = 0
cell_size (TextCell t) = length t
cell_size (ListCell vs) = length vs
cell_size (MapCell es) = length es
cell_size (ClosureCell node env) = 0
cell_size (ThrownCell class None) = 0
cell_size (ThrownCell class (Some m)) = length m

-- what an evaluation of values ends with: a value, or a throwable in the cell of this number, with the cells
-- afterwards; or a limit, and then every cell is as it was before
pub data Answer : Type 0 where
  Gives : List Cell → Value → Answer
  Throws : List Cell → ℕ → Answer
  Meets : LimitKind → Answer

abbrev pub unless_limit : Option LimitKind → Answer → Answer
unless_limit (Some k) answer = Meets k
unless_limit None answer = answer

module _ (l : Limits) (h : List Cell) where
  -- the limit that these new cells would pass: first their number is tested, then the heap bytes
  abbrev pub no_room : List Cell → Option LimitKind
  no_room new =
      if nat_lt l.cells (length h + length new) then Some Cells
      else if nat_lt l.bytes (heap_bytes h + heap_bytes new) then Some HeapBytes
      else None

  -- new cells behind those that are there, all or none
  abbrev pub with_new : List Cell → (List Cell → Answer) → Answer
  with_new new go = unless_limit (no_room new) (go (h ++ new))

  -- a new cell, whose number is the value
  abbrev pub new_cell : Cell → Answer
  new_cell c = with_new (c ∷ []) (λ g. Gives g (InCell (length h)))

  abbrev pub new_text : List ℕ → Answer
  new_text t = if nat_lt l.text (length t) then Meets TextLength else new_cell (TextCell t)

  abbrev pub new_list : List Value → Answer
  new_list vs = if nat_lt l.entries (length vs) then Meets CollectionSize else new_cell (ListCell vs)

  abbrev pub new_map : List (Key × Value) → Answer
  new_map es = if nat_lt l.entries (length es) then Meets CollectionSize else new_cell (MapCell es)

  -- new cells, and behind them a list of values that may name them
  abbrev pub new_list_of : List Cell → List Value → Answer
  new_list_of parts vs =
      if nat_lt l.entries (length vs) then Meets CollectionSize
      else with_new (parts ++ ListCell vs ∷ []) (λ g. Gives g (InCell (length h + length parts)))

  -- a new throwable with this message, which is a text like any other
  abbrev pub throw : Class → List ℕ → Answer
  throw class m = if nat_lt l.text (length m) then Meets TextLength else with_new (ThrownCell class (Some m) ∷ []) (λ g. Throws g (length h))

  -- an entry more on the list in cell c
  abbrev pub list_push : ℕ → List Value → Value → Answer
  list_push c vs v =
      if nat_lt l.entries (length vs + 1) then Meets CollectionSize
      else if nat_lt l.bytes (heap_bytes h + 16) then Meets HeapBytes
      else Gives (slice_set h c (ListCell (vs ++ v ∷ []))) (Truth true)

  -- a key of the map in cell c, which has this old value there or none, gets a value
  abbrev pub put_over : Option Value → ℕ → List (Key × Value) → Key → Value → Value → Answer
  put_over (Some old) c es k v answer = Gives (slice_set h c (MapCell (insert_entry same_key es k v))) answer
  put_over None c es k v answer =
      if nat_lt l.entries (length es + 1) then Meets CollectionSize
      else if nat_lt l.bytes (heap_bytes h + 32 + key_bytes k) then Meets HeapBytes
      else Gives (slice_set h c (MapCell (insert_entry same_key es k v))) answer

  -- a key of the map in cell c gets a value, and `answer` is given. No limit is met where the key is there
  abbrev pub map_put : ℕ → List (Key × Value) → Key → Value → Value → Answer
  map_put c es k v answer = put_over (lookup (same_key k) es) c es k v answer

-- the variable in a cell gets a value. Nothing else is assigned to, so what is no variable stays as it is
abbrev pub variable_set : Option Cell → List Cell → ℕ → Value → List Cell
variable_set (Some (Variable old)) h c v = slice_set h c (Variable v)
variable_set o h c v = h

abbrev pub set_variable : List Cell → ℕ → Value → List Cell
set_variable h c v = variable_set (slice_get h c) h c v
