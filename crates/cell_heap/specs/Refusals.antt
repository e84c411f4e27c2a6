-- When a heap refuses: the limit that a call would pass, the one of the higher row of the table of limits first.
use Rattle.std.specs.Prelude.{ℕ, ◌+◌, nat_lt, if◌then◌else◌, List, [], ◌∷◌, length, Option, Some, None}
use Rattle.std.specs.Map.{lookup}
use Rattle.model_values.specs.Cells.{heap_bytes, key_bytes, no_room}
use Rattle.model_values.specs.Keys.{same_key}
use Rattle.model_values.specs.Limits.{product_limits}
use Rattle.cell_heap.specs.ValueTypes.{Value, Key, Cell, LimitKind, CollectionSize, Cells, HeapBytes}
use Rattle.cell_heap.specs.Contents.{entry_count}
use Rattle.cell_heap.specs.declared.refusal.CellRefusal.{CellRefusal}
use Rattle.cell_heap.specs.declared.refusal.CellRefusal.TheVariants.{Memory, Cells as TooManyCells, Bytes as TooManyBytes, Entries as TooManyEntries}

-- the limit that a refusal tells; want of memory tells none
abbrev pub limit_of : CellRefusal → Option LimitKind
limit_of Memory = None
limit_of TooManyCells = Some Cells
limit_of TooManyBytes = Some HeapBytes
limit_of TooManyEntries = Some CollectionSize

-- the limit that one more cell would pass
abbrev pub new_cell_limit : List Cell → Cell → Option LimitKind
new_cell_limit h c = if nat_lt product_limits.entries (entry_count c) then Some CollectionSize else no_room product_limits h (c ∷ [])

-- the limit that a list or map with so many entries, and n heap bytes more than these, would pass
abbrev pub one_more_limit : ℕ → ℕ → ℕ → Option LimitKind
one_more_limit bytes entries n =
    if nat_lt product_limits.entries entries then Some CollectionSize
    else if nat_lt product_limits.bytes (bytes + n) then Some HeapBytes
    else None

-- the limit that an entry more on a list would pass
abbrev pub list_push_limit : List Cell → List Value → Option LimitKind
list_push_limit h vs = one_more_limit (heap_bytes h) (length vs + 1) 16

-- by the value that a key of a map had: the heap bytes that a value for it adds, and the limit that these would pass.
-- A key that is there adds nothing
abbrev pub added_bytes : Key → Option Value → ℕ
added_bytes k (Some old) = 0
added_bytes k None = 32 + key_bytes k

abbrev pub put_limit : ℕ → List (Key × Value) → Key → Option Value → Option LimitKind
put_limit bytes es k (Some old) = None
put_limit bytes es k None = one_more_limit bytes (length es + 1) (32 + key_bytes k)

abbrev pub map_put_limit : List Cell → List (Key × Value) → Key → Option LimitKind
map_put_limit h es k = put_limit (heap_bytes h) es k (lookup (same_key k) es)
