-- Heap bytes of cells and of all cells.
use Rattle.std.proofs.Common.{◌≡◌, ℕ, zero, suc, ◌+◌, ◌<◌, ◌≤◌, List, [], ◌∷◌, ◌++◌, length, get_or, set, take, Some, None, slice_get, arith}
use Rattle.std.proofs.lemmas.List.{take_more}
use Rattle.std.proofs.lemmas.Option.{slice_get_within, get_or_from_slice_get}
use Rattle.model_values.specs.Cells.{cell_bytes, entry_bytes, heap_bytes, key_bytes}
use Rattle.cell_heap.specs.ValueTypes.{Key, Value, Cell}

pub heap_bytes-push : (h : List Cell) (c : Cell) → heap_bytes (h ++ c ∷ []) ≡ heap_bytes h + cell_bytes c
heap_bytes-push [] c = omega arith
heap_bytes-push (b ∷ h) c = omega (arith, heap_bytes-push h c)

pub heap_bytes-set : (h : List Cell) (i : ℕ) (c d : Cell) → i < length h → heap_bytes (set h i c) + cell_bytes (get_or h i d) ≡ heap_bytes h + cell_bytes c
heap_bytes-set [] i c d h = let no : ⊥ = omega (arith, h) in absurd no
heap_bytes-set (b ∷ h) zero c d lt = omega arith
heap_bytes-set (b ∷ h) (suc i) c d lt = omega (arith, heap_bytes-set h i c d (omega (arith, lt)))

pub heap_bytes-take_more : (h : List Cell) (i : ℕ) (d : Cell) → i < length h → heap_bytes (take (i + 1) h) ≡ heap_bytes (take i h) + cell_bytes (get_or h i d)
heap_bytes-take_more h i d lt = rw (take_more h i d lt) (heap_bytes-push (take i h) (get_or h i d))

pub heap_bytes-take-le : (h : List Cell) (i : ℕ) → heap_bytes (take i h) ≤ heap_bytes h
heap_bytes-take-le h zero = omega arith
heap_bytes-take-le [] (suc i) = omega arith
heap_bytes-take-le (c ∷ h) (suc i) = omega (arith, heap_bytes-take-le h i)

pub cell_bytes-le : (h : List Cell) (i : ℕ) (d : Cell) → i < length h → cell_bytes (get_or h i d) ≤ heap_bytes h
cell_bytes-le [] i d lt = let no : ⊥ = omega (arith, lt) in absurd no
cell_bytes-le (c ∷ h) zero d lt = omega arith
cell_bytes-le (c ∷ h) (suc i) d lt = omega (arith, cell_bytes-le h i d (omega (arith, lt)))

entry_bytes-push : (es : List (Key × Value)) (e : Key × Value) → entry_bytes (es ++ e ∷ []) ≡ entry_bytes es + (32 + key_bytes e.0)
entry_bytes-push [] e = omega arith
entry_bytes-push (b ∷ es) e = omega (arith, entry_bytes-push es e)

pub entry_bytes-take_more : (es : List (Key × Value)) (i : ℕ) (e : Key × Value) → slice_get es i ≡ Some e → entry_bytes (take (i + 1) es) ≡ entry_bytes (take i es) + (32 + key_bytes e.0)
entry_bytes-take_more es i e got =
    rw (take_more es i e (slice_get_within es i e got), get_or_from_slice_get es i e e got) (entry_bytes-push (take i es) e)

-- a place that is not there is behind the end
pub slice_get-none : (es : List (Key × Value)) (i : ℕ) → slice_get es i ≡ None → length es ≤ i
slice_get-none [] i none = omega arith
slice_get-none (e ∷ es) zero none = cc
slice_get-none (e ∷ es) (suc i) none = omega (arith, slice_get-none es i none)
