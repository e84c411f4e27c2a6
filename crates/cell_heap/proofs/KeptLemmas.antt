-- What a heap keeps of its fields, and what a contract sees of them, through a cell that is written and one that is new.
use Rattle.std.proofs.Common.{◌≡◌, ℕ, ◌+◌, ◌-◌, ◌<◌, ◌≤◌, ◌^◌, true, List, [], ◌∷◌, ◌++◌, length, get_or, set, Some, slice_get, refl, sym, ap, subst, ◌∙◌, arith}
use Rattle.std.specs.Vec.{with_item, vec_capacity}
use Rattle.std.proofs.lemmas.List.{length-set, length_push}
use Rattle.std.proofs.lemmas.Option.{slice_get_read}
use Rattle.model_values.specs.Cells.{cell_bytes, heap_bytes}
use Rattle.model_values.specs.Fitting.{HasText}
use Rattle.model_values.proofs.CellGrowth.{size_within}
use Rattle.cell_heap.specs.Follows.{Follows}
use Rattle.cell_heap.specs.HeapKept.{IsKept}
use Rattle.cell_heap.specs.Marks.{Marks}
use Rattle.cell_heap.specs.Region.{Region}
use Rattle.cell_heap.specs.Soundness.{AreSound, CellBelow, IsSoundIn}
use Rattle.cell_heap.specs.ValueTypes.{Cell}
use Rattle.cell_heap.specs.declared.heap.Heap.TheInside.{Inside}
use Rattle.cell_heap.proofs.FollowsLemmas.{Follows-push, Follows-set}
use Rattle.cell_heap.proofs.IndexLemmas.{AreIndexesIn-push, AreIndexesIn-set}
use Rattle.cell_heap.proofs.SizeLemmas.{heap_bytes-push, heap_bytes-set}
use Rattle.cell_heap.proofs.SoundLemmas.{AreSound-push, AreSound-set}

-- what a contract sees
abbrev pub region_of : Inside → Region
region_of h = record { cells = h.cells.items; changed = h.changes.flags; spare = h.changes.spare }

-- the heap with another cell at i, which is marked
abbrev pub with_cell : Region → ℕ → Cell → Region
with_cell r i c = record r { cells = set r.cells i c; changed = set r.changed i true }

module _ (h : Inside) (r : Region) (view : region_of h ≡ r) where
  pub same_cells : h.cells.items ≡ r.cells
  same_cells = ap (λ (s : Region). s.cells) view

  pub same_length : length h.cells.items ≡ length r.cells
  same_length = ap (λ (s : Region). length s.cells) view

  -- the cell that is read at i is the one that the contract sees there
  pub seen_at : (i : ℕ) (x : Cell) → i < length r.cells → x ≡ get_or h.cells.items i x → slice_get r.cells i ≡ Some x
  seen_at i x lt is =
      let within : i < length h.cells.items = omega (arith, lt, same_length) in
      subst (λ (xs : List Cell). slice_get xs i ≡ Some x) same_cells (slice_get_read h.cells.items (length h.cells.items) i x refl within is)

  marks_match : IsKept h → length r.changed ≡ length r.cells
  marks_match k = omega (arith, k.marked, h.cells.ok.0, ap (λ (s : Region). length s.changed) view, same_length)

  pub written : (i : ℕ) (c d : Cell) (marks : Marks) (total : ℕ) → marks ≡ record h.changes { flags = set h.changes.flags i true } → c ≡ d → region_of (record { cells = with_item h.cells i c; changes = marks; total = total; indexes = h.indexes }) ≡ with_cell r i d
  written i c d marks total marked same = rw (← view, marked, same) refl

  pub written-follows : (i : ℕ) (c : Cell) (marks : Marks) (total : ℕ) → IsKept h → marks ≡ record h.changes { flags = set h.changes.flags i true } → Follows r (region_of (record { cells = with_item h.cells i c; changes = marks; total = total; indexes = h.indexes }))
  written-follows i c marks total k marked =
      Follows-set r (region_of (record { cells = with_item h.cells i c; changes = marks; total = total; indexes = h.indexes })) i c (marks_match k) (written i c c marks total marked refl)

  -- the cell `was` at i, which is no text, becomes c, and the total changes as the bytes of the cell do
  pub IsKept-set : (i : ℕ) (was c : Cell) (marks : Marks) (total : ℕ) → IsKept h → i < length r.cells → (HasText (slice_get r.cells i) → ⊥) → was ≡ get_or h.cells.items i was → IsSoundIn (length r.cells) c → marks ≡ record h.changes { flags = set h.changes.flags i true } → total + cell_bytes was ≡ h.total + cell_bytes c → total ≤ 2 ^ 62 → IsKept (record { cells = with_item h.cells i c; changes = marks; total = total; indexes = h.indexes })
  IsKept-set i was c marks total k lt none read sound marked counted bounded =
      let within : i < length h.cells.items = omega (arith, lt, same_length) in
      let new : IsSoundIn (length h.cells.items) c = subst (λ (n : ℕ). IsSoundIn n c) (sym same_length) sound in
      let bytes = heap_bytes-set h.cells.items i c was within in
      let at : cell_bytes was ≡ cell_bytes (get_or h.cells.items i was) = ap cell_bytes read in
      let flags : length marks.flags ≡ length h.changes.flags = ap (λ (m : Marks). length m.flags) marked ∙ length-set h.changes.flags i true in
      let spare : marks.spare ≡ h.changes.spare = ap (λ (m : Marks). m.spare) marked in record {
        sound = AreSound-set h.cells.items i c k.sound new;
        few = k.few;
        marked = omega (arith, flags, k.marked);
        counted = omega (arith, bytes, at, counted, k.counted);
        bounded = bounded;
        room = omega (arith, spare, k.room);
        indexed = AreIndexesIn-set h.cells.items i c h.indexes.by_cell.items (λ text. none (subst (λ (xs : List Cell). HasText (slice_get xs i)) same_cells text)) k.indexed;
      }

-- a new cell
pub IsKept-push : (h next : Inside) (c : Cell) → IsKept h → next.cells.items ≡ h.cells.items ++ c ∷ [] → vec_capacity next.cells ≡ vec_capacity h.cells → 0 < h.changes.spare → next.changes ≡ record { flags = h.changes.flags ++ true ∷ []; spare = h.changes.spare - 1 } → next.total ≡ h.total + cell_bytes c → next.indexes ≡ h.indexes → CellBelow (length h.cells.items) c → next.total ≤ 268435456 → length h.cells.items < 1048576 → IsKept next
IsKept-push h next c k items capacity room marks total indexes below small few =
    let lens : length next.cells.items ≡ length h.cells.items + 1 = ap length items ∙ length_push h.cells.items c in
    let flags : length next.changes.flags ≡ length h.changes.flags + 1 = ap (λ (m : Marks). length m.flags) marks ∙ length_push h.changes.flags true in
    let spare : next.changes.spare ≡ h.changes.spare - 1 = ap (λ (m : Marks). m.spare) marks in
    let bytes : heap_bytes next.cells.items ≡ heap_bytes h.cells.items + cell_bytes c = ap heap_bytes items ∙ heap_bytes-push h.cells.items c in
    let new : IsSoundIn (length h.cells.items) c = record { below = below; small = omega (arith, size_within c, total, small) } in record {
      sound = subst AreSound (sym items) (AreSound-push h.cells.items c k.sound new);
      few = omega (arith, lens, next.cells.ok.0, few);
      marked = omega (arith, flags, lens, next.cells.ok.0, h.cells.ok.0, k.marked);
      counted = omega (arith, bytes, total, k.counted);
      bounded = omega (arith, small);
      room = omega (arith, lens, next.cells.ok.0, h.cells.ok.0, spare, capacity, room, k.room);
      indexed = rw (items, indexes) (AreIndexesIn-push h.cells.items c h.indexes.by_cell.items k.indexed);
    }

-- and what a contract sees of it
pub pushed : (h next : Inside) (r : Region) (c : Cell) → region_of h ≡ r → next.cells.items ≡ h.cells.items ++ c ∷ [] → next.changes ≡ record { flags = h.changes.flags ++ true ∷ []; spare = h.changes.spare - 1 } → region_of next ≡ record { cells = r.cells ++ c ∷ []; changed = r.changed ++ true ∷ []; spare = r.spare - 1 }
pushed h next r c view items marks = rw (← view, items, marks) refl

pub pushed-follows : (h next : Inside) (r : Region) (c : Cell) → region_of h ≡ r → IsKept h → next.cells.items ≡ h.cells.items ++ c ∷ [] → next.changes ≡ record { flags = h.changes.flags ++ true ∷ []; spare = h.changes.spare - 1 } → Follows r (region_of next)
pushed-follows h next r c view k items marks =
    Follows-push r (region_of next) c (r.spare - 1) (marks_match h r view k) (pushed h next r c view items marks)
