-- The marked cells are compared one after the other; each cell between two of them stood so.
use Rattle.std.proofs.Common.{◌≡◌, ◌∙◌, ◌<◌, ◌≤◌, ◌+◌, ℕ, suc, Bool, true, false, List, [], ◌∷◌, length, get_or, slice_get, Option, Some, None, refl, sym, ap, subst, arith, inl, length-drop}
use Rattle.std.proofs.lemmas.List.{drop_all}
use Rattle.cell_heap.specs.Marks.{places, places_from}
use Rattle.cell_heap.specs.Region.{Region}
use Rattle.cell_heap.proofs.MarkLemmas.{IsPlace, places_from-marked}
use Rattle.model_values.specs.declared.cell.Cell.{Cell}
use Rattle.delta_form.specs.declared.delta.NumberedCell.{NumberedCell}
use Rattle.image_changes.specs.Parts.{PutsCells}
use Rattle.image_changes.specs.Seen.{KeepsUnmarked}
use Rattle.image_changes.specs.Walks.{CellsReach, NotesAll, NotesCell, NotesReach}
use Rattle.image_changes.proofs.Gets.{from_end, from_item}
use Rattle.image_changes.proofs.Reaching.{cell_noted, cells_begin, cells_end}

-- a marked cell is there
pub marked_within : (now : Region) (ids : List ℕ) (k d : ℕ) → ids ≡ places now.changed → length now.changed ≡ length now.cells → k < length ids → get_or ids k d < length now.cells
marked_within now ids k d is marked lt =
    let place : IsPlace 0 now.changed (get_or (places now.changed) k d) = places_from-marked 0 now.changed k d (omega (arith, lt, ap length is)) in
    rw is (omega (arith, place.is, place.within, marked))

-- one more is compared
pub marked_noted : (before now : List Cell) (ids : List ℕ) (k id : ℕ) (cell : Cell) (old new : List NumberedCell) → slice_get ids k ≡ Some id → slice_get now id ≡ Some cell → NotesCell before id cell old new → NotesReach before now ids k old → NotesReach before now ids (suc k) new
marked_noted before now ids k id cell old new at is notes reach = λ all rest.
    reach all (subst (λ (l : List ℕ). NotesAll before now l old all) (sym (from_item ids k id at)) (cell, new, is, notes, rest))

-- a cell that stood so is passed
unmarked_stays : (before now : List Cell) (place : ℕ) (found : List NumberedCell) → place < length now → slice_get now place ≡ slice_get before place → CellsReach before now place found → CellsReach before now (suc place) found
unmarked_stays before now place found lt same reach = go (slice_get now place) refl
  where
    go : (o : Option Cell) → slice_get now place ≡ o → CellsReach before now (suc place) found
    go None is = absurd (omega (arith, lt, length-drop place now, ap length (from_end now place is)))
    go (Some cell) is = cell_noted before now place cell found found is (inl (sym same ∙ is, refl)) reach

-- all from a place on
walked : (before now : List Cell) (flags : List Bool) (place : ℕ) (old new : List NumberedCell) → place + length flags ≡ length now
    → ((k : ℕ) → get_or flags k true ≡ false → slice_get now (place + k) ≡ slice_get before (place + k))
    → NotesAll before now (places_from place flags) old new → CellsReach before now place old → CellsReach before now (length now) new
walked before now [] place old new all same notes reach =
    let end : place ≡ length now = omega (arith, all) in
    subst (λ (n : ℕ). CellsReach before now n new) end (subst (λ (l : List NumberedCell). CellsReach before now place l) (sym notes) reach)
walked before now (true ∷ flags) place old new all same (cell, mid, is, notes, rest) reach =
    let next : place + 1 ≡ suc place = omega arith in
    walked before now flags (suc place) mid new (omega (arith, all))
    (λ k e. let at : place + suc k ≡ suc place + k = omega arith in subst (λ (n : ℕ). slice_get now n ≡ slice_get before n) at (same (suc k) e))
    (subst (λ (n : ℕ). NotesAll before now (places_from n flags) mid new) next rest)
    (cell_noted before now place cell old mid is notes reach)
walked before now (false ∷ flags) place old new all same notes reach =
    let next : place + 1 ≡ suc place = omega arith in
    let here : place + 0 ≡ place = omega arith in
    walked before now flags (suc place) old new (omega (arith, all))
    (λ k e. let at : place + suc k ≡ suc place + k = omega arith in subst (λ (n : ℕ). slice_get now n ≡ slice_get before n) at (same (suc k) e))
    (subst (λ (n : ℕ). NotesAll before now (places_from n flags) old new) next notes)
    (unmarked_stays before now place old (omega (arith, all)) (subst (λ (n : ℕ). slice_get now n ≡ slice_get before n) here (same 0 refl)) reach)

pub marked_end : (before : List Cell) (now : Region) (ids : List ℕ) (k : ℕ) (found : List NumberedCell) → KeepsUnmarked before now → ids ≡ places now.changed → length now.changed ≡ length now.cells → length ids ≤ k → NotesReach before now.cells ids k found → PutsCells before now.cells found
marked_end before now ids k found keeps is marked end reach =
    let all : NotesAll before now.cells ids [] found = reach found (subst (λ (l : List ℕ). NotesAll before now.cells l found found) (sym (drop_all k ids end)) refl) in
    cells_end before now.cells (length now.cells) found keeps.grows (omega arith)
    (walked before now.cells now.changed 0 [] found (omega (arith, marked)) (λ n e. let at : n ≡ 0 + n = omega arith in subst (λ (m : ℕ). slice_get now.cells m ≡ slice_get before m) at (keeps.same n e)) (subst (λ (l : List ℕ). NotesAll before now.cells l [] found) is all) (cells_begin before now.cells))
