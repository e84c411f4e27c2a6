-- What a walk over a list before and a list now has still to find, and what it makes of both (of private functions alone).
use Rattle.std.specs.Prelude.{◌≡◌, ◌⊎◌, ◌≤◌, ◌+◌, ℕ, true, List, [], ◌∷◌, ◌++◌, length, drop, take, map, slice_get, Option, Some, None}
use Rattle.std.specs.List.{AllByRecursion as AllAre}
use Rattle.std.specs.Ordering.{nat_cmp, on}
use Rattle.std.specs.Cmp.Lexicographic.{slice_cmp}
use Rattle.std.specs.declared.cmp.Ordering.{Ordering}
use Rattle.std.specs.declared.cmp.Ordering.TheVariants.{Less}
use Rattle.model_values.specs.declared.cell.Binding.{Binding}
use Rattle.model_values.specs.declared.cell.Cell.{Cell}
use Rattle.delta_form.specs.Applying.{in_turn}
use Rattle.delta_form.specs.Changes.{by_number, changed, rising}
use Rattle.delta_form.specs.After.{are_apart, binding_changes, gone, put_cell}
use Rattle.delta_form.specs.declared.delta.NumberedCell.{NumberedCell}
use Rattle.delta_form.specs.declared.delta.WrittenCell.{WrittenCell}
use Rattle.image_changes.specs.Least.{AllNeeded}
use Rattle.image_changes.specs.Growing.{WritesCell}
use Rattle.image_changes.specs.declared.walk.Walk.{Walk}

-- all items have keys above this one
abbrev pub Above : {K X : Type 0} → (K → K → Ordering) → (X → K) → K → List X → Type 0
Above order by k xs = AllAre (λ x. order k (by x) ≡ Less) xs

-- Behind this many cells, the cells from before become the cells now by these.
pub record PutsFrom (place : ℕ) (before now : List Cell) (cells : List NumberedCell) : Type 0 where
  pub made : (front : List Cell) → length front ≡ place → in_turn put_cell cells (front ++ before) ≡ Some (front ++ now)
  pub from : AllAre (λ c. place ≤ c.number) cells
  pub rise : rising (on (λ c. c.number) nat_cmp) cells ≡ true

-- the cells that were found, and those that the rest needs, are what all needs
abbrev pub CellsReach : List Cell → List Cell → ℕ → List NumberedCell → Type 0
CellsReach before now place found = (more : List NumberedCell) → PutsFrom place (drop place before) (drop place now) more → PutsFrom 0 before now (found ++ more)

-- These variables lead from the ones before to the ones now.
pub record Binds (before now news : List Binding) : Type 0 where
  pub made : changed binding_changes news before ≡ Some now
  pub before_above : (k : List ℕ) → Above (slice_cmp nat_cmp) (λ b. b.name) k now → Above (slice_cmp nat_cmp) (λ b. b.name) k before
  pub news_above : (k : List ℕ) → Above (slice_cmp nat_cmp) (λ b. b.name) k now → Above (slice_cmp nat_cmp) (λ b. b.name) k news
  pub rise : rising (on (λ b. b.name) (slice_cmp nat_cmp)) news ≡ true

abbrev pub BindingsReach : List Binding → List Binding → ℕ → ℕ → List Binding → Type 0
BindingsReach before now had has found = (more : List Binding) → Binds (drop had before) (drop has now) more → Binds before now (found ++ more)

-- The items with these numbers are gone, and these changes make the items now of those that are left.
pub record Leads {C X : Type 0} (by : X → ℕ) (number : C → ℕ) (made : C → Option X → Option (Option X)) (before now : List X) (closed : List ℕ) (written : List C) : Type 0 where
  pub left : List X
  pub without : changed (by_number by (λ n. n) gone) closed before ≡ Some left
  pub made_now : changed (by_number by number made) written left ≡ Some now
  pub closed_above : (k : ℕ) → Above nat_cmp by k before → Above nat_cmp (λ n. n) k closed
  pub left_above : (k : ℕ) → Above nat_cmp by k before → Above nat_cmp by k left
  pub written_above : (k : ℕ) → Above nat_cmp by k now → Above nat_cmp number k written
  pub closed_rise : rising nat_cmp closed ≡ true
  pub written_rise : rising (on number nat_cmp) written ≡ true
  pub apart : are_apart closed (map number written) ≡ true

abbrev pub Reaches : {C X : Type 0} → (X → ℕ) → (C → ℕ) → (C → Option X → Option (Option X)) → List X → List X → Walk C → Type 0
Reaches {C} by number made before now walk =
    (closed : List ℕ) (written : List C) → Leads by number made (drop walk.had before) (drop walk.has now) closed written
    → Leads by number made before now (walk.gone ++ closed) (walk.written ++ written)

-- What is written makes the item of what stood at its number, which is another one, and is the shortest that does.
abbrev pub Changes : {C X : Type 0} → (X → ℕ) → (C → ℕ) → (C → Option X → Option (Option X)) → (C → X → Type 0) → X → X → C → Type 0
Changes by number made shortest stood item c = ¬ (stood ≡ item) × (number c ≡ by item) × (made c (Some stood) ≡ Some (Some item)) × shortest c stood

-- Nothing is written exactly where it stood so.
abbrev pub Writes : {C X : Type 0} → (X → ℕ) → (C → ℕ) → (C → Option X → Option (Option X)) → (C → X → Type 0) → X → X → Option C → Type 0
Writes by number made shortest stood item None = stood ≡ item
Writes by number made shortest stood item (Some c) = Changes by number made shortest stood item c

-- one item more was passed that is new
abbrev pub Adds : {C X : Type 0} → (X → ℕ) → (C → ℕ) → (C → Option X → Option (Option X)) → Walk C → X → Walk C → Type 0
Adds {C} by number made old item new =
    (c : C) × (number c ≡ by item) × (made c None ≡ Some (Some item)) × (new ≡ record old { has = old.has + 1; written = old.written ++ c ∷ [] })

-- one item more was passed that stood, and was changed or was not
abbrev pub Stays : {C X : Type 0} → (X → ℕ) → (C → ℕ) → (C → Option X → Option (Option X)) → (C → X → Type 0) → Walk C → X → X → Walk C → Type 0
Stays {C} by number made shortest old stood item new =
    ((stood ≡ item) × (new ≡ record old { had = old.had + 1; has = old.has + 1 }))
    ⊎ ((c : C) × Changes by number made shortest stood item c × (new ≡ record old { had = old.had + 1; has = old.has + 1; written = old.written ++ c ∷ [] }))

-- of each item now, what is known of it and the one that stood at its number
abbrev pub AllKnown : {X N : Type 0} → (X → ℕ) → (N → X) → (X → N → Type 0) → List X → List N → Type 0
AllKnown {X} {N} by seen known before now = AllAre (λ (n : N). AllAre (λ (x : X). by x ≡ by (seen n) → known x n) before) now

-- Each item before that was passed is below each item now that was not.
abbrev pub Passed : {C X : Type 0} → (X → ℕ) → List X → List X → Walk C → Type 0
Passed by before now walk = AllAre (λ b. Above nat_cmp by (by b) (drop walk.has now)) (take walk.had before)

-- what was found so far, and what the rest needs, are what all needs; and all that was found is needed
pub record Goes {C X : Type 0} (by : X → ℕ) (number : C → ℕ) (made : C → Option X → Option (Option X)) (shortest : C → X → Type 0) (before now : List X) (walk : Walk C) : Type 0 where
  pub reaches : Reaches by number made before now walk
  pub passed : Passed by before now walk
  pub needed : AllNeeded by number made shortest before walk.written

-- what makes the cell of what stood was put behind the changed ones
abbrev pub PutsCell : List Cell → ℕ → Cell → List NumberedCell → List NumberedCell → Type 0
PutsCell before place cell old new = (w : WrittenCell) × WritesCell (slice_get before place) cell w × (new ≡ old ++ record { number = place; cell = w } ∷ [])

-- a cell stood so at its place, or it was put behind the changed ones
abbrev pub NotesCell : List Cell → ℕ → Cell → List NumberedCell → List NumberedCell → Type 0
NotesCell before place cell old new =
    ((slice_get before place ≡ Some cell) × (new ≡ old)) ⊎ (¬ (slice_get before place ≡ Some cell) × PutsCell before place cell old new)

-- a variable stood so at the place, which is passed, or it was put behind the new ones
abbrev pub NotesBinding : List Binding → ℕ → Binding → List Binding → List Binding → ℕ → Type 0
NotesBinding before place binding old new next =
    ((slice_get before place ≡ Some binding) × (next ≡ place + 1) × (new ≡ old)) ⊎ (¬ (slice_get before place ≡ Some binding) × (next ≡ place) × (new ≡ old ++ binding ∷ []))

-- these cells are compared one after the other, from what was put behind to what is put behind then
abbrev pub NotesAll : List Cell → List Cell → List ℕ → List NumberedCell → List NumberedCell → Type 0
NotesAll before now [] old new = new ≡ old
NotesAll before now (id ∷ ids) old new = (cell : Cell) × (mid : List NumberedCell) × (slice_get now id ≡ Some cell) × NotesCell before id cell old mid × NotesAll before now ids mid new

-- the cells that were found of the first so many, and what the rest finds, are what all find
abbrev pub NotesReach : List Cell → List Cell → List ℕ → ℕ → List NumberedCell → Type 0
NotesReach before now ids count found = (all : List NumberedCell) → NotesAll before now (drop count ids) found all → NotesAll before now ids [] all
