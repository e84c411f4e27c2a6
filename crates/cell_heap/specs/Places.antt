-- At which byte a character of a text begins, and what a heap keeps of this.
use Rattle.std.specs.Prelude.{◌≡◌, ℕ, zero, suc, ◌+◌, ◌*◌, if◌then◌else◌, List, [], ◌∷◌, Option, Some, slice_get, slice_index, slice_index_or, EachIndex}
use Rattle.std.specs.Fmt.{is_char_start}
use Rattle.cell_heap.specs.ValueTypes.{Cell, TextCell}

-- in the bytes behind a first one: where the next but n begins
abbrev pub place_behind : ℕ → List ℕ → ℕ
place_behind n [] = 0
place_behind zero (b ∷ bs) = if is_char_start b then 0 else 1 + place_behind zero bs
place_behind (suc n) (b ∷ bs) = if is_char_start b then 1 + place_behind n bs else 1 + place_behind (suc n) bs

abbrev pub place_of_character : List ℕ → ℕ → ℕ
place_of_character [] n = 0
place_of_character (b ∷ bs) zero = 0
place_of_character (b ∷ bs) (suc n) = 1 + place_behind n bs

-- an index of a text: its entry k is the byte at which the character of the number 64 (k + 1) begins
abbrev pub IsIndexOf : List ℕ → List ℕ → Type 0
IsIndexOf s bytes = EachIndex bytes (λ k. slice_index bytes k ≡ place_of_character s (64 * (k + 1)))

-- what is kept of a cell: of a text an index, and of another one nothing
abbrev pub IsIndexIn : Option Cell → List ℕ → Type 0
IsIndexIn (Some (TextCell s)) bytes = IsIndexOf s bytes
IsIndexIn _ bytes = bytes ≡ []

-- and of each cell of a heap; where the list ends, nothing is kept
abbrev pub AreIndexesIn : List Cell → List (List ℕ) → Type 0
AreIndexesIn h indexes = (i : ℕ) → IsIndexIn (slice_get h i) (slice_index_or indexes i [])
