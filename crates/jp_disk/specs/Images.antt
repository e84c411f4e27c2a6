-- What a crash may leave of a file between two syncs. The model is weaker than POSIX: every byte of a range that was
-- written since the last sync may be anything, in any order, and so may every byte past the old end.
use Rattle.std.specs.Prelude.{◌<◌, ◌≡◌, ◌⊎◌, ℕ, ◌+◌, ◌≤◌, max, List, [], ◌∷◌, ◌++◌, length, take, drop, slice_index, Option}

-- a place outside each of these ranges; a range is its first place and its number of bytes
abbrev pub IsOutside : List (ℕ × ℕ) → ℕ → Type 0
IsOutside [] place = Unit {0}
IsOutside (range ∷ ranges) place = ((place < range.0) ⊎ (range.0 + range.1 ≤ place)) × IsOutside ranges place

-- where the furthest of these ranges ends, or a file of this length
abbrev pub furthest_end : ℕ → List (ℕ × ℕ) → ℕ
furthest_end end [] = end
furthest_end end (range ∷ ranges) = max (furthest_end end ranges) (range.0 + range.1)

-- A crash may leave this image of a file that held `synced` at its last sync, with writes to the pending ranges since:
-- any length between the old end and the furthest one, any bytes in the ranges and past the old end, and the old bytes
-- everywhere else.
pub record IsImage (synced : List ℕ) (pending : List (ℕ × ℕ)) (image : List ℕ) : Type 0 where
  pub no_shorter : length synced ≤ length image
  pub no_longer : length image ≤ furthest_end (length synced) pending
  pub same : (place : ℕ) → place < length synced → IsOutside pending place → slice_index image place ≡ slice_index synced place

-- what one write of n bytes may make of a file where a crash cuts it short
abbrev pub IsTornWrite : ℕ → ℕ → List ℕ → List ℕ → Type 0
IsTornWrite at n old new = IsImage old ((at, n) ∷ []) new

-- the file with these bytes at this place
abbrev pub after_write : List ℕ → ℕ → List ℕ → List ℕ
after_write file at bytes = take at file ++ bytes ++ drop (at + length bytes) file

-- each image that a crash may leave now is this step away from one that it might have left before
abbrev pub ImagesStep : (List ℕ → List ℕ → Type 0) → (List ℕ → Type 0) → (List ℕ → Type 0) → Type 0
ImagesStep IsStep old new = (image : List ℕ) → new image → (before : List ℕ) × old before × IsStep before image

-- a crash leaves this file and nothing else
abbrev pub IsOnlyImage : List ℕ → (List ℕ → Type 0) → Type 0
IsOnlyImage file may_leave = (image : List ℕ) → may_leave image → image ≡ file

-- a call that writes nothing: a read gives what it gave before, and a crash leaves nothing new
pub record WritesNothing (old_reads new_reads : Option (List ℕ)) (old new : List ℕ → Type 0) : Type 0 where
  pub reads : new_reads ≡ old_reads
  pub images : (image : List ℕ) → new image → old image
