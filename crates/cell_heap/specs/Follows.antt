-- What a call that changes cells says of the marks: whoever kept the unmarked cells at one moment has them still.
use Rattle.std.specs.Prelude.{◌≡◌, ℕ, ◌≤◌, true, false, length, slice_get, slice_index_or}
use Rattle.cell_heap.specs.Region.{Region}

-- cells are added alone, and a cell that is unmarked afterwards was unmarked before and is the same
pub record Follows (old new : Region) : Type 0 where
  pub grows : length old.cells ≤ length new.cells
  pub unmarked : (id : ℕ) → slice_index_or new.changed id true ≡ false → slice_index_or old.changed id true ≡ false
  pub same : (id : ℕ) → slice_index_or new.changed id true ≡ false → slice_get new.cells id ≡ slice_get old.cells id
