-- What a contract sees of a heap.
use Rattle.std.specs.Prelude.{ℕ, Bool, List}
use Rattle.cell_heap.specs.ValueTypes.{Cell}

pub record Region : Type 0 where
  -- the cells by their numbers
  pub cells : List Cell
  -- of each cell, whether it is new or was written since the last mark, or since the heap was made
  pub changed : List Bool
  -- so many cells more take no memory
  pub spare : ℕ
