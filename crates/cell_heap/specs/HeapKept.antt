-- What a heap keeps of its fields.
use Rattle.std.specs.Prelude.{◌≡◌, ◌+◌, ◌<◌, ◌≤◌, ◌^◌, length, vec_len, vec_capacity}
use Rattle.model_values.specs.Cells.{heap_bytes}
use Rattle.cell_heap.specs.declared.heap.Heap.TheInside.{Inside}
use Rattle.cell_heap.specs.Places.{AreIndexesIn}
use Rattle.cell_heap.specs.Soundness.{AreSound}

pub record IsKept (h : Inside) : Type 0 where
  pub sound : AreSound h.cells.items
  pub few : vec_len h.cells < 2 ^ 32
  -- each cell has its mark
  pub marked : length h.changes.flags ≡ vec_len h.cells
  pub counted : h.total ≡ heap_bytes h.cells.items
  pub bounded : h.total ≤ 2 ^ 62
  -- there is room for the spare cells
  pub room : vec_len h.cells + h.changes.spare ≤ vec_capacity h.cells
  -- the index of each text is right
  pub indexed : AreIndexesIn h.cells.items h.indexes.by_cell.items
