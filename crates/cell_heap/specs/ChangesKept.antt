-- What the list of changed cells keeps of its fields.
use Rattle.std.specs.Prelude.{◌+◌, ◌<◌, ◌≤◌, ◌^◌, vec_len, vec_capacity}
use Rattle.std.specs.List.Sorted.{IsPermutation}
use Rattle.cell_heap.specs.declared.changes.Changes.TheInside.{Inside}
use Rattle.cell_heap.specs.Marks.{places}

pub record IsKept (c : Inside) : Type 0 where
  -- the numbers are those of the true ones, each once
  pub listed : IsPermutation c.numbers.items (places c.is_changed.items)
  pub few : vec_len c.is_changed < 2 ^ 32
  -- both can grow by the unused places, and the numbers so far that each place could be among them
  pub flag_room : vec_len c.is_changed + c.unused ≤ vec_capacity c.is_changed
  pub number_room : vec_len c.is_changed + c.unused ≤ vec_capacity c.numbers
