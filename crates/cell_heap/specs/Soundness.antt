-- What a heap keeps of its cells: they name only cells that are there, and none is so large that a script's numbers
-- could not count its parts.
use Rattle.std.specs.Prelude.{ℕ, ◌<◌, ◌^◌, List, length, All}
use Rattle.model_values.specs.Cells.{cell_size}
use Rattle.cell_heap.specs.ValueTypes.{Value, InCell, Cell, Variable, ListCell, MapCell, ClosureCell}

-- the value names no cell, or one of the first n
abbrev pub ValueBelow : ℕ → Value → Type 0
ValueBelow n (InCell c) = c < n
ValueBelow n _ = Unit {0}

-- all that the cell holds names cells of the first n
abbrev pub CellBelow : ℕ → Cell → Type 0
CellBelow n (Variable v) = ValueBelow n v
CellBelow n (ListCell vs) = All (ValueBelow n) vs
CellBelow n (MapCell es) = All (λ e. ValueBelow n e.1) es
CellBelow n (ClosureCell node env) = All (λ b. b.cell < n) env
CellBelow n _ = Unit {0}

pub record IsSoundIn (n : ℕ) (c : Cell) : Type 0 where
  pub below : CellBelow n c
  pub small : cell_size c < 2 ^ 31

-- every cell is sound among all of them
abbrev pub AreSound : List Cell → Type 0
AreSound h = All (IsSoundIn (length h)) h
