use Rattle.std.proofs.Common.{◌≡◌, ℕ, [], ◌+◌, ◌-◌, length, get_or}
use Rattle.cell_heap.proofs.indexes.TextIndexes.make_room.Given as goal

abbrev pub invariant-loop-alloc : goal.invariant-loop-alloc
invariant-loop-alloc l = (i : ℕ) → get_or l.self.by_cell.items i [] ≡ get_or l.initial.self.by_cell.items i []

abbrev pub decreases-loop-alloc : goal.decreases-loop-alloc
decreases-loop-alloc l = l.cell + 1 - length l.self.by_cell.items
