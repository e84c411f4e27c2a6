use Rattle.std.proofs.Common.{◌≡◌, ◌+◌, ◌≤◌, length, vec_len}
use Rattle.std.specs.Vec.{vec_capacity}
use Rattle.cell_heap.proofs.MarkLemmas.{Covers}
use Rattle.cell_heap.proofs.changes.Changes.clear.Given as goal

abbrev pub invariant-loop-at : goal.invariant-loop-at
invariant-loop-at l = record {
  covers : Covers l.self-inside.numbers.items l.self-inside.is_changed.items;
  length : length l.self-inside.is_changed.items ≡ length l.initial.self-inside.is_changed.items;
  unused : l.self-inside.unused ≡ l.initial.self-inside.unused;
  flag_room : vec_len l.self-inside.is_changed + l.self-inside.unused ≤ vec_capacity l.self-inside.is_changed;
  number_room : vec_len l.self-inside.is_changed + l.self-inside.unused ≤ vec_capacity l.self-inside.numbers;
}

abbrev pub decreases-loop-at : goal.decreases-loop-at
decreases-loop-at l = vec_len l.self-inside.numbers
