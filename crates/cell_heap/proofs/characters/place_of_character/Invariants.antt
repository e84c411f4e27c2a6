use Rattle.std.proofs.Common.{◌≡◌, ◌+◌, ◌-◌, drop}
use Rattle.cell_heap.specs.Places.{place_behind}
use Rattle.cell_heap.proofs.characters.place_of_character.Given as goal

abbrev pub invariant-loop-place : goal.invariant-loop-place
invariant-loop-place l = place_behind (l.at - 1) l.byte-items ≡ l.place + place_behind l.left (drop l.place l.byte-items)
