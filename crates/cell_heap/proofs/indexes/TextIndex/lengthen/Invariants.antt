use Rattle.std.proofs.Common.{length, ◌-◌, ◌/◌}
use Rattle.cell_heap.specs.Places.{IsIndexOf}
use Rattle.cell_heap.proofs.indexes.TextIndex.lengthen.Given as goal

abbrev pub invariant-loop-self : goal.invariant-loop-self
invariant-loop-self l = IsIndexOf l.text l.self

abbrev pub decreases-loop-self : goal.decreases-loop-self
decreases-loop-self l = l.at / 64 - length l.self
