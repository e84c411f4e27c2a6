use Rattle.std.proofs.Common.{arith}
use Rattle.cell_heap.proofs.MarkLemmas.{length-listed}
use Rattle.cell_heap.proofs.changes.Changes.reserve.Goals as goal

pub overflow_sub-len : goal.overflow_sub-len
overflow_sub-len c =
    let fewer = length-listed c.self.inside.is_changed.items c.self.inside.numbers.items c.self.invariant.listed in
    omega (arith, fewer, c.self.inside.numbers.ok.0, c.self.inside.is_changed.ok.0)
