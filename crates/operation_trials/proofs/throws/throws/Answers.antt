use Rattle.std.proofs.Common.{length}
use Rattle.operation_trials.proofs.throws.throws.Goals as goal

-- what throws names no cell
pub perform-requires : goal.perform-requires
perform-requires c = c.in_ok-effect.ensures (length c.args.heap.now.cells)
