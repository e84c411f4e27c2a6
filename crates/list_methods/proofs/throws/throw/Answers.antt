use Rattle.std.proofs.Common.{length}
use Rattle.list_methods.proofs.throws.throw.Goals as goal

pub perform-requires : goal.perform-requires
perform-requires c = c.requires (length c.args.heap.now.cells)
