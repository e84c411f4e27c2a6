use Rattle.std.proofs.Common.{length}
use Rattle.value_operators.proofs.index.get_property.Goals as goal

pub perform-requires : goal.perform-requires
perform-requires c = c.in_ok-effect.ensures.below (length c.args.heap.now.cells) c.kind_of.ensures.sound
