use Rattle.std.proofs.Common.{length}
use Rattle.value_walks.proofs.loops.place_in_loop.Goals as goal

pub returns-in-List-clause-below : goal.returns-in-List-clause-below
returns-in-List-clause-below c = c.value_at.ensures.below (length c.args.heap.now.cells) c.in-List.ensures.sound.1

pub returns-in_default-clause-below : goal.returns-in_default-clause-below
returns-in_default-clause-below c = c.whole_value.ensures.below (length c.args.heap.now.cells) c.requires.value
