use Rattle.std.proofs.Common.{length}
use Rattle.value_walks.proofs.place.place_in.Goals as goal

pub returns-in-List-clause-below : goal.returns-in-List-clause-below
returns-in-List-clause-below c = c.value_at.ensures.below (length c.args.heap.now.cells) c.in-List.ensures.sound.1

pub returns-in-Number-clause-below : goal.returns-in-Number-clause-below
returns-in-Number-clause-below c = c.number_below.ensures.below (length c.args.heap.now.cells)
