use Rattle.std.proofs.Common.{length, subst, sym}
use Rattle.std.specs.List.{All}
use Rattle.cell_heap.specs.Soundness.{ValueBelow}
use Rattle.step_arguments.proofs.Arguments.{entries_below, if_ok}
use Rattle.step_arguments.proofs.given.named_or_main.Goals as goal

pub returns-in-Map-clause-below : goal.returns-in-Map-clause-below
returns-in-Map-clause-below c = if_ok _ _ c.named.result (λ given is. subst (All (λ g. ValueBelow (length c.args.heap.now.cells) g.1)) (sym is) (entries_below (length c.args.heap.now.cells) c.in-Map.entries.now c.in-Map.ensures.sound.1)) c.named.ensures
