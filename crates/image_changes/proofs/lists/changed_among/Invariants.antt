use Rattle.image_changes.specs.Least.{CellsDiffer}
use Rattle.image_changes.specs.Walks.{NotesReach}
use Rattle.image_changes.proofs.lists.changed_among.Given as goal

abbrev pub invariant-loop-id : goal.invariant-loop-id
invariant-loop-id l = record {
  reach : NotesReach l.before l.now.cells l.marked l.id-index l.changed;
  differ : CellsDiffer l.before l.changed;
}
