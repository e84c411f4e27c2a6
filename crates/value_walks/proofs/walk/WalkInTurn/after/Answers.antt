use Rattle.std.proofs.Common.{◌∷◌, [], length}
use Rattle.std.proofs.lemmas.List.Elements.{All-append, All-cons, All-nil}
use Rattle.cell_heap.specs.Soundness.{ValueBelow}
use Rattle.value_walks.proofs.WalkLemmas.{kept_below, more_below}
use Rattle.value_walks.proofs.walk.WalkInTurn.after.Goals as goal

pub returns-in_ok-with-in-Collect-clause-below : goal.returns-in_ok-with-in-Collect-clause-below
returns-in_ok-with-in-Collect-clause-below c =
    let n = length c.args.heap.now.cells in
    rw c.in_ok-with-in-Collect.ensures
    (All-append (ValueBelow n) c.in-Collect.values (c.args.value.now ∷ []) (rw c.in-Collect.is at c.requires.held)
    (All-cons (ValueBelow n) c.args.value.now [] c.requires.value (All-nil (ValueBelow n))))

pub returns-in_ok-found-in-Find-clause-below : goal.returns-in_ok-found-in-Find-clause-below
returns-in_ok-found-in-Find-clause-below c = c.in_ok-found-in-Find.ensures.below (length c.args.heap.now.cells) (rw c.in-Find.is at c.requires.held)

pub returns-in_ok-with_element-in-FindAll-clause-below : goal.returns-in_ok-with_element-in-FindAll-clause-below
returns-in_ok-with_element-in-FindAll-clause-below c =
    rw c.in_ok-with_element-in-FindAll.ensures (more_below (length c.args.heap.now.cells) c.in-FindAll.element c.in-FindAll.values (rw c.in-FindAll.is at c.requires.held))

pub returns-else-is_true-2-clause-below : goal.returns-else-is_true-2-clause-below
returns-else-is_true-2-clause-below c =
    kept_below (length c.args.heap.now.cells) c.in-FindAll.element c.in-FindAll.values (rw c.in-FindAll.is at c.requires.held)
