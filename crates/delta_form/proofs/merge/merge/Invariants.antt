use Rattle.std.proofs.Common.{◌≡◌}
use Rattle.std.specs.Vec.Iter.{into_iter_items}
use Rattle.delta_form.specs.Applying.{in_turn}
use Rattle.delta_form.specs.Changes.{merged}
use Rattle.delta_form.proofs.merge.merge.Given as goal

abbrev pub invariant-loop-change : goal.invariant-loop-change
invariant-loop-change g l =
    in_turn (merged g.C.Change.changing) l.fn.changes (l.fn.done, l.fn.rest.items)
    ≡ in_turn (merged g.C.Change.changing) (into_iter_items l.change-iterator) (l.done, l.rest.items)
