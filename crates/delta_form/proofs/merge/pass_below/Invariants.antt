use Rattle.std.proofs.Common.{◌≡◌, ◌++◌, length}
use Rattle.delta_form.specs.Changes.{parted}
use Rattle.delta_form.proofs.merge.pass_below.Given as goal

abbrev pub invariant-loop-item : goal.invariant-loop-item
invariant-loop-item g l = record {
  passed : l.done ++ (parted (λ x. g.C.Change.changing.compare x l.fn.change) l.rest.items).0 ≡ l.fn.done ++ (parted (λ x. g.C.Change.changing.compare x l.fn.change) l.fn.rest.items).0;
  left : (parted (λ x. g.C.Change.changing.compare x l.fn.change) l.fn.rest.items).1 ≡ (parted (λ x. g.C.Change.changing.compare x l.fn.change) l.rest.items).1;
}

abbrev pub decreases-loop-item : goal.decreases-loop-item
decreases-loop-item g l = length l.rest.items
