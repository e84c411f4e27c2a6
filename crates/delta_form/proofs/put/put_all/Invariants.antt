use Rattle.std.proofs.Common.{◌≡◌}
use Rattle.std.specs.Vec.Iter.{into_iter_items}
use Rattle.delta_form.specs.Applying.{in_turn}
use Rattle.delta_form.proofs.put.put_all.Given as goal

abbrev pub invariant-loop-one : goal.invariant-loop-one
invariant-loop-one g l = in_turn g.P.Put.put l.fn.all l.fn.items ≡ in_turn g.P.Put.put (into_iter_items l.one-iterator) l.items
