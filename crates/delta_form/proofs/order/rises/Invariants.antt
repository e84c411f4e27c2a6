use Rattle.std.proofs.Common.{◌≡◌, ◌-◌, drop}
use Rattle.delta_form.specs.Changes.{rising}
use Rattle.delta_form.proofs.order.rises.Given as goal

abbrev pub invariant-loop-place : goal.invariant-loop-place
invariant-loop-place g l = rising g.T.Ordered.order l.items ≡ rising g.T.Ordered.order (drop (l.place - 1) l.items)
