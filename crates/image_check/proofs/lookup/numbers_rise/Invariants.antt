use Rattle.std.proofs.Common.{◌≡◌, drop}
use Rattle.image_check.specs.Requests.{numbers_rise, rise_behind}
use Rattle.image_check.proofs.lookup.numbers_rise.Given as goal

abbrev pub invariant-loop-item : goal.invariant-loop-item
invariant-loop-item g l = rise_behind g.T.HasNumber.number l.before (drop l.item-index l.items) ≡ numbers_rise g.T.HasNumber.number l.items
