use Rattle.std.proofs.Common.{◌≡◌, drop}
use Rattle.delta_form.specs.Numbers.{from_number}
use Rattle.delta_form.proofs.apart.from_number.Given as goal

abbrev pub invariant-loop-place : goal.invariant-loop-place
invariant-loop-place g l = from_number g.T.Numbered.by l.number (drop l.place l.items) ≡ from_number g.T.Numbered.by l.number l.items
