use Rattle.std.proofs.Common.{◌≡◌, drop}
use Rattle.image_check.specs.Shared.{all_below}
use Rattle.image_check.proofs.shared.held_below.Given as goal

abbrev pub invariant-loop-one : goal.invariant-loop-one
invariant-loop-one l = all_below (λ x. x.request) l.next (drop l.one-index l.held) ≡ all_below (λ x. x.request) l.next l.held
