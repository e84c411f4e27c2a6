use Rattle.std.proofs.Common.{◌≡◌, map, take}
use Rattle.image_check.proofs.held.held_requests.Given as goal

abbrev pub invariant-loop-one : goal.invariant-loop-one
invariant-loop-one l = l.requests.items ≡ map (λ x. x.request) (take l.one-index l.held)
