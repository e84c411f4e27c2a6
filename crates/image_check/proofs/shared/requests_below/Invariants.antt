use Rattle.std.proofs.Common.{◌≡◌, drop}
use Rattle.image_check.specs.Shared.{all_below}
use Rattle.image_check.proofs.shared.requests_below.Given as goal

abbrev pub invariant-loop-request : goal.invariant-loop-request
invariant-loop-request l = all_below (λ x. x.number) l.next (drop l.request-index l.requests) ≡ all_below (λ x. x.number) l.next l.requests
