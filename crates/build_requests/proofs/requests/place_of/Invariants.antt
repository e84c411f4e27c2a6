use Rattle.std.proofs.Common.{◌≡◌}
use Rattle.std.specs.Prelude.{drop}
use Rattle.build_requests.specs.Places.{place_of}
use Rattle.build_requests.proofs.Lists.{move}
use Rattle.build_requests.proofs.requests.place_of.Given as goal

abbrev pub invariant-loop-place : goal.invariant-loop-place
invariant-loop-place l = place_of l.number l.requests ≡ move l.place (place_of l.number (drop l.place l.requests))
