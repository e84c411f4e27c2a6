use Rattle.std.proofs.Common.{◌≡◌}
use Rattle.std.specs.Prelude.{drop}
use Rattle.green_threads.specs.Places.{place_of}
use Rattle.green_threads.proofs.Places.{move}
use Rattle.green_threads.proofs.group.Group.find.Given as goal

abbrev pub invariant-loop-place : goal.invariant-loop-place
invariant-loop-place g l = place_of l.number l.self.seats ≡ move l.place (place_of l.number (drop l.place l.self.seats))
