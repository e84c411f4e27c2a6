use Rattle.std.proofs.Common.{◌≡◌}
use Rattle.std.specs.Prelude.{drop}
use Rattle.green_threads.specs.Places.{ready_place}
use Rattle.green_threads.proofs.Places.{move}
use Rattle.green_threads.proofs.group.Group.first_ready.Given as goal

abbrev pub invariant-loop-place : goal.invariant-loop-place
invariant-loop-place g l = ready_place l.self.seats ≡ move l.place (ready_place (drop l.place l.self.seats))
