use Rattle.std.proofs.Common.{◌≡◌, ◌+◌}
use Rattle.std.specs.Prelude.{drop}
use Rattle.build_requests.specs.Workspaces.{place_for}
use Rattle.build_requests.proofs.executors.place_for.Given as goal

abbrev pub invariant-loop-place : goal.invariant-loop-place
invariant-loop-place l = place_for l.number l.held ≡ l.place + place_for l.number (drop l.place l.held)
