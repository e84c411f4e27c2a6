use Rattle.std.proofs.Common.{◌≡◌, drop}
use Rattle.locked_build.specs.Claims.{first_free}
use Rattle.locked_build.proofs.claims.first_free.Given as goal

abbrev pub invariant-loop-request : goal.invariant-loop-request
invariant-loop-request l = first_free l.history.items l.executor l.requests ≡ first_free l.history.items l.executor (drop l.request-index l.requests)
