use Rattle.std.proofs.Common.{◌≡◌, drop}
use Rattle.model_run.specs.Taking.{request_of}
use Rattle.build_requests.proofs.requests.request_of.Given as goal

abbrev pub invariant-loop-open : goal.invariant-loop-open
invariant-loop-open l = request_of (drop l.open-index l.requests) l.number ≡ request_of l.requests l.number
