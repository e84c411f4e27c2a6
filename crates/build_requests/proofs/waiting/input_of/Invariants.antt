use Rattle.std.proofs.Common.{◌≡◌, drop}
use Rattle.build_requests.specs.Waiting.{input_of}
use Rattle.build_requests.proofs.waiting.input_of.Given as goal

abbrev pub invariant-loop-open : goal.invariant-loop-open
invariant-loop-open l = input_of l.id (drop l.open-index l.requests) ≡ input_of l.id l.requests
