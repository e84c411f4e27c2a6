use Rattle.std.proofs.Common.{◌≡◌, ◌≤◌, ◌+◌, drop}
use Rattle.build_requests.specs.Waiting.{waiting_inputs}
use Rattle.build_requests.proofs.waiting.waiting_inputs.Given as goal

abbrev pub invariant-loop-open : goal.invariant-loop-open
invariant-loop-open l = (l.inputs + waiting_inputs (drop l.open-index l.requests) ≡ waiting_inputs l.requests) × (l.inputs ≤ l.open-index)
