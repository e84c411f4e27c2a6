use Rattle.std.proofs.Common.{◌≡◌, ◌≤◌, ◌+◌, drop}
use Rattle.build_requests.specs.Waiting.{open_tasks}
use Rattle.build_requests.proofs.waiting.open_tasks.Given as goal

abbrev pub invariant-loop-open : goal.invariant-loop-open
invariant-loop-open l = (l.tasks + open_tasks (drop l.open-index l.requests) ≡ open_tasks l.requests) × (l.tasks ≤ l.open-index)
