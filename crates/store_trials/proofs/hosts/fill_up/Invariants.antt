use Rattle.std.proofs.Common.{◌≡◌, ◌≤◌, length}
use Rattle.store_trials.proofs.hosts.fill_up.Given as goal

-- The count goes on at the number of the hosts.
abbrev pub invariant-loop : goal.invariant-loop
invariant-loop l = (length l.hosts.items ≡ l.counter) × (l.counter ≤ 64)
