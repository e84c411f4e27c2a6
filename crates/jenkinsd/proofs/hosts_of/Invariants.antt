use Rattle.std.proofs.Common.{◌≡◌, ◌≤◌, length}
use Rattle.jenkinsd.proofs.hosts_of.Given as goal

-- Each turn gives one host.
abbrev pub invariant-loop : goal.invariant-loop
invariant-loop g l = (length l.hosts.items ≡ l.counter) × (l.counter ≤ 64)
