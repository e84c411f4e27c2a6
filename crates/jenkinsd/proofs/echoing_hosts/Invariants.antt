use Rattle.std.proofs.Common.{◌≡◌, ◌≤◌, length}
use Rattle.jenkinsd.proofs.echoing_hosts.Given as goal

-- Each turn gives one host.
abbrev pub invariant-loop : goal.invariant-loop
invariant-loop l = (length l.hosts.items ≡ l.counter) × (l.counter ≤ 64)
