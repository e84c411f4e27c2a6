use Rattle.std.proofs.Common.{◌≡◌, ◌≤◌, length}
use Rattle.jenkinsd.proofs.tests.threads.meeting_hosts.Given as goal

-- Each turn gives one host.
abbrev pub invariant-loop-i : goal.invariant-loop-i
invariant-loop-i g l = (length l.hosts.items ≡ l.i) × (l.i ≤ 64)
