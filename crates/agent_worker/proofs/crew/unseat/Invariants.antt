use Rattle.std.proofs.Common.{◌≡◌, ◌≤◌, ◌+◌, ◌++◌, reverse, vec_len, vec_capacity}
use Rattle.agent_worker.specs.Crews.{hosts_in}
use Rattle.agent_worker.proofs.crew.unseat.Given as goal

abbrev pub invariant-loop-member : goal.invariant-loop-member
invariant-loop-member g l = record {
  hosts : l.hosts.items ++ reverse (hosts_in l.members.items) ≡ l.fn.hosts.items ++ reverse (hosts_in l.fn.members.items);
  room : vec_len l.hosts + vec_len l.members ≤ vec_capacity l.hosts;
}

abbrev pub decreases-loop-member : goal.decreases-loop-member
decreases-loop-member g l = vec_len l.members
