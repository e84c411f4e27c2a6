use Rattle.std.proofs.Common.{◌≡◌, ◌<◌, ◌+◌, ◌++◌, drop, length, reverse, vec_len, vec_capacity}
use Rattle.agent_worker.specs.Crews.{others_of, seats_of}
use Rattle.agent_worker.proofs.crew.seat.Given as goal

abbrev pub invariant-loop-executor : goal.invariant-loop-executor
invariant-loop-executor g l = record {
  seated : l.members.items ++ seats_of (drop l.executor-index l.executors) (reverse l.hosts.items) ≡ l.fn.members.items ++ seats_of l.executors (reverse l.fn.hosts.items);
  others : others_of (drop l.executor-index l.executors) (reverse l.hosts.items) ≡ others_of l.executors (reverse l.fn.hosts.items);
  same : vec_len l.members + vec_len l.hosts ≡ vec_len l.fn.members + vec_len l.fn.hosts;
  capacity : vec_capacity l.hosts ≡ vec_capacity l.fn.hosts;
  room : vec_len l.members + length (drop l.executor-index l.executors) < vec_capacity l.members;
}
