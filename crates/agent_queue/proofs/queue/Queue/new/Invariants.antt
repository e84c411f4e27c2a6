use Rattle.std.proofs.Common.{take, []}
use Rattle.std.specs.List.{AllZip}
use Rattle.agent_queue.specs.Standing.{IsSeat}
use Rattle.agent_queue.proofs.queue.Queue.new.Given as goal

abbrev pub invariant-loop-executor : goal.invariant-loop-executor
invariant-loop-executor l = AllZip (IsSeat []) (take l.executor-index l.executor-items) l.seats.items
