use Rattle.std.proofs.Common.{List, sym, subst, take, ◌+◌, []}
use Rattle.std.specs.List.{AllZip}
use Rattle.agent_queue.specs.declared.seat.Seat.{Seat}
use Rattle.agent_queue.specs.Standing.{IsSeat}
use Rattle.agent_queue.proofs.StandingLaws.{new_next}
use Rattle.agent_queue.proofs.queue.Queue.new.Goals as goal

pub loop-executor-preserved : goal.loop-executor-preserved
loop-executor-preserved c =
    let xs = c.as_slice-executor-items.result.now in
    subst (λ (l : List Seat). AllZip (IsSeat []) (take (c.loop-executor.executor-index + 1) xs) l) (sym c.in_ok-push.ensures.items)
    (new_next xs c.loop-executor.executor-index c.executor-item.result c.loop-executor.seats.items c.in_ok-new.field-0 c.executor-item.is c.loop-executor-test.true c.loop-executor.invariant c.in_ok-new.ensures.number c.in_ok-new.ensures.labels c.in_ok-new.ensures.free)
