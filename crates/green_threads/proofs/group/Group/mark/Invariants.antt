use Rattle.std.proofs.Common.{◌≡◌, ◌++◌}
use Rattle.std.specs.Prelude.{map, take, drop}
use Rattle.green_threads.specs.Threads.{marked_in}
use Rattle.green_threads.proofs.group.Group.mark.Given as goal

abbrev pub invariant-loop-seat : goal.invariant-loop-seat
invariant-loop-seat g l = take l.seat-index l.seat-items ++ map (marked_in g.R.Runner.marked) (drop l.seat-index l.seat-items) ≡ map (marked_in g.R.Runner.marked) l.fn.self.seats
