use Rattle.std.proofs.Common.{◌≡◌, length}
use Rattle.std.specs.Vec.Iter.{into_iter_items, into_iter_len}
use Rattle.green_threads.proofs.Forking.{Forking}
use Rattle.green_threads.proofs.group.Group.fork.Given as goal

abbrev pub invariant-loop-branch : goal.invariant-loop-branch
invariant-loop-branch g l =
    Forking g.R.Runner.number g.R.Runner.parent g.R.Runner.branch g.R.Runner.seated l.parent l.fn.self.seats l.fn.self.next l.fn.branches l.self-inside.seats.items l.self-inside.next (into_iter_items l.branch-iterator) l.joins
    × (length (into_iter_items l.branch-iterator) ≡ into_iter_len l.branch-iterator)
