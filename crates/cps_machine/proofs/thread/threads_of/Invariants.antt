use Rattle.std.proofs.Common.{◌≡◌, ◌++◌, map}
use Rattle.std.specs.Vec.Iter.{into_iter_items}
use Rattle.cps_machine.specs.Threads.{seen, to_begin}
use Rattle.cps_machine.proofs.thread.threads_of.Given as goal

abbrev pub invariant-loop-branch : goal.invariant-loop-branch
invariant-loop-branch l = map seen l.threads ++ map (to_begin l.fn.context) (into_iter_items l.branch-iterator) ≡ map (to_begin l.fn.context) l.fn.branches
