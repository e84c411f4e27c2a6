use Rattle.std.proofs.Common.{◌+◌, ◌≤◌}
use Rattle.green_threads.specs.Grouping.{Grouped}
use Rattle.green_threads.specs.Order.{turns_left}
use Rattle.green_threads.specs.Turns.{rules}
use Rattle.green_threads.proofs.Order.{Onward}
use Rattle.green_threads.proofs.group.Group.settle.Given as goal

abbrev pub invariant-loop-place : goal.invariant-loop-place
invariant-loop-place g l = record {
  grouped : Grouped g.R.Runner.number g.R.Runner.parent g.R.Runner.branch 0 l.self.seats l.self.next;
  fitting : g.R.Runner.fits l.self.seats l.shared;
  bounded : l.self.next + g.R.Runner.room l.shared ≤ l.fn.self.next + g.R.Runner.room l.fn.shared;
  onward : Onward (rules g.R.Runner.number g.R.Runner.parent g.R.Runner.branch g.R.Runner.head g.R.Runner.seated g.R.Runner.room g.R.Runner.fits g.R.Runner.turns) l.fn.self l.fn.shared l.self l.shared;
}

abbrev pub decreases-loop-place : goal.decreases-loop-place
decreases-loop-place g l = turns_left g.R.Runner.room l.self l.shared
