use Rattle.std.proofs.Common.{◌≡◌, ◌≤◌, ◌-◌, ℕ, List, length, take, drop, Some}
use Rattle.journal_core.specs.Moments.{OnlyReads}
use Rattle.journal_core.proofs.head.read_exact.Given as goal

abbrev pub invariant-loop-done : goal.invariant-loop-done
invariant-loop-done g l = record {
  within : l.done ≤ length l.buf;
  size : length l.buf ≡ length l.fn.buf;
  quiet : OnlyReads g.D.Disk l.fn.disk l.disk;
  faults : g.D.Disk.faults l.disk ≡ g.D.Disk.faults l.fn.disk;
  filled : (file : List ℕ) → g.D.Disk.reads l.fn.disk ≡ Some file → take l.done l.buf ≡ take l.done (drop l.at file);
}

abbrev pub decreases-loop-done : goal.decreases-loop-done
decreases-loop-done g l = length l.buf - l.done
