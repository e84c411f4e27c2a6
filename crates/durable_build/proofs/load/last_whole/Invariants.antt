use Rattle.std.proofs.Common.{◌≡◌, ◌<◌, ℕ, suc, false, List, drop, length}
use Rattle.std.specs.List.{AllByRecursion as AllAre}
use Rattle.journal_core.specs.Answers.{entries_of}
use Rattle.journal_core.specs.Moments.{OnlyReads}
use Rattle.journal_core.specs.State.{Holds}
use Rattle.durable_build.specs.Kinds.{is_whole}
use Rattle.durable_build.proofs.load.last_whole.Given as goal

abbrev pub invariant-loop-k : goal.invariant-loop-k
invariant-loop-k g l = record {
  within : l.k < length l.entries;
  quiet : OnlyReads g.D.Disk l.fn.journal.disk l.journal.disk;
  len : l.journal.len ≡ l.fn.journal.len;
  stopped : l.journal.stopped ≡ l.fn.journal.stopped;
  faults : g.D.Disk.faults l.journal.disk ≡ g.D.Disk.faults l.fn.journal.disk;
  changes : (payloads : List (List ℕ)) → Holds g.D.Disk l.fn.journal payloads → l.entries ≡ entries_of 0 payloads → AllAre (λ (p : List ℕ). is_whole p ≡ false) (drop (suc l.k) payloads);
}

abbrev pub decreases-loop-k : goal.decreases-loop-k
decreases-loop-k g l = l.k
