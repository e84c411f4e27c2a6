use Rattle.std.proofs.Common.{◌≡◌, ℕ, List, ◌∷◌, ◌++◌, length}
use Rattle.journal_core.specs.Answers.{entries_of}
use Rattle.journal_core.specs.Moments.{OnlyReads}
use Rattle.journal_core.specs.Records.{framed}
use Rattle.journal_core.specs.State.{Holds}
use Rattle.durable_build.specs.Opening.{ReadUp}
use Rattle.durable_build.proofs.load.read_from.Given as goal

abbrev pub invariant-loop-entry : goal.invariant-loop-entry
invariant-loop-entry g l = record {
  quiet : OnlyReads g.D.Disk l.fn.journal.disk l.journal.disk;
  len : l.journal.len ≡ l.fn.journal.len;
  stopped : l.journal.stopped ≡ l.fn.journal.stopped;
  faults : g.D.Disk.faults l.journal.disk ≡ g.D.Disk.faults l.fn.journal.disk;
  up : (front payloads : List (List ℕ)) → Holds g.D.Disk l.fn.journal (front ++ payloads) → l.fn.whole ∷ l.behind ≡ entries_of (length (framed front)) payloads → ReadUp payloads l.entry-index l.read;
}
