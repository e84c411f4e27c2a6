use Rattle.std.proofs.Common.{◌≡◌, ◌≤◌, ◌<◌, ◌-◌, ◌+◌, ℕ, List, Some}
use Rattle.std.specs.List.{All}
use Rattle.journal_core.specs.declared.record.Record.{Record}
use Rattle.journal_core.specs.Moments.{OnlyReads}
use Rattle.journal_core.specs.Answers.{entries_of, StandInTurn}
use Rattle.journal_core.specs.Finding.{ReadTo}
use Rattle.journal_core.proofs.walk.walk_gates.Given as goal

abbrev pub invariant-loop-head : goal.invariant-loop-head
invariant-loop-head g l = record {
  within : l.at < l.end;
  quiet : OnlyReads g.D.Disk l.fn.disk l.disk;
  each : All (λ (entry : Record). entry.at + 5 + entry.len ≤ l.at) l.entries.items;
  in_turn : StandInTurn 0 l.entries.items (l.at + 1);
  faults : g.D.Disk.faults l.disk ≡ g.D.Disk.faults l.fn.disk;
  read : (file : List ℕ) → g.D.Disk.reads l.fn.disk ≡ Some file → (payloads : List (List ℕ)) × ReadTo file l.at payloads × (l.entries.items ≡ entries_of 0 payloads);
}

abbrev pub decreases-loop-head : goal.decreases-loop-head
decreases-loop-head g l = l.end - l.at
