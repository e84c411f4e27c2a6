use Rattle.std.proofs.Common.{◌<◌, ◌+◌}
use Rattle.std.specs.List.{All}
use Rattle.journal_core.specs.declared.record.Record.{Record}
use Rattle.device_trials.proofs.journals.first_unread.Given as goal

abbrev pub invariant-loop-k : goal.invariant-loop-k
invariant-loop-k g l = All (λ (entry : Record). entry.at + 5 + entry.len < l.journal.len) l.entries.items
