use Rattle.std.proofs.Common.{◌≡◌, ◌<◌, ◌++◌, ◌+◌, ◌-◌, ◌^◌, List, length, None, true, false}
use Rattle.durable_build.specs.Lower.build_core.Phases.{has_begun}
use Rattle.durable_build.specs.Standing.{Kept}
use Rattle.locked_build.specs.declared.ask.Entry.{Entry}
use Rattle.locked_build.specs.Histories.{kept_fault}
use Rattle.locked_build.specs.Facts.{Facts}
use Rattle.locked_build.specs.Grants.{Grants}
use Rattle.locked_build.proofs.taking.grant_all.Given as goal

abbrev pub invariant-loop : goal.invariant-loop
invariant-loop g l = record {
  running : l.durable.stopped ≡ false;
  begun : has_begun l.durable.build.phase ≡ true;
  none : kept_fault l.history.items ≡ None;
  room : length l.history.items < l.history.capacity;
  onward : (es : List Entry) × (l.history.items ≡ l.fn.history.items ++ es)
      × ((more : List Entry) → Grants g.R.ScriptThread.stance l.durable.build more → Grants g.R.ScriptThread.stance l.fn.durable.build (es ++ more));
  facts : (opening : Kept g.row.D.Denot g.row.R.Denot) → Facts g.D.Disk g.R.ScriptThread.stance opening l.fn.durable l.fn.history.items
      → Facts g.D.Disk g.R.ScriptThread.stance opening l.durable l.history.items;
}

abbrev pub decreases-loop : goal.decreases-loop
decreases-loop g l = 2 ^ 30 + 1 - l.durable.journal.len
