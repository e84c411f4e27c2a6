use Rattle.std.proofs.Common.{◌∙◌, ◌+◌, ◌<◌, arith, refl}
use Rattle.journal_core.specs.declared.record.Record.{Record}
use Rattle.journal_core.proofs.MomentLemmas.{only_reads_start, only_reads_then}
use Rattle.durable_build.proofs.CountLemmas.{still_holds}
use Rattle.durable_build.proofs.ReadLemmas.{all_at, is_last, none_behind_all, none_more}
use Rattle.durable_build.proofs.load.last_whole.Goals as goal

pub loop-k-init : goal.loop-k-init
loop-k-init g c =
    let D = g.D.Disk in
    record {
      within = omega (arith, c.requires.some);
      quiet = only_reads_start D (λ d image left. g.met.D.Disk.only_now d image left) c.args.journal.now.disk;
      len = refl;
      stopped = refl;
      faults = refl;
      changes = λ ps holds are. none_behind_all ps c.args.entries.now are c.requires.some;
    }

pub is_whole_at-requires : goal.is_whole_at-requires
is_whole_at-requires g c =
    let within = all_at (λ (e : Record). e.at + 5 + e.len < c.args.journal.now.len) c.args.entries.now c.loop-k.k c.entry_at-entry.result c.requires.within c.entry_at-entry.ensures in
    omega (arith, within, c.loop-k.invariant.len)

pub returns-then-branch-clause-found : goal.returns-then-branch-clause-found
returns-then-branch-clause-found g c = λ ps holds are.
    let D = g.D.Disk in
    let inv = c.loop-k.invariant in
    let later = still_holds D c.args.journal.now c.loop-k.journal ps inv.quiet inv.len holds in
    is_last ps c.args.entries.now c.loop-k.k c.entry_at-entry.result c.in_ok-is_whole_at.field-0 are c.entry_at-entry.ensures c.if-branch.true (λ p at is. c.in_ok-is_whole_at.ensures.found ps c.loop-k.k p later at is) (inv.changes ps holds are)

pub loop-k-preserved : goal.loop-k-preserved
loop-k-preserved g c =
    let D = g.D.Disk in
    let inv = c.loop-k.invariant in
    let disk = c.args.journal.now.disk in
    record {
      within = omega (arith, inv.within);
      quiet = only_reads_then D disk c.loop-k.journal.disk c.is_whole_at.new.journal.disk inv.quiet c.is_whole_at.ensures.quiet;
      len = c.is_whole_at.ensures.same.0 ∙ inv.len;
      stopped = c.is_whole_at.ensures.same.1 ∙ inv.stopped;
      faults = c.in_ok-is_whole_at.ensures.cause.calm (λ is. cc) ∙ inv.faults;
      changes = λ ps holds are.
          let later = still_holds D c.args.journal.now c.loop-k.journal ps inv.quiet inv.len holds in
          none_more ps c.args.entries.now c.loop-k.k c.entry_at-entry.result c.in_ok-is_whole_at.field-0 are c.entry_at-entry.ensures c.if-branch.false (λ p at is. c.in_ok-is_whole_at.ensures.found ps c.loop-k.k p later at is)
          (inv.changes ps holds are) (omega arith);
    }
