use Rattle.std.proofs.Common.{◌∙◌, length, ap, subst, sym, arith}
use Rattle.jp_disk.proofs.MomentLemmas.{at_each_weaker, runs_on}
use Rattle.journal_core.proofs.FindingLemmas.{length-entries}
use Rattle.durable_build.specs.Opening.{OpenFails}
use Rattle.durable_build.proofs.CountLemmas.{few_entries, still_holds}
use Rattle.durable_build.proofs.LoadLemmas.{open_fails}
use Rattle.durable_build.proofs.OpenLemmas.{opened_stories}
use Rattle.durable_build.proofs.TakeLemmas.{begins_behind}
use Rattle.durable_build.proofs.Undamaged.{never_damaged}
use Rattle.durable_build.proofs.durable.DurableBuild.open.Goals as goal

pub returns-in-Ok-load-clause-opened : goal.returns-in-Ok-load-clause-opened
returns-in-Ok-load-clause-opened g c = λ file told.
    let D = g.D.Disk in
    let stance = g.R.ScriptThread.stance in
    let o = c.in-Ok.ensures.found file told in
    let loaded = c.in-Ok-load.loaded in
    let found = c.in-Ok-load.ensures.found o.payloads o.holds (c.deref.ensures.value ∙ o.entries_are) in (
      record {
        payloads = o.payloads;
        some = o.some;
        has = o.has;
        keeps = record {
          holds = still_holds D c.in-Ok.journal c.load.new.journal o.payloads c.in-Ok-load.ensures.quiet c.in-Ok-load.ensures.same.0 o.holds;
          weighs = found.1;
          counted = c.len.ensures ∙ sym c.deref.ensures.len ∙ ap length (c.deref.ensures.value ∙ o.entries_are) ∙ length-entries 0 o.payloads;
          stands = found.0;
          story = opened_stories stance loaded.build c.in-Ok-load.ensures.stands loaded.script loaded.agents o.payloads o.some found.0;
        };
      },
      c.in-Ok-load.ensures.quiet.told ∙ c.in-Ok.ensures.told file told,
    )

pub returns-in-Ok-load-clause-any_moment : goal.returns-in-Ok-load-clause-any_moment
returns-in-Ok-load-clause-any_moment g c =
    let D = g.D.Disk in
    let first = c.in-Ok.ensures.any_moment in
    let mid = c.in-Ok.journal.disk in
    let new = c.load.new.journal.disk in
    runs_on D c.args.disk mid new (D.may_leave c.args.disk) first
    (at_each_weaker D mid new (D.may_leave mid) (D.may_leave c.args.disk)
    (λ image left. first.each image (g.met.D.Disk.counts_now mid (D.clock c.args.disk) image first.later left)) c.in-Ok-load.ensures.quiet.moments)

pub returns-in-Ok-clause-opened : goal.returns-in-Ok-clause-opened
returns-in-Ok-clause-opened g c = λ file told.
    let D = g.D.Disk in
    let o = c.in-Ok.ensures.found file told in (
      open_fails g.R.ScriptThread.stance file o.payloads c.in-Err.fault o.has (c.in-Err.ensures.found o.payloads o.holds (c.deref.ensures.value ∙ o.entries_are)),
      ap D.reads c.close.ensures ∙ c.in-Err.ensures.quiet.told ∙ c.in-Ok.ensures.told file told,
    )

pub returns-in-Ok-clause-undamaged : goal.returns-in-Ok-clause-undamaged
returns-in-Ok-clause-undamaged g c = λ file told store at is.
    let o = c.in-Ok.ensures.found file told in
    never_damaged file store at
    (subst (OpenFails file) is (open_fails g.R.ScriptThread.stance file o.payloads c.in-Err.fault o.has (c.in-Err.ensures.found o.payloads o.holds (c.deref.ensures.value ∙ o.entries_are))))

pub invariant_of-result : goal.invariant_of-result
invariant_of-result g c = (
  λ stopped. sym c.in-Ok.ensures.running ∙ sym c.in-Ok-load.ensures.same.1 ∙ stopped,
  λ running. (c.in-Ok-load.ensures.kept, begins_behind g.R.ScriptThread.stance c.in-Ok-load.loaded.build c.in-Ok-load.loaded.last.image c.in-Ok-load.loaded.last.weights c.in-Ok-load.ensures.begun c.in-Ok-load.ensures.kept),
  omega (arith, c.in-Ok-load.ensures.same.0, c.len.ensures, c.deref.ensures.len, ap length c.deref.ensures.value, few_entries 0 _ _ c.in-Ok.ensures.in_turn),
)
