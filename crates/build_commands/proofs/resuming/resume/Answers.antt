use Rattle.std.proofs.Common.{◌∙◌, ℕ, List, refl, sym, ap, subst}
use Rattle.build_life.specs.Lower.build_core.Builds.{setting_in}
use Rattle.jp_disk.specs.Runs.{AtEachMoment}
use Rattle.build_life.specs.Lower.durable_build.Opening.{OpenFails}
use Rattle.build_life.specs.Lower.durable_build.Standing.{Keeps, Kept}
use Rattle.build_life.specs.Lower.build_store.Lives.{Stands}
use Rattle.build_life.proofs.Lower.build_store.LifeLemmas.{lasts_here}
use Rattle.build_commands.specs.Reporting.{Reports}
use Rattle.build_commands.specs.Resuming.{Reopens, Resumes, goes_on, refused, unopened, went_on}
use Rattle.build_commands.specs.Showing.{HasBuild}
use Rattle.build_commands.proofs.ResumeLemmas.{is_consistent, not_opened}
use Rattle.build_commands.proofs.ShowLemmas as show
use Rattle.build_commands.proofs.ShowLemmas.{if_told}
use Rattle.build_commands.proofs.StoreLemmas.{has_build, starts_by}
use Rattle.build_commands.proofs.resuming.resume.Goals as goal

pub returns-in-Ok-clause-reopens : goal.returns-in-Ok-clause-reopens
returns-in-Ok-clause-reopens g c =
    let D = g.D.Disk in
    let A = g.A.Source in
    let K = g.K.Sink in
    let stance = g.R.ScriptThread.stance in
    let kept = c.in-Ok.durable in
    goes_on (setting_in kept.build) c.finish.ensures.led c.finish.ensures.stay c.finish.ensures.launched
    (if_told (D.reads c.args.disk) HasBuild (λ file at. has_build D stance file kept (c.in-Ok.ensures.opened file at) c.in-Ok.ensures.whole))
    (λ file at.
    let o = c.in-Ok.ensures.opened file at in
    record {
      payloads = o.payloads;
      has = o.has;
      begun = starts_by stance kept.build kept.script kept.agents o.payloads o.some o.keeps.stands;
      opened = kept.journal.disk;
      up_to = c.in-Ok.ensures.any_moment;
      keeps = c.finish.ensures.last refl o.payloads o.keeps;
    })
    (subst (λ (n : ℕ). Reports n (D.faults c.finish.result.disk) (A.faults c.args.answers) (A.faults c.finish.result.answers) (K.written c.args.out.now) (K.written c.finish.new.out) (K.faults c.args.out.now) (K.faults c.finish.new.out) c.finish.result.status)
    (c.in-Ok.ensures.cause.calm (λ e. e)) c.finish.ensures.reports)

pub returns-in-Ok-clause-resumes : goal.returns-in-Ok-clause-resumes
returns-in-Ok-clause-resumes g c = λ file told setting events stores.
    let D = g.D.Disk in
    let A = g.A.Source in
    let K = g.K.Sink in
    let stance = g.R.ScriptThread.stance in
    let kept = c.in-Ok.durable in
    let opened = kept.journal.disk in
    let stands = (c.in-Ok.ensures.stands file told).1 setting events stores in
    went_on opened c.in-Ok.ensures.any_moment
    (c.in-Ok.ensures.cause.calm (λ e. e))
    (subst (λ (n : ℕ). Reports n (D.faults c.finish.result.disk) (A.faults c.args.answers) (A.faults c.finish.result.answers) (K.written c.args.out.now) (K.written c.finish.new.out) (K.faults c.args.out.now) (K.faults c.finish.new.out) c.finish.result.status)
    (c.in-Ok.ensures.cause.calm (λ e. e)) c.finish.ensures.reports)
    (c.finish.ensures.finishes setting (D.reads c.args.disk) opened events (lasts_here D stance (let met = g.met.D.Disk g.world.𝓛 g.world.𝓜 g.world.𝓡 ((λ s x. x), (λ x. x), (λ x. x), λ x. x) in record { told_end = met.told_end; told_image = met.told_image; counts_now = met.counts_now; only_now = met.only_now }) setting (D.reads c.args.disk) events kept stands.goes (λ known. stands.saves)) tt)

pub returns-in-Err-clause-reopens : goal.returns-in-Err-clause-reopens
returns-in-Err-clause-reopens g c =
    let D = g.D.Disk in
    let A = g.A.Source in
    let H = g.H.Host in
    let K = g.K.Sink in
    subst (λ (n : ℕ). Reopens D H A c.args.hosts.items c.args.hosts.items c.args.answers c.args.answers c.new.result.items
    c.args.disk c.in-Err.disk (K.written c.args.out.now) (K.written c.tell-status.new.out) (K.faults c.args.out.now) (K.faults c.tell-status.new.out) n) (sym c.tell-status.ensures.status)
    (unopened (refl, refl, c.new.ensures.items) (record { same = λ file at. (c.in-Err.ensures.stands file at).1; moments = c.in-Err.ensures.any_moment })
    (show.not_opened (D.reads c.args.disk) (D.faults c.args.disk) (D.faults c.in-Err.disk) c.in-Err.fault c.of_store.result c.of_store.ensures
    (if_told (D.reads c.args.disk) (λ file. OpenFails file c.in-Err.fault) (λ file at. (c.in-Err.ensures.stands file at).0)) c.in-Err.ensures.cause.calm c.in-Err.ensures.cause.failed)
    c.tell-status.ensures.text)

pub returns-in-Err-clause-resumes : goal.returns-in-Err-clause-resumes
returns-in-Err-clause-resumes g c = λ file told setting events stores.
    let D = g.D.Disk in
    let A = g.A.Source in
    let H = g.H.Host in
    let K = g.K.Sink in
    let fails = (c.in-Err.ensures.stands file told).0 in
    subst (λ (n : ℕ). Resumes D H A c.args.hosts.items c.args.hosts.items c.args.answers c.args.answers c.new.result.items
    setting events c.args.disk c.in-Err.disk (K.written c.args.out.now) (K.written c.tell-status.new.out) (K.faults c.args.out.now) (K.faults c.tell-status.new.out) n) (sym c.tell-status.ensures.status)
    (refused (refl, refl, c.new.ensures.items) (record { same = λ other at. (c.in-Err.ensures.stands other at).1; moments = c.in-Err.ensures.any_moment })
    (not_opened setting events file (D.faults c.args.disk) (D.faults c.in-Err.disk) c.in-Err.fault c.of_store.result c.of_store.ensures fails stores (c.in-Err.ensures.undamaged file told (is_consistent setting events file stores)) c.in-Err.ensures.cause.failed)
    c.tell-status.ensures.text)
