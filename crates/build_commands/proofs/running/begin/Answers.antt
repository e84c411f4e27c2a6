use Rattle.std.proofs.Common.{◌∙◌, [], ◌∷◌, ℕ, refl, sym, ap, subst}
use Rattle.std.specs.Prelude.{IsSome}
use Rattle.build_life.specs.Lower.durable_build.Standing.{Kept}
use Rattle.model_run.specs.declared.event.Event.TheVariants.{Start as StartEvent}
use Rattle.build_life.specs.Lower.durable_build.Settings.{script_setting}
use Rattle.build_life.specs.Lower.build_store.Lives.{Goes}
use Rattle.build_life.specs.Lower.build_store.Saved.{Saves}
use Rattle.build_life.proofs.Lower.build_store.LifeLemmas.{lasts_here}
use Rattle.build_commands.specs.Beginning.{Begins, BeginsOver, begun, unbegun}
use Rattle.build_commands.specs.Reporting.{Reports}
use Rattle.build_commands.proofs.BeginLemmas.{begin_says, counts_first, known_file, meant}
use Rattle.build_commands.proofs.running.begin.Goals as goal

pub begin-requires : goal.begin-requires
begin-requires g c = record { mean = meant c.args.plan.script c.args.plan.agents c.args.plan.tree c.args.plan.site c.requires.builds }

pub returns-in-Ok : goal.returns-in-Ok
returns-in-Ok g c =
    let D = g.D.Disk in
    let A = g.A.Source in
    let H = g.H.Host in
    let K = g.K.Sink in
    let stance = g.R.ScriptThread.stance in
    let plan = c.args.plan in
    let setting = script_setting plan.tree plan.site in
    let first = StartEvent plan.script plan.agents ∷ [] in
    let kept = c.in-Ok.durable in
    let started = kept.journal.disk in
    let calm = c.in-Ok.ensures.cause.calm (λ e. e) in
    let entry = D.reads c.args.disk in
    let saves : IsSome entry → Saves D stance kept first =
    λ known. let file = known_file entry known in (c.in-Ok.ensures.begun file.0 file.1).stands.saves in
    let goes = c.in-Ok.ensures.made.goes in
    begun started calm c.finish.ensures.stay c.finish.ensures.launched
    (subst (λ (n : ℕ). Reports n (D.faults c.finish.result.disk) (A.faults c.args.answers) (A.faults c.finish.result.answers) (K.written c.args.out.now) (K.written c.finish.new.out) (K.faults c.args.out.now) (K.faults c.finish.new.out) c.finish.result.status) calm c.finish.ensures.reports)
    (c.finish.ensures.finishes setting entry started first (lasts_here D stance (let met = g.met.D.Disk g.world.𝓛 g.world.𝓜 g.world.𝓡 ((λ s x. x), (λ x. x), (λ x. x), λ x. x) in record { told_end = met.told_end; told_image = met.told_image; counts_now = met.counts_now; only_now = met.only_now }) setting entry first kept goes saves)
    (counts_first c.args.kind kept.records (StartEvent plan.script plan.agents) c.in-Ok.ensures.made.counted))
    (λ file told. let made = c.in-Ok.ensures.begun file told in record { fresh = made.fresh; moments = made.moments })

pub returns-in-Err : goal.returns-in-Err
returns-in-Err g c =
    let D = g.D.Disk in
    let A = g.A.Source in
    let H = g.H.Host in
    let K = g.K.Sink in
    let plan = c.args.plan in
    subst (λ (n : ℕ). Begins D g.R.ScriptThread.stance H A c.args.disk c.in-Err.disk
    c.args.hosts.items c.args.hosts.items c.args.answers c.args.answers c.new.result.items c.args.kind (K.written c.args.out.now) (K.written c.tell-status.new.out) (K.faults c.args.out.now) (K.faults c.tell-status.new.out) plan.script plan.agents plan.tree plan.site n) (sym c.tell-status.ensures.status)
    (unbegun (refl, refl, c.new.ensures.items) (begin_says c.in-Err.fault c.of_begin.result c.of_begin.ensures) c.in-Err.ensures.cause c.in-Err.ensures.faults c.in-Err.ensures.begun c.tell-status.ensures.text)
