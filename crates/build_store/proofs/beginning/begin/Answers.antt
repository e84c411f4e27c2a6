use Rattle.std.proofs.Common.{◌≡◌, ◌∙◌, inl, sym, ap, subst, []}
use Rattle.jp_disk.proofs.MomentLemmas.{starts}
use Rattle.journal_core.specs.Answers.{CreateRefuses}
use Rattle.journal_core.specs.declared.faults.CreateFault.{CreateFault}
use Rattle.durable_build.specs.Lower.build_core.Builds.{Parts, StandsFor, setting_in}
use Rattle.model_run.specs.declared.event.Event.TheVariants.{Start as StartEvent}
use Rattle.model_run.specs.World.{unbegun}
use Rattle.durable_build.specs.Settings.{script_setting}
use Rattle.build_store.specs.Lives.{StartFails}
use Rattle.build_store.proofs.BeginLemmas.{begins_taken, is_begun, start_fails, start_faults, start_refused, since_started, since_either}
use Rattle.build_store.proofs.beginning.begin.Goals as goal

pub returns-in_default-clause-begun : goal.returns-in_default-clause-begun
returns-in_default-clause-begun g c = λ file told.
    let D = g.D.Disk in
    (tt, inl (starts D c.args.disk (D.may_leave c.args.disk) (g.met.D.Disk.only_now c.args.disk)))

pub returns-in-Err-HasRecord-default-clause-begun : goal.returns-in-Err-HasRecord-default-clause-begun
returns-in-Err-HasRecord-default-clause-begun g c = λ file told.
    let D = g.D.Disk in
    let e = c.in-Err-HasRecord-default in
    let refused = subst (λ (f : CreateFault). CreateRefuses D file e.disk f) e.field-0-0-is (e.ensures.created file told) in
    (refused.0, refused.1, refused.2, since_started e.field-0-0 e.field-0-0-is (e.ensures.any_moment file told))

pub returns-in-Err-Disk-default-clause-begun : goal.returns-in-Err-Disk-default-clause-begun
returns-in-Err-Disk-default-clause-begun g c = λ file told. (tt, since_either (c.in-Err-Disk-default.ensures.any_moment file told))

pub returns-in-Ok-take-clause-begun : goal.returns-in-Ok-take-clause-begun
returns-in-Ok-take-clause-begun g c = λ file told.
    let D = g.D.Disk in
    let setting = script_setting c.args.tree c.args.site in
    let fresh = c.in-Ok-create.durable in
    let made = c.in-Ok-create.ensures.created file told in
    let is = c.in-Ok-create.ensures.fresh in
    let same : setting_in fresh.build ≡ setting = ap (λ (b : Parts g.row.R.Denot). setting_in b) is.0 ∙ c.in-Ok.ensures.setting in
    let stands = subst (λ (b : Parts g.row.R.Denot). StandsFor g.R.ScriptThread.stance b unbegun) (sym is.0) c.in-Ok.ensures.stands in
    begins_taken D g.R.ScriptThread.stance setting c.args.script c.args.agents file c.args.disk fresh c.take.new.self c.requires.mean same stands made.0 made.1 made.2 (c.in-Ok-create.ensures.any_moment file told)
    c.in-Ok-take.field-0 c.in-Ok-take.ensures.answers.1 c.in-Ok-take.ensures.setting c.in-Ok-take.ensures.leaves c.in-Ok-take.ensures.stands (c.in-Ok-take.ensures.keeps [] made.2)

pub returns-clause-begun : goal.returns-clause-begun
returns-clause-begun g c = λ file told.
    let D = g.D.Disk in
    let setting = script_setting c.args.tree c.args.site in
    let fresh = c.in-Ok-create.durable in
    let made = c.in-Ok-create.ensures.created file told in
    let is = c.in-Ok-create.ensures.fresh in
    let same : setting_in fresh.build ≡ setting = ap (λ (b : Parts g.row.R.Denot). setting_in b) is.0 ∙ c.in-Ok.ensures.setting in
    let stands = subst (λ (b : Parts g.row.R.Denot). StandsFor g.R.ScriptThread.stance b unbegun) (sym is.0) c.in-Ok.ensures.stands in
    let first = StartEvent c.args.script c.args.agents in
    start_refused D g.R.ScriptThread.stance setting first file c.args.disk _ c.in-Err.fault
    (start_faults g.R.ScriptThread.stance setting fresh c.take.new.self first c.in-Err.fault same stands is.1 is.2 c.in-Ok-create.ensures.counts.0 c.in-Err.ensures.answers c.in-Err.ensures.size)
    (subst (λ (d : g.row.D.Denot). StartFails D g.R.ScriptThread.stance setting first file c.args.disk d c.in-Err.fault) (sym c.close.ensures)
    (start_fails D g.R.ScriptThread.stance setting c.args.script c.args.agents file c.args.disk fresh c.take.new.self c.requires.mean same stands made.0 made.1 made.2 (c.in-Ok-create.ensures.any_moment file told)
    c.in-Err.fault is.1 c.in-Err.ensures.answers c.in-Err.ensures.leaves (c.in-Err.ensures.keeps [] made.2)))

pub returns-in-Ok-take-clause-made : goal.returns-in-Ok-take-clause-made
returns-in-Ok-take-clause-made g c =
    let stance = g.R.ScriptThread.stance in
    let fresh = c.in-Ok-create.durable in
    let is = c.in-Ok-create.ensures.fresh in
    let same : setting_in fresh.build ≡ script_setting c.args.tree c.args.site = ap (λ (b : Parts g.row.R.Denot). setting_in b) is.0 ∙ c.in-Ok.ensures.setting in
    let stands = subst (λ (b : Parts g.row.R.Denot). StandsFor stance b unbegun) (sym is.0) c.in-Ok.ensures.stands in
    is_begun stance (script_setting c.args.tree c.args.site) c.args.script c.args.agents fresh c.take.new.self c.requires.mean same stands c.in-Ok-create.ensures.counts.1 c.in-Ok-take.field-0 c.in-Ok-take.ensures.answers.1 c.in-Ok-take.ensures.setting
    c.in-Ok-take.ensures.leaves c.in-Ok-take.ensures.sources c.in-Ok-take.ensures.stands

pub returns-clause-faults : goal.returns-clause-faults
returns-clause-faults g c =
    let stance = g.R.ScriptThread.stance in
    let fresh = c.in-Ok-create.durable in
    let is = c.in-Ok-create.ensures.fresh in
    let same : setting_in fresh.build ≡ script_setting c.args.tree c.args.site = ap (λ (b : Parts g.row.R.Denot). setting_in b) is.0 ∙ c.in-Ok.ensures.setting in
    let stands = subst (λ (b : Parts g.row.R.Denot). StandsFor stance b unbegun) (sym is.0) c.in-Ok.ensures.stands in
    start_faults stance (script_setting c.args.tree c.args.site) fresh c.take.new.self (StartEvent c.args.script c.args.agents) c.in-Err.fault same stands is.1 is.2 c.in-Ok-create.ensures.counts.0 c.in-Err.ensures.answers c.in-Err.ensures.size
