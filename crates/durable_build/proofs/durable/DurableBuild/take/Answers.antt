use Rattle.std.proofs.Common.{rules, ◌≡◌, ◌∙◌, ◌+◌, true, false, Ok, Err, refl, sym, ap, subst}
use Rattle.model_run.specs.declared.taken.Taken.{Taken}
use Rattle.model_run.specs.declared.taken.Taken.TheVariants.{Accepted}
use Rattle.model_run.specs.Taking.{taken}
use Rattle.model_run.specs.State.{Setting}
use Rattle.model_run.specs.World as W
use Rattle.build_images.specs.Lower.build_core.Builds.{setting_in, standing_of}
use Rattle.build_images.specs.Lower.build_core.Phases.{has_begun}
use Rattle.build_images.specs.Images.{IsWhole, image_in}
use Rattle.durable_build.specs.Standing.{Kept, Keeps}
use Rattle.durable_build.specs.Taking.{Adds, IsSized, LeavesWhole, MayStart, TakeAnswers, TakeKeeps, TakeLeaves, TakeSources}
use Rattle.durable_build.proofs.MarkLemmas.{marks_changes}
use Rattle.durable_build.proofs.TakeLemmas.{added_left, adds, fault_whole, kept_after, puts_of, take_answered, take_failed, take_left, take_sized}
use Rattle.durable_build.proofs.durable.DurableBuild.take.Goals as goal

pub add-requires-clause-marks : goal.add-requires-clause-marks
add-requires-clause-marks g c =
    let i = c.self.inside in
    let running : i.stopped ≡ false = search rules in
    marks_changes g.R.ScriptThread.low g.R.ScriptThread.touched g.R.ScriptThread.stance i.build c.take_event.new.build i.last.image (c.self.invariant.1 running).0 c.in-Ok.ensures.setting c.in-Ok.ensures.marks c.in-Ok.ensures.frames c.in-Ok.ensures.requests

pub returns-in-Err-clause-keeps : goal.returns-in-Err-clause-keeps
returns-in-Err-clause-keeps g c = λ ps keeps.
    let D = g.D.Disk in
    let stance = g.R.ScriptThread.stance in
    let i = c.self.inside in
    let old : Kept g.row.D.Denot g.row.R.Denot = record { journal = i.journal; build = i.build; script = i.script; agents = i.agents; weights = i.last.weights; records = i.records; stopped = i.stopped } in
    let new : Kept g.row.D.Denot g.row.R.Denot = record { journal = c.add.new.journal; build = c.add.new.build; script = i.script; agents = i.agents; weights = c.add.new.last.weights; records = i.records; stopped = true } in
    let e = c.args.event.now in
    let accepted : c.in-Ok.answer ≡ Accepted = search rules in
    let running : i.stopped ≡ false = search rules in
    let here : Keeps D stance old ps = subst (λ (k : Kept g.row.D.Denot g.row.R.Denot). Keeps D stance k ps) (sym c.self.view_is) keeps in
    subst (λ (k : Kept g.row.D.Denot g.row.R.Denot). TakeKeeps D stance k new e ps (Err c.in-Err.fault)) c.self.view_is
    (take_failed D stance old new e running (sym c.in-Ok.ensures.taken ∙ accepted) i.last.image (c.self.invariant.1 running).0 (c.in-Err.ensures.same.setting ∙ c.in-Ok.ensures.setting) (λ w st. c.in-Err.ensures.same.stands (W.after_one (setting_in i.build) w e) (c.in-Ok.ensures.stands w st)) c.in-Err.fault ps
    c.in-Err.ensures.adds here (λ no. (c.in-Err.ensures.image no).world))

pub returns-clause-keeps : goal.returns-clause-keeps
returns-clause-keeps g c = λ ps keeps.
    let D = g.D.Disk in
    let stance = g.R.ScriptThread.stance in
    let i = c.self.inside in
    let old : Kept g.row.D.Denot g.row.R.Denot = record { journal = i.journal; build = i.build; script = i.script; agents = i.agents; weights = i.last.weights; records = i.records; stopped = i.stopped } in
    let new : Kept g.row.D.Denot g.row.R.Denot = record { journal = c.add.new.journal; build = c.add.new.build; script = c.keep_sources.new.script; agents = c.keep_sources.new.agents; weights = c.add.new.last.weights; records = i.records + 1; stopped = i.stopped } in
    let e = c.args.event.now in
    let accepted : c.in-Ok.answer ≡ Accepted = search rules in
    let running : i.stopped ≡ false = search rules in
    let answered : taken (standing_of i.build) e ≡ Accepted = sym c.in-Ok.ensures.taken ∙ accepted in
    let here : Keeps D stance old ps = subst (λ (k : Kept g.row.D.Denot g.row.R.Denot). Keeps D stance k ps) (sym c.self.view_is) keeps in
    let may : MayStart (setting_in i.build) e =
    subst (λ (k : Kept g.row.D.Denot g.row.R.Denot). taken (standing_of k.build) e ≡ Accepted → MayStart (setting_in k.build) e) (sym c.self.view_is) c.requires.may_start answered in
    let put = puts_of D stance old new e running answered i.last.image (c.self.invariant.1 running).0 (Ok c.in_default-add.field-0) ps c.in_default-add.ensures.adds here in
    subst (λ (t : Taken). TakeKeeps D stance c.args.self.now new e ps (Ok t)) (sym accepted)
    (subst (λ (k : Kept g.row.D.Denot g.row.R.Denot). Adds D stance k new e ps) c.self.view_is
    (adds D stance old new e answered (c.in_default-add.ensures.same.setting ∙ c.in-Ok.ensures.setting) (λ w st. c.in_default-add.ensures.same.stands (W.after_one (setting_in i.build) w e) (c.in-Ok.ensures.stands w st)) (c.in_default-add.ensures.image (λ is. cc)).world ps
    c.in-Ok-sources_of.sources here may c.in-Ok-sources_of.ensures (ap has_begun c.in_default-add.ensures.same.phase ∙ c.in-Ok.ensures.begun accepted) c.keep_sources.ensures.0 c.keep_sources.ensures.1 put.0 put.1 put.2 refl))

pub returns-in-Err-clause-size : goal.returns-in-Err-clause-size
returns-in-Err-clause-size g c =
    let D = g.D.Disk in
    let stance = g.R.ScriptThread.stance in
    let i = c.self.inside in
    let old : Kept g.row.D.Denot g.row.R.Denot = record { journal = i.journal; build = i.build; script = i.script; agents = i.agents; weights = i.last.weights; records = i.records; stopped = i.stopped } in
    let new : Kept g.row.D.Denot g.row.R.Denot = record { journal = c.add.new.journal; build = c.add.new.build; script = i.script; agents = i.agents; weights = c.add.new.last.weights; records = i.records; stopped = true } in
    let e = c.args.event.now in
    let accepted : c.in-Ok.answer ≡ Accepted = search rules in
    let running : i.stopped ≡ false = search rules in
    subst (λ (k : Kept g.row.D.Denot g.row.R.Denot). IsSized stance k new e (Err c.in-Err.fault)) c.self.view_is
    (take_sized D stance old new e running (sym c.in-Ok.ensures.taken ∙ accepted) i.last.image (c.self.invariant.1 running).0 (c.in-Err.ensures.same.setting ∙ c.in-Ok.ensures.setting) (λ w st. c.in-Err.ensures.same.stands (W.after_one (setting_in i.build) w e) (c.in-Ok.ensures.stands w st)) c.in-Err.fault (λ no. (c.in-Err.ensures.image no).world))

pub returns-in-Err-clause-answers : goal.returns-in-Err-clause-answers
returns-in-Err-clause-answers g c =
    let D = g.D.Disk in
    let stance = g.R.ScriptThread.stance in
    let i = c.self.inside in
    let old : Kept g.row.D.Denot g.row.R.Denot = record { journal = i.journal; build = i.build; script = i.script; agents = i.agents; weights = i.last.weights; records = i.records; stopped = i.stopped } in
    let new : Kept g.row.D.Denot g.row.R.Denot = record { journal = c.add.new.journal; build = c.add.new.build; script = i.script; agents = i.agents; weights = c.add.new.last.weights; records = i.records; stopped = true } in
    let e = c.args.event.now in
    let accepted : c.in-Ok.answer ≡ Accepted = search rules in
    let running : i.stopped ≡ false = search rules in
    subst (λ (k : Kept g.row.D.Denot g.row.R.Denot). TakeAnswers stance k new e (Err c.in-Err.fault)) c.self.view_is
    (take_answered D stance old new e running (sym c.in-Ok.ensures.taken ∙ accepted) i.last.image (c.self.invariant.1 running).0 c.in-Err.fault c.in-Err.ensures.adds)

pub returns-in-Err-clause-leaves : goal.returns-in-Err-clause-leaves
returns-in-Err-clause-leaves g c =
    let D = g.D.Disk in
    let stance = g.R.ScriptThread.stance in
    let i = c.self.inside in
    let old : Kept g.row.D.Denot g.row.R.Denot = record { journal = i.journal; build = i.build; script = i.script; agents = i.agents; weights = i.last.weights; records = i.records; stopped = i.stopped } in
    let new : Kept g.row.D.Denot g.row.R.Denot = record { journal = c.add.new.journal; build = c.add.new.build; script = i.script; agents = i.agents; weights = c.add.new.last.weights; records = i.records; stopped = true } in
    let e = c.args.event.now in
    let accepted : c.in-Ok.answer ≡ Accepted = search rules in
    let running : i.stopped ≡ false = search rules in
    subst (λ (k : Kept g.row.D.Denot g.row.R.Denot). TakeLeaves stance k new e (Err c.in-Err.fault)) c.self.view_is
    (take_left D stance old new e running (sym c.in-Ok.ensures.taken ∙ accepted) i.last.image (c.self.invariant.1 running).0 c.in-Err.fault refl refl c.in-Err.ensures.adds)

pub returns-clause-leaves : goal.returns-clause-leaves
returns-clause-leaves g c =
    let D = g.D.Disk in
    let stance = g.R.ScriptThread.stance in
    let i = c.self.inside in
    let old : Kept g.row.D.Denot g.row.R.Denot = record { journal = i.journal; build = i.build; script = i.script; agents = i.agents; weights = i.last.weights; records = i.records; stopped = i.stopped } in
    let new : Kept g.row.D.Denot g.row.R.Denot = record { journal = c.add.new.journal; build = c.add.new.build; script = c.keep_sources.new.script; agents = c.keep_sources.new.agents; weights = c.add.new.last.weights; records = i.records + 1; stopped = i.stopped } in
    let e = c.args.event.now in
    let accepted : c.in-Ok.answer ≡ Accepted = search rules in
    let running : i.stopped ≡ false = search rules in
    subst (λ (t : Taken). TakeLeaves stance c.args.self.now new e (Ok t)) (sym accepted)
    (subst (λ (k : Kept g.row.D.Denot g.row.R.Denot). TakeLeaves stance k new e (Ok Accepted)) c.self.view_is
    (added_left D stance old new e running (sym c.in-Ok.ensures.taken ∙ accepted) i.last.image (c.self.invariant.1 running).0 tt running (ap has_begun c.in_default-add.ensures.same.phase ∙ c.in-Ok.ensures.begun accepted) refl c.in_default-add.ensures.adds))

pub returns-clause-sources : goal.returns-clause-sources
returns-clause-sources g c =
    let i = c.self.inside in
    let new : Kept g.row.D.Denot g.row.R.Denot = record { journal = c.add.new.journal; build = c.add.new.build; script = c.keep_sources.new.script; agents = c.keep_sources.new.agents; weights = c.add.new.last.weights; records = i.records + 1; stopped = i.stopped } in
    let e = c.args.event.now in
    let accepted : c.in-Ok.answer ≡ Accepted = search rules in
    let after = kept_after e c.in-Ok-sources_of.sources i.script i.agents c.in-Ok-sources_of.ensures in
    subst (λ (t : Taken). TakeSources c.args.self.now new e (Ok t)) (sym accepted)
    (subst (λ (k : Kept g.row.D.Denot g.row.R.Denot). TakeSources k new e (Ok Accepted)) c.self.view_is (c.keep_sources.ensures.0 ∙ after.0, c.keep_sources.ensures.1 ∙ after.1))

pub returns-in-Err-clause-whole : goal.returns-in-Err-clause-whole
returns-in-Err-clause-whole g c =
    let stance = g.R.ScriptThread.stance in
    let b = c.add.new.build in
    let same = c.in-Err.ensures.same.setting ∙ c.in-Ok.ensures.setting ∙ ap (λ (k : Kept g.row.D.Denot g.row.R.Denot). setting_in k.build) c.self.view_is in
    fault_whole stance (setting_in c.args.self.now.build) b c.in-Err.fault same (λ no. (c.in-Err.ensures.image no).whole)

pub returns-clause-whole : goal.returns-clause-whole
returns-clause-whole g c =
    let stance = g.R.ScriptThread.stance in
    let b = c.add.new.build in
    let setting = setting_in c.args.self.now.build in
    let accepted : c.in-Ok.answer ≡ Accepted = search rules in
    let same = c.in_default-add.ensures.same.setting ∙ c.in-Ok.ensures.setting ∙ ap (λ (k : Kept g.row.D.Denot g.row.R.Denot). setting_in k.build) c.self.view_is in
    subst (λ (t : Taken). LeavesWhole stance setting b (Ok t)) (sym accepted)
    (subst (λ (s : Setting). IsWhole s (image_in stance b)) same (c.in_default-add.ensures.image (λ is. cc)).whole)
