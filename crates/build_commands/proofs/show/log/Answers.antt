use Rattle.std.proofs.Common.{ap, sym, ◌∙◌, subst, List, ℕ}
use Rattle.build_life.specs.Lower.build_core.Builds.{Parts, StandsFor}
use Rattle.model_run.specs.World.{Build}
use Rattle.build_life.specs.Lower.durable_build.Opening.{OpenFails}
use Rattle.image_form.specs.declared.image.Image.{Image}
use Rattle.build_commands.specs.Showing.{ShowsBuild}
use Rattle.build_commands.specs.Writing.{Writes}
use Rattle.build_commands.proofs.StoreLemmas.{last_is, shows_build}
use Rattle.build_commands.proofs.ShowLemmas.{causes_of, if_told, not_shown, shows_fault, shows_text}
use Rattle.build_commands.proofs.show.log.Goals as goal

pub returns-in-Ok-clause-shows : goal.returns-in-Ok-clause-shows
returns-in-Ok-clause-shows g c =
    let D = g.D.Disk in
    let K = g.K.Sink in
    let stance = g.R.ScriptThread.stance in
    shows_text (λ (w : Build). w.shared.log) (D.reads c.args.disk) (D.faults c.args.disk) (D.faults c.close.result) (K.written c.args.out.now) (K.written c.tell_text-status.new.out) (K.faults c.args.out.now) (K.faults c.tell_text-status.new.out)
    c.log.result.now c.tell_text-status.result (ap D.faults c.close.ensures ∙ c.in-Ok.ensures.cause.calm (λ e. e))
    (if_told (D.reads c.args.disk) (λ (file : List ℕ). ShowsBuild (λ (w : Build). w.shared.log) file c.log.result.now) (λ file at. shows_build D stance file c.in-Ok.durable (c.in-Ok.ensures.opened file at).0 (λ (w : Build). w.shared.log) c.log.result.now c.in-Ok.ensures.whole
    (λ w s. c.log.ensures.world w (subst (λ (b : Parts g.row.R.Denot). StandsFor stance b w) (sym c.build.ensures.is) s)))) c.tell_text-status.ensures

pub returns-in-Ok-clause-causes : goal.returns-in-Ok-clause-causes
returns-in-Ok-clause-causes g c = causes_of (returns-in-Ok-clause-shows g c)

pub returns-in-Ok-clause-store : goal.returns-in-Ok-clause-store
returns-in-Ok-clause-store g c = λ file at. ap g.D.Disk.reads c.close.ensures ∙ (c.in-Ok.ensures.opened file at).1

pub returns-in-Err-clause-shows : goal.returns-in-Err-clause-shows
returns-in-Err-clause-shows g c =
    let D = g.D.Disk in
    let K = g.K.Sink in
    let stance = g.R.ScriptThread.stance in
    shows_fault (λ (w : Build). w.shared.log) (D.reads c.args.disk) (D.faults c.args.disk) (D.faults c.in-Err.disk) (K.written c.args.out.now) (K.written c.tell-status.new.out) (K.faults c.args.out.now) (K.faults c.tell-status.new.out)
    c.in-Err.fault c.of_store.result c.tell-status.result c.of_store.ensures (if_told (D.reads c.args.disk) (λ file. OpenFails file c.in-Err.fault) (λ file at. (c.in-Err.ensures.opened file at).0))
    c.in-Err.ensures.cause.calm c.in-Err.ensures.cause.failed c.tell-status.ensures.status c.tell-status.ensures.text

pub returns-in-Err-clause-causes : goal.returns-in-Err-clause-causes
returns-in-Err-clause-causes g c = causes_of (returns-in-Err-clause-shows g c)

pub returns-in-Ok-clause-last : goal.returns-in-Ok-clause-last
returns-in-Ok-clause-last g c = λ file at p ps image has closing so.
    let D = g.D.Disk in
    let K = g.K.Sink in
    let is = last_is D g.R.ScriptThread.stance file c.in-Ok.durable (c.in-Ok.ensures.opened file at).0 p ps image has closing in
    subst (λ (text : List ℕ). Writes (K.written c.args.out.now) (K.written c.tell_text-status.new.out) (K.faults c.args.out.now) (K.faults c.tell_text-status.new.out) text 0 c.tell_text-status.result)
    (c.log.ensures.here ∙ ap (λ (b : Parts g.row.R.Denot). b.shared.log) c.build.ensures.is ∙ ap (λ (i : Image). i.log) is) c.tell_text-status.ensures

pub returns-in-Err-clause-last : goal.returns-in-Err-clause-last
returns-in-Err-clause-last g c = λ file at p ps image has closing so. absurd (not_shown c.of_store.result c.tell-status.result c.tell-status.ensures.status so)
