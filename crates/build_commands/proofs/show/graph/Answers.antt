use Rattle.std.proofs.Common.{ap, sym, ◌∙◌, subst, List, ℕ}
use Rattle.build_life.specs.Lower.build_core.Builds.{Parts, StandsFor}
use Rattle.model_run.specs.GraphText.{graph_text}
use Rattle.model_run.specs.World.{Build}
use Rattle.build_life.specs.Lower.durable_build.Opening.{OpenFails}
use Rattle.image_form.specs.declared.image.Image.{Image}
use Rattle.build_life.specs.Lower.build_core.Builds.{nodes_of}
use Rattle.build_life.specs.Lower.cps_frames.Standing.{common_of}
use Rattle.build_commands.specs.Showing.{ShowsBuild}
use Rattle.build_commands.specs.Writing.{Writes}
use Rattle.build_commands.proofs.StoreLemmas.{last_is, shown_nodes, shows_build}
use Rattle.build_commands.proofs.ShowLemmas.{causes_of, if_told, not_shown, shown_so, shows_fault, shows_told}
use Rattle.build_commands.proofs.show.graph.Goals as goal

pub returns-in-Ok-clause-shows : goal.returns-in-Ok-clause-shows
returns-in-Ok-clause-shows g c =
    let D = g.D.Disk in
    let K = g.K.Sink in
    let stance = g.R.ScriptThread.stance in
    shows_told (λ (w : Build). graph_text w.shared.nodes) (D.reads c.args.disk) (D.faults c.args.disk) (D.faults c.close.result) (K.written c.args.out.now) (K.written c.tell_graph-status.new.out) (K.faults c.args.out.now) (K.faults c.tell_graph-status.new.out)
    (StandsFor stance c.build.result.now) c.tell_graph-status.result (ap D.faults c.close.ensures ∙ c.in-Ok.ensures.cause.calm (λ e. e))
    (λ text of. if_told (D.reads c.args.disk) (λ (file : List ℕ). ShowsBuild (λ (w : Build). graph_text w.shared.nodes) file text) (λ file at. shows_build D stance file c.in-Ok.durable (c.in-Ok.ensures.opened file at).0 (λ (w : Build). graph_text w.shared.nodes) text c.in-Ok.ensures.whole
    (λ w s. of w (subst (λ (b : Parts g.row.R.Denot). StandsFor stance b w) (sym c.build.ensures.is) s)))) c.tell_graph-status.ensures.told

pub returns-in-Ok-clause-causes : goal.returns-in-Ok-clause-causes
returns-in-Ok-clause-causes g c = causes_of (returns-in-Ok-clause-shows g c)

pub returns-in-Ok-clause-store : goal.returns-in-Ok-clause-store
returns-in-Ok-clause-store g c = λ file at. ap g.D.Disk.reads c.close.ensures ∙ (c.in-Ok.ensures.opened file at).1

pub returns-in-Err-clause-shows : goal.returns-in-Err-clause-shows
returns-in-Err-clause-shows g c =
    let D = g.D.Disk in
    let K = g.K.Sink in
    let stance = g.R.ScriptThread.stance in
    shows_fault (λ (w : Build). graph_text w.shared.nodes) (D.reads c.args.disk) (D.faults c.args.disk) (D.faults c.in-Err.disk) (K.written c.args.out.now) (K.written c.tell-status.new.out) (K.faults c.args.out.now) (K.faults c.tell-status.new.out)
    c.in-Err.fault c.of_store.result c.tell-status.result c.of_store.ensures (if_told (D.reads c.args.disk) (λ file. OpenFails file c.in-Err.fault) (λ file at. (c.in-Err.ensures.opened file at).0))
    c.in-Err.ensures.cause.calm c.in-Err.ensures.cause.failed c.tell-status.ensures.status c.tell-status.ensures.text

pub returns-in-Err-clause-causes : goal.returns-in-Err-clause-causes
returns-in-Err-clause-causes g c = causes_of (returns-in-Err-clause-shows g c)

pub returns-in-Ok-clause-last : goal.returns-in-Ok-clause-last
returns-in-Ok-clause-last g c = λ file at p ps image has closing so.
    let D = g.D.Disk in
    let K = g.K.Sink in
    let b = c.in-Ok.durable.build in
    let is = last_is D g.R.ScriptThread.stance file c.in-Ok.durable (c.in-Ok.ensures.opened file at).0 p ps image has closing in
    let nodes = ap (λ (x : Parts g.row.R.Denot). graph_text (nodes_of x)) c.build.ensures.is ∙ ap graph_text (shown_nodes b.phase (common_of b.shared) c.in-Ok.ensures.begun) ∙ ap (λ (i : Image). graph_text i.nodes) is in
    let wrote = shown_so c.tell_graph-status.result _ so c.tell_graph-status.ensures.here in
    subst (λ (text : List ℕ). Writes (K.written c.args.out.now) (K.written c.tell_graph-status.new.out) (K.faults c.args.out.now) (K.faults c.tell_graph-status.new.out) text 0 c.tell_graph-status.result) nodes wrote

pub returns-in-Err-clause-last : goal.returns-in-Err-clause-last
returns-in-Err-clause-last g c = λ file at p ps image has closing so. absurd (not_shown c.of_store.result c.tell-status.result c.tell-status.ensures.status so)
