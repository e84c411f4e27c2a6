use Rattle.std.proofs.Common.{◌≡◌, ◌∙◌, true, List, map, ap, sym, subst}
use Rattle.std.specs.List.{AllByRecursion as AllAre}
use Rattle.model_run.specs.declared.event.Event.{Event}
use Rattle.model_run.specs.Fitting.{FitsAtRest}
use Rattle.model_run.specs.World as W
use Rattle.cell_heap.specs.Region.{Region}
use Rattle.cell_heap.specs.Soundness.{AreSound}
use Rattle.flow_graph.specs.Numbers.{AreNumbered}
use Rattle.cps_code.specs.Script.{script_of}
use Rattle.cps_code.specs.declared.row.Row.{Row}
use Rattle.saved_thread.specs.Lower.cps_frames.declared.shared.Shared.{Shared}
use Rattle.saved_thread.specs.Lower.cps_frames.Standing.{common_of}
use Rattle.image_check.specs.Standings.{shared_in}
use Rattle.saved_thread.specs.Lower.image_frames.Standings.{IsTold}
use Rattle.saved_thread.specs.Lower.thread_fits.Seats.{as_seat}
use Rattle.saved_thread.specs.Saving.{seat_in}
use Rattle.build_core.specs.Builds.{StandsFor}
use Rattle.build_core.specs.Phases.{SoundIn}
use Rattle.build_images.specs.Images.{image_in, phase_of, world_image}
use Rattle.build_images.proofs.Parts.{cells_sound, nodes_numbered}
use Rattle.build_images.proofs.RestoredBuilds.{all_at_nodes, whole_grouped, whole_here, whole_sound, whole_stands}
use Rattle.build_images.proofs.restoring.build_of.Goals as goal

pub seats_of-requires : goal.seats_of-requires
seats_of-requires g c = record { nodes = all_at_nodes (W.setting_of W.run_limits (script_of c.args.code) c.args.site) _ _ c.args.image.threads c.requires.fits.fits.threads }

pub restore-requires-clause-sound : goal.restore-requires-clause-sound
restore-requires-clause-sound g c = subst AreSound (sym c.into_vec.ensures) (cells_sound _ c.args.image.cells c.requires.fits.fits.shared.cells c.requires.fits.fits.shared.short)

pub of-requires : goal.of-requires
of-requires g c = subst AreNumbered (sym c.into_vec-3.ensures) (nodes_numbered c.args.image.nodes c.requires.fits.fits.shared.some_node c.requires.fits.fits.shared.nodes)

pub restore-group-requires : goal.restore-group-requires
restore-group-requires g c =
    let i = c.args.image in
    let u : Shared = record { code = c.code.inside.rows.items; site = c.args.site; heap = c.in_ok-restore.field-0; binding = c.into_vec-2.result; graph = c.of.result; log = c.of-2.result; result = i.result; requests = i.requests; held = i.held; next_request = i.next_request; count = 0 } in
    let common : common_of u ≡ shared_in i = λ p. record { cells = (ap (λ (r : Region). r.cells) c.in_ok-restore.ensures ∙ c.into_vec.ensures) p; binding = c.into_vec-2.ensures p; nodes = (c.of.ensures ∙ c.into_vec-3.ensures) p; log = c.of-2.ensures p; result = i.result; requests = i.requests; held = i.held; next_request = i.next_request; count = 0 } in
    let rest = subst (λ (r : List Row). FitsAtRest (W.setting_of W.run_limits (script_of r) c.args.site) i.ended (shared_in i) i.next_thread (map (seat_in (script_of r)) i.threads)) (sym c.code.view_is) c.requires.fits in
    let same = subst (λ (r : List Row). map (as_seat g.R.ScriptThread.stance) c.in_ok-seats.seats.items ≡ map (seat_in (script_of r)) i.threads) (sym c.code.view_is) c.in_ok-seats.ensures.told in
    record { grouped = whole_grouped g.R.ScriptThread.stance g.R.Runner.number g.R.Runner.parent g.R.Runner.branch g.R.Runner.fits g.met.R.SavedThread.rested_fit u i c.in_ok-seats.seats.items c.code.invariant.script rest common same c.in_ok-seats.ensures.begun c.in_ok-seats.ensures.seated }

pub of_parts-requires : goal.of_parts-requires
of_parts-requires g c =
    let i = c.args.image in
    let u : Shared = record { code = c.code.inside.rows.items; site = c.args.site; heap = c.in_ok-restore.field-0; binding = c.into_vec-2.result; graph = c.of.result; log = c.of-2.result; result = i.result; requests = i.requests; held = i.held; next_request = i.next_request; count = 0 } in
    let common : common_of u ≡ shared_in i = λ p. record { cells = (ap (λ (r : Region). r.cells) c.in_ok-restore.ensures ∙ c.into_vec.ensures) p; binding = c.into_vec-2.ensures p; nodes = (c.of.ensures ∙ c.into_vec-3.ensures) p; log = c.of-2.ensures p; result = i.result; requests = i.requests; held = i.held; next_request = i.next_request; count = 0 } in
    let rest = subst (λ (r : List Row). FitsAtRest (W.setting_of W.run_limits (script_of r) c.args.site) i.ended (shared_in i) i.next_thread (map (seat_in (script_of r)) i.threads)) (sym c.code.view_is) c.requires.fits in
    let same = subst (λ (r : List Row). map (as_seat g.R.ScriptThread.stance) c.in_ok-seats.seats.items ≡ map (seat_in (script_of r)) i.threads) (sym c.code.view_is) c.in_ok-seats.ensures.told in
    record {
      sound = subst (λ p. SoundIn g.R.Runner.number g.R.Runner.parent g.R.Runner.branch g.R.Runner.fits p c.restore-group.result u) (sym c.phase_of.ensures)
          (subst (λ k. SoundIn g.R.Runner.number g.R.Runner.parent g.R.Runner.branch g.R.Runner.fits (phase_of i.ended) k u) (sym c.restore-group.ensures.restored)
          (whole_sound g.R.ScriptThread.stance g.R.Runner.number g.R.Runner.parent g.R.Runner.branch g.R.Runner.fits g.met.R.SavedThread.rested_fit u i c.in_ok-seats.seats.items c.code.invariant.script rest common same c.in_ok-seats.ensures.begun c.in_ok-seats.ensures.seated c.requires.over));
    }

pub returns-clause-here : goal.returns-clause-here
returns-clause-here g c =
    let i = c.args.image in
    let u : Shared = record { code = c.code.inside.rows.items; site = c.args.site; heap = c.in_ok-restore.field-0; binding = c.into_vec-2.result; graph = c.of.result; log = c.of-2.result; result = i.result; requests = i.requests; held = i.held; next_request = i.next_request; count = 0 } in
    let common : common_of u ≡ shared_in i = λ p. record { cells = (ap (λ (r : Region). r.cells) c.in_ok-restore.ensures ∙ c.into_vec.ensures) p; binding = c.into_vec-2.ensures p; nodes = (c.of.ensures ∙ c.into_vec-3.ensures) p; log = c.of-2.ensures p; result = i.result; requests = i.requests; held = i.held; next_request = i.next_request; count = 0 } in
    let rest = subst (λ (r : List Row). FitsAtRest (W.setting_of W.run_limits (script_of r) c.args.site) i.ended (shared_in i) i.next_thread (map (seat_in (script_of r)) i.threads)) (sym c.code.view_is) c.requires.fits in
    let same = subst (λ (r : List Row). map (as_seat g.R.ScriptThread.stance) c.in_ok-seats.seats.items ≡ map (seat_in (script_of r)) i.threads) (sym c.code.view_is) c.in_ok-seats.ensures.told in
    let told = subst (λ (r : List Row). AllAre (λ t. AllAre (IsTold (script_of r)) t.frames) i.threads) (sym c.code.view_is) c.requires.told in
    let parts : c.of_parts.result ≡ record { phase = phase_of i.ended; group = record { seats = c.in_ok-seats.seats.items; next = i.next_thread }; shared = u } = c.of_parts.ensures ∙ (λ p. record { phase = c.phase_of.ensures p; group = c.restore-group.ensures.restored p; shared = u }) in
    ap (image_in g.R.ScriptThread.stance) parts ∙ whole_here g.R.ScriptThread.stance g.R.Runner.number g.R.Runner.parent g.R.Runner.branch g.R.Runner.fits g.met.R.SavedThread.rested_fit u i c.in_ok-seats.seats.items c.code.invariant.script rest common same c.in_ok-seats.ensures.begun told

pub returns-clause-stands : goal.returns-clause-stands
returns-clause-stands g c =
    let i = c.args.image in
    let u : Shared = record { code = c.code.inside.rows.items; site = c.args.site; heap = c.in_ok-restore.field-0; binding = c.into_vec-2.result; graph = c.of.result; log = c.of-2.result; result = i.result; requests = i.requests; held = i.held; next_request = i.next_request; count = 0 } in
    let common : common_of u ≡ shared_in i = λ p. record { cells = (ap (λ (r : Region). r.cells) c.in_ok-restore.ensures ∙ c.into_vec.ensures) p; binding = c.into_vec-2.ensures p; nodes = (c.of.ensures ∙ c.into_vec-3.ensures) p; log = c.of-2.ensures p; result = i.result; requests = i.requests; held = i.held; next_request = i.next_request; count = 0 } in
    let rest = subst (λ (r : List Row). FitsAtRest (W.setting_of W.run_limits (script_of r) c.args.site) i.ended (shared_in i) i.next_thread (map (seat_in (script_of r)) i.threads)) (sym c.code.view_is) c.requires.fits in
    let same = subst (λ (r : List Row). map (as_seat g.R.ScriptThread.stance) c.in_ok-seats.seats.items ≡ map (seat_in (script_of r)) i.threads) (sym c.code.view_is) c.in_ok-seats.ensures.told in
    let told = subst (λ (r : List Row). AllAre (λ t. AllAre (IsTold (script_of r)) t.frames) i.threads) (sym c.code.view_is) c.requires.told in
    let parts : c.of_parts.result ≡ record { phase = phase_of i.ended; group = record { seats = c.in_ok-seats.seats.items; next = i.next_thread }; shared = u } = c.of_parts.ensures ∙ (λ p. record { phase = c.phase_of.ensures p; group = c.restore-group.ensures.restored p; shared = u }) in
    subst (λ (r : List Row). (events : List Event) → (W.world_in (W.setting_of W.run_limits (script_of r) c.args.site) events).started ≡ true → i ≡ world_image (W.setting_of W.run_limits (script_of r) c.args.site) (W.world_in (W.setting_of W.run_limits (script_of r) c.args.site) events) → StandsFor g.R.ScriptThread.stance c.of_parts.result (W.world_in (W.setting_of W.run_limits (script_of r) c.args.site) events)) c.code.view_is
    (λ events started e. subst (λ b. StandsFor g.R.ScriptThread.stance b (W.world_in (W.setting_of W.run_limits (script_of c.code.inside.rows.items) c.args.site) events)) (sym parts)
    (whole_stands g.R.ScriptThread.stance g.R.Runner.number g.R.Runner.parent g.R.Runner.branch g.R.Runner.fits g.met.R.SavedThread.rested_fit u i c.in_ok-seats.seats.items c.code.invariant.script rest common same c.in_ok-seats.ensures.begun told events started e))
