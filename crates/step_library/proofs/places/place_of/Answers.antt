use Rattle.std.proofs.Common.{◌≡◌, ◌∙◌, ◌<◌, ℕ, List, ap, length, subst, sym}
use Rattle.std.specs.Prelude.{None}
use Rattle.model_run.specs.Grants.{executor_of}
use Rattle.model_run.specs.Steps.{held_for, last_number, last_text}
use Rattle.cps_frames.specs.Standing.{world_of}
use Rattle.step_library.proofs.PlaceLaws.{held_all, held_last, last_held, no_executor, place_there, some_folder}
use Rattle.step_library.proofs.places.place_of.Goals as goal

pub unreachable-requires : goal.unreachable-requires
unreachable-requires c =
    let request = c.in-Some.request in
    last_held c.args.shared.now.held c.args.state.now.context.held request c.in-Some.ensures c.requires.holds (ap (held_for request) (sym c.as_slice.ensures) ∙ sym c.held_for.ensures ∙ c.in_default-held_for.is)

pub unreachable-requires-in_default-executor_of : goal.unreachable-requires-in_default-executor_of
unreachable-requires-in_default-executor_of c =
    let site = c.args.shared.now.site in
    let last = last_number c.args.state.now.context.held in
    let held = c.in-Some-held_for.held in
    held_all (λ h. executor_of site h.executor ≡ None → ⊥) last c.args.shared.now.held held
    (held_last last c.in-Some.request c.args.shared.now.held held c.in-Some.ensures (c.in-Some-held_for.ensures ∙ ap (held_for c.in-Some.request) c.as_slice.ensures)) c.requires.executors
    (no_executor c.executor_of.result (executor_of site held.executor) c.executor_of.ensures c.in_default-executor_of.is)

pub last_text-requires : goal.last_text-requires
last_text-requires c = record { some = subst (λ (ts : List (List ℕ)). 0 < length ts) (sym c.as_slice-2.ensures) (some_folder c.args.state.now.context c.in-Some.request c.in-Some.ensures c.requires.enough) }

pub returns : goal.returns
returns c =
    let held = c.in-Some-held_for.held in
    place_there (world_of c.args.shared.now c.args.state.now) held c.in-Some-executor_of.executor.now c.in_ok-workspace.workspace c.in_ok-folder.folder
    (held_last (last_number c.args.state.now.context.held) c.in-Some.request c.args.shared.now.held held c.in-Some.ensures (c.in-Some-held_for.ensures ∙ ap (held_for c.in-Some.request) c.as_slice.ensures)) c.in-Some-executor_of.ensures c.in_ok-workspace.ensures
    (c.in_ok-folder.ensures ∙ ap last_text c.as_slice-2.ensures)
