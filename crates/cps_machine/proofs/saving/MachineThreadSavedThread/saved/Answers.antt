use Rattle.std.proofs.Common.{◌∙◌, drop, map, ap, sym, subst}
use Rattle.std.proofs.lemmas.List.{drop-map}
use Rattle.cps_frames.specs.declared.thread.ThreadState.{ThreadState}
use Rattle.cps_code.specs.Script.{script_of}
use Rattle.saved_thread.specs.Saving.{AtNodes, frame_told}
use Rattle.saved_thread.proofs.ListLaws.{all_from}
use Rattle.cps_machine.proofs.saving.MachineThreadSavedThread.saved.Goals as goal

pub frames_told-requires : goal.frames_told-requires
frames_told-requires c =
    let items = c.as_slice.ensures.value ∙ ap (λ (s : ThreadState). s.stack.items) c.state-state.ensures in
    subst (AtNodes (script_of c.args.code.now)) (sym (c.frames_from-frames.ensures ∙ ap (drop c.args.first) items)) (all_from _ c.args.first c.args.seat.now.thread.state.stack.items c.requires.nodes)

pub returns : goal.returns
returns c =
    let state = c.state-state.ensures in
    let told = map (frame_told (script_of c.args.code.now)) in
    let items = c.as_slice.ensures.value ∙ ap (λ (s : ThreadState). s.stack.items) state in
    λ p. record {
      number = c.args.seat.now.number;
      parent = c.args.seat.now.parent;
      head = ap (λ (s : ThreadState). s.head) state p;
      wait = c.in_ok-same_wait.ensures p;
      context = (c.in_ok-copied.ensures ∙ ap (λ (s : ThreadState). s.context) state) p;
      frames = (c.in_ok-frames_told.ensures ∙ ap told (c.frames_from-frames.ensures ∙ ap (drop c.args.first) items) ∙ sym (drop-map (frame_told (script_of c.args.code.now)) c.args.first c.args.seat.now.thread.state.stack.items)) p;
    }
