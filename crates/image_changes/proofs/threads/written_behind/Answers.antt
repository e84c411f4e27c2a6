use Rattle.std.proofs.Common.{◌≡◌, ◌∙◌, List, true, false, Some, sym, ap, subst}
use Rattle.image_form.specs.declared.image.ImageFrame.{ImageFrame}
use Rattle.delta_form.specs.After.{written_thread}
use Rattle.delta_form.specs.declared.delta.WrittenThread.{WrittenThread}
use Rattle.image_changes.specs.Growing.{with_front}
use Rattle.image_changes.specs.Least.{KeepsMost}
use Rattle.image_changes.specs.Seen.{behind_frames}
use Rattle.image_changes.proofs.Gets.{first_behind}
use Rattle.image_changes.proofs.KeptFrames.{written_kept}
use Rattle.image_changes.proofs.threads.written_behind.Goals as goal

pub returns : goal.returns
returns c =
    let stood = c.args.stood.now in
    let item = behind_frames c.args.front.now c.args.thread.now in
    let kept = c.common-kept.result in
    let common = c.common-kept.ensures in
    let plain = with_front c.args.thread.now kept in
    let is = c.in_ok-written_with.ensures ∙ ap (λ (fs : List ImageFrame). record plain { frames = fs }) c.in_ok-frames.ensures in (
      λ e. let no : true ≡ false = sym (c.is_same_thread.ensures.1 e) ∙ c.if-is_same_thread.false in absurd cc,
      ap (λ (w : WrittenThread). w.number) is,
      ap (λ (w : WrittenThread). written_thread w (Some stood)) is ∙ written_kept stood item kept common.within_had common.same,
      subst (λ (w : WrittenThread). KeepsMost w stood) (sym is) (common.few, λ few more at. common.most few more (at ∙ first_behind kept item.frames)),
    )
