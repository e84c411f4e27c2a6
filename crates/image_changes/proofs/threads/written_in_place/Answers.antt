use Rattle.std.proofs.Common.{◌≡◌, ◌∙◌, List, drop, true, false, Some, refl, sym, ap, subst, arith}
use Rattle.image_form.specs.declared.image.ImageFrame.{ImageFrame}
use Rattle.image_form.specs.declared.image.ImageThread.{ImageThread}
use Rattle.delta_form.specs.After.{written_thread}
use Rattle.delta_form.specs.declared.delta.WrittenThread.{WrittenThread}
use Rattle.image_changes.specs.Growing.{with_front}
use Rattle.image_changes.specs.Least.{KeepsMost}
use Rattle.image_changes.proofs.KeptFrames.{written_kept}
use Rattle.image_changes.proofs.threads.written_in_place.Goals as goal

pub returns : goal.returns
returns c =
    let stood = c.args.stood.now in
    let item : ImageThread = record stood { parent = c.args.parent; wait = c.args.wait.now } in
    let kept = c.min-kept.result in
    let plain = with_front item kept in
    let is = c.in_ok-written_with.ensures ∙ ap (λ (fs : List ImageFrame). record plain { frames = fs }) (c.in_ok-frames.ensures ∙ ap (λ (fs : List ImageFrame). drop kept fs) c.as_slice.ensures) in (
      λ e. let no : true ≡ false = sym (c.waits_alike.ensures.1 (ap (λ (t : ImageThread). t.parent) e, ap (λ (t : ImageThread). t.wait) e)) ∙ c.if-waits_alike.false in absurd cc,
      ap (λ (w : WrittenThread). w.number) is,
      ap (λ (w : WrittenThread). written_thread w (Some stood)) is ∙ written_kept stood item kept (omega arith) refl,
      subst (λ (w : WrittenThread). KeepsMost w stood) (sym is) (omega arith, λ few more at. omega (arith, few, more)),
    )
