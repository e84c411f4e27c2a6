use Rattle.std.proofs.Common.{◌∙◌, ◌++◌, [], ◌∷◌, ℕ, List, append_assoc, length, take, refl, sym, ap, add-one}
use Rattle.std.proofs.lemmas.Option.{slice_get_read}
use Rattle.image_form.specs.declared.image.ImageFrame.{ImageFrame}
use Rattle.image_changes.proofs.Gets.{front_more}
use Rattle.image_changes.proofs.threads.copy_frames.Goals as goal

pub loop-frame-preserved : goal.loop-frame-preserved
loop-frame-preserved c =
    let frames = c.args.frames.now in
    let i = c.loop-frame.frame-index in
    let frame = c.frame-item.result in
    c.in_ok-push.ensures.pushed ∙ ap (λ (x : ImageFrame). c.loop-frame.copies ++ x ∷ []) c.in_ok-copied_frame.ensures ∙ ap (λ (l : List ImageFrame). l ++ frame ∷ []) c.loop-frame.invariant
    ∙ append_assoc c.args.copies.now (take i frames) (frame ∷ []) ∙ ap (λ (l : List ImageFrame). c.args.copies.now ++ l) (sym (front_more frames i frame (slice_get_read frames (length frames) i frame refl c.loop-frame-test.true c.frame-item.is)))
    ∙ ap (λ (n : ℕ). c.args.copies.now ++ take n frames) (sym (add-one i))
