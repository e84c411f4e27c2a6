use Rattle.std.proofs.Common.{◌∙◌, ◌-◌, ℕ, List, drop, length, length-append, ap, arith}
use Rattle.image_form.specs.declared.image.ImageFrame.{ImageFrame}
use Rattle.image_changes.proofs.Fronts.{from_behind}
use Rattle.image_changes.proofs.threads.frames_from.Goals as goal

pub frames_behind-requires : goal.frames_behind-requires
frames_behind-requires c = record { within = omega (arith, c.requires.within, c.requires.behind, length-append c.args.front.now c.args.thread.now.frames, ap length c.as_slice.ensures) }

pub returns : goal.returns
returns c =
    let front = c.args.front.now in
    let place : ℕ = c.args.first - length front in
    c.in_ok-copies.ensures ∙ ap (λ (l : List ImageFrame). drop place l) c.as_slice.ensures ∙ from_behind front c.args.thread.now.frames c.args.first place (omega (arith, c.requires.behind))
