use Rattle.std.proofs.Common.{◌≡◌, ◌∙◌, ℕ, length, take, ap, arith}
use Rattle.std.specs.Prelude.{min}
use Rattle.std.proofs.lemmas.List.{take_min}
use Rattle.build_images.proofs.fronts.first_frames.Goals as goal

pub returns : goal.returns
returns c =
    let frames = c.args.frames.now in
    let is : c.min-count.result ≡ min (min c.args.low 4294967295) (length frames) = omega (arith, c.min.ensures, c.min-count.ensures) in
    ap (λ (n : ℕ). take n frames) is ∙ take_min (min c.args.low 4294967295) frames
