use Rattle.std.proofs.Common.{◌≡◌, ◌∙◌, true, sym, subst}
use Rattle.model_run.specs.State.{Setting}
use Rattle.model_run.specs.World as W
use Rattle.build_images.specs.Lower.build_core.Builds.{StandsFor}
use Rattle.build_images.specs.Images.{image_in, world_image}
use Rattle.durable_build.proofs.opening.checked_build.Goals as goal

pub returns-in-Ok-clause-stands : goal.returns-in-Ok-clause-stands
returns-in-Ok-clause-stands g c = λ events begun same.
    let stance = g.R.ScriptThread.stance in
    let b = c.in-Ok.build in
    subst (λ (s : Setting). (W.world_in s events).started ≡ true → image_in stance b ≡ world_image s (W.world_in s events) → StandsFor stance b (W.world_in s events)) (sym c.in-Ok.ensures.setting)
    (λ started is. c.in-Ok.ensures.stands events started (sym c.in-Ok.ensures.here ∙ is)) begun same
