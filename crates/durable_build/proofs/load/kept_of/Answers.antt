use Rattle.std.proofs.Common.{refl}
use Rattle.build_images.specs.Lower.build_core.Builds.{setting_in}
use Rattle.durable_build.proofs.OrderLemmas.{in_order}
use Rattle.durable_build.proofs.TakeLemmas.{remembers_image}
use Rattle.durable_build.proofs.load.kept_of.Goals as goal

pub returns-in-Ok-clause-kept : goal.returns-in-Ok-clause-kept
returns-in-Ok-clause-kept g c =
    let b = c.args.build.now in
    let image = c.in-Ok.image in
    (remembers_image g.R.ScriptThread.stance b image c.requires c.in-Ok.ensures.here (in_order (setting_in b) image c.in-Ok.ensures.ordered) c.in-Ok.ensures.whole c.in-Ok.ensures.world, refl)
