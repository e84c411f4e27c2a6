use Rattle.build_core.specs.Builds.{setting_in}
use Rattle.script_trials.proofs.InOrder.{in_order}
use Rattle.script_trials.proofs.images.image_bytes.Goals as goal

pub spelled-requires : goal.spelled-requires
spelled-requires g c = record { order = in_order (setting_in c.args.build.now) c.in_ok-image.image c.in_ok-image.ensures.ordered }
