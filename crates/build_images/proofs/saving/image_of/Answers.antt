use Rattle.std.proofs.Common.{◌∙◌, sym, subst}
use Rattle.build_core.specs.Builds.{setting_in}
use Rattle.build_images.specs.Images.{IsOrdered, IsWhole}
use Rattle.build_images.proofs.Whole.{no_fault}
use Rattle.build_images.proofs.saving.image_of.Goals as goal

pub returns-clause-world : goal.returns-clause-world
returns-clause-world g c = λ w st. c.in_ok-image.ensures.here ∙ c.in_ok-threads.ensures.image.world w st

pub returns-clause-ordered : goal.returns-clause-ordered
returns-clause-ordered g c = subst (IsOrdered (setting_in c.args.build.now)) (sym c.in_ok-image.ensures.here) c.in_ok-threads.ensures.image.ordered

pub returns-clause-whole : goal.returns-clause-whole
returns-clause-whole g c = subst (IsWhole (setting_in c.args.build.now)) (sym c.in_ok-image.ensures.here) c.in_ok-threads.ensures.image.whole

pub returns-clause-passes : goal.returns-clause-passes
returns-clause-passes g c =
    let w : IsWhole (setting_in c.args.build.now) c.in_ok-image.image = subst (IsWhole (setting_in c.args.build.now)) (sym c.in_ok-image.ensures.here) c.in_ok-threads.ensures.image.whole in
    no_fault (setting_in c.args.build.now) c.in_ok-image.ensures.script c.in_ok-image.image w.stands
