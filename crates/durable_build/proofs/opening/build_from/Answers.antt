use Rattle.std.proofs.Common.{refl, subst}
use Rattle.cps_code.specs.Script.{script_of}
use Rattle.build_images.specs.Lower.image_check.Images.{FallsFor}
use Rattle.durable_build.specs.Opening.{setting_with}
use Rattle.durable_build.proofs.opening.build_from.Goals as goal

pub checked_build-requires : goal.checked_build-requires
checked_build-requires g c = c.in-Ok.ensures.stands (setting_with c.args.code c.args.site) refl refl

pub returns-clause-goes_on : goal.returns-clause-goes_on
returns-clause-goes_on g c = (
  refl,
  λ whole. subst (FallsFor (script_of c.args.code) c.args.site c.args.image) c.in-Err-Fault.field-0-is c.in-Err-Fault.ensures.falls (setting_with c.args.code c.args.site) refl refl whole.stands,
)
