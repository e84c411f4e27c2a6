use Rattle.std.proofs.Common.{◌∙◌, sym}
use Rattle.cps_code.specs.Script.{script_of}
use Rattle.image_check.proofs.ImageLaws.{falls_for, stands_for}
use Rattle.image_check.proofs.image.check.Goals as goal

pub returns-in-None-clause-stands : goal.returns-in-None-clause-stands
returns-in-None-clause-stands c = stands_for (script_of c.args.code.now) c.in_ok-first_fault.ensures.script c.args.site.now c.args.image.now (sym c.in_ok-first_fault.ensures.first ∙ c.in-None.is)

pub returns-in-Some-clause-falls : goal.returns-in-Some-clause-falls
returns-in-Some-clause-falls c = falls_for (script_of c.args.code.now) c.in_ok-first_fault.ensures.script c.args.site.now c.args.image.now c.in-Some.finding (sym c.in_ok-first_fault.ensures.first ∙ c.in-Some.is)
