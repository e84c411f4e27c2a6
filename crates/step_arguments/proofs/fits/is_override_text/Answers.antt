use Rattle.std.proofs.Common.{◌∙◌, sym}
use Rattle.step_arguments.proofs.Rests.{name_goes_on}
use Rattle.step_arguments.proofs.fits.is_override_text.Goals as goal

pub loop-at-preserved : goal.loop-at-preserved
loop-at-preserved c = sym (name_goes_on c.args.text.now c.loop-at.at c.loop-at-test.true c.if-text-at-eq61.false c.if-text-at-eq43.false) ∙ c.loop-at.invariant
