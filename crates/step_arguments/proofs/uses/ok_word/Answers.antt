use Rattle.std.proofs.Common.{refl}
use Rattle.std.specs.Prelude.{codes}
use Rattle.model_run.specs.declared.step.Step.TheVariants.{Input}
use Rattle.step_arguments.proofs.Fitted.{has_text}
use Rattle.step_arguments.proofs.uses.ok_word.Goals as goal

pub text_given-requires-clause-text : goal.text_given-requires-clause-text
text_given-requires-clause-text c = has_text c.args.heap.now.cells Input (codes "ok") c.args.arguments.now refl c.requires.fits
