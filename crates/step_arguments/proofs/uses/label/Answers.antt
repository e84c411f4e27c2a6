use Rattle.std.proofs.Common.{refl}
use Rattle.std.specs.Prelude.{codes}
use Rattle.model_run.specs.declared.step.Step.TheVariants.{Node}
use Rattle.step_arguments.proofs.Fitted.{has_text}
use Rattle.step_arguments.proofs.uses.label.Goals as goal

pub text_given-requires-clause-text : goal.text_given-requires-clause-text
text_given-requires-clause-text c = has_text c.args.heap.now.cells Node (codes "label") c.args.arguments.now refl c.requires.fits
