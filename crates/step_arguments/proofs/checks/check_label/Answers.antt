use Rattle.std.proofs.Common.{◌≡◌, refl, rules}
use Rattle.std.specs.Prelude.{codes}
use Rattle.model_run.specs.declared.step.Step.TheVariants.{Node}
use Rattle.step_arguments.proofs.Fitted.{has_text}
use Rattle.step_arguments.proofs.checks.check_label.Goals as goal

pub text_given-requires-clause-text : goal.text_given-requires-clause-text
text_given-requires-clause-text c =
    let is : c.args.step ≡ Node = search rules in
    has_text c.args.heap.now.cells Node (codes "label") c.args.arguments.now refl (rw is at c.requires.fits)
