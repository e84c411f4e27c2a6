use Rattle.std.proofs.Common.{refl}
use Rattle.std.specs.Prelude.{codes}
use Rattle.model_run.specs.declared.step.Step.TheVariants.{Input}
use Rattle.step_arguments.proofs.Branches.{branches_are}
use Rattle.step_arguments.proofs.Fitted.{has_identifier}
use Rattle.step_arguments.proofs.binding.without_body.Goals as goal

pub text_given-requires-clause-text : goal.text_given-requires-clause-text
text_given-requires-clause-text c = has_identifier c.args.heap.now.cells Input (codes "id") c.args.arguments.now refl (rw c.in-Input.is at c.requires.fits)

pub returns-in-Parallel-clause-usable : goal.returns-in-Parallel-clause-usable
returns-in-Parallel-clause-usable c = branches_are c.args.heap.now.cells c.args.arguments.now c.main_argument.result c.requires.below (rw c.in-Parallel.is at c.main_argument.ensures) (rw c.in-Parallel.is at c.requires.fits)
