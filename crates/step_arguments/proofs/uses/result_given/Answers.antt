use Rattle.std.proofs.Common.{◌∙◌, ap, length, refl}
use Rattle.std.specs.Prelude.{codes, is_some}
use Rattle.model_run.specs.StepTable.{ResultName, result_of}
use Rattle.model_run.specs.declared.step.Step.TheVariants.{CatchError}
use Rattle.step_arguments.proofs.Arguments.{given_below}
use Rattle.step_arguments.proofs.Fitted.{fits_sort, is_so}
use Rattle.step_arguments.proofs.uses.result_given.Goals as goal

pub kind_of-requires : goal.kind_of-requires
kind_of-requires c = given_below (length c.args.heap.now.cells) (codes "buildResult") c.args.arguments.now c.in-Some.value c.requires.below c.in-Some.ensures

pub result_in-requires : goal.result_in-requires
result_in-requires c = ap (λ k. is_some (result_of k)) c.kind_of.ensures.kind ∙ is_so _ (fits_sort c.args.heap.now.cells CatchError ResultName (codes "buildResult") c.args.arguments.now c.in-Some.value refl c.requires.fits c.in-Some.ensures)
