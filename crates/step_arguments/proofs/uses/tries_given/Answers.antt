use Rattle.std.proofs.Common.{◌∙◌, ap, length, refl, sym}
use Rattle.std.specs.Prelude.{codes}
use Rattle.model_run.specs.StepTable.{Positive, is_positive}
use Rattle.model_run.specs.declared.step.Step.TheVariants.{Retry}
use Rattle.step_arguments.proofs.Arguments.{given_below}
use Rattle.step_arguments.proofs.Fitted.{fits_sort, is_so}
use Rattle.step_arguments.proofs.uses.tries_given.Goals as goal

pub kind_of-requires : goal.kind_of-requires
kind_of-requires c = given_below (length c.args.heap.now.cells) (codes "count") c.args.arguments.now c.main_argument-count.result c.requires.below (sym c.main_argument-count.ensures)

pub further_tries-requires : goal.further_tries-requires
further_tries-requires c = ap is_positive c.kind_of.ensures.kind ∙ is_so _ (fits_sort c.args.heap.now.cells Retry Positive (codes "count") c.args.arguments.now c.main_argument-count.result refl c.requires.fits (sym c.main_argument-count.ensures))
