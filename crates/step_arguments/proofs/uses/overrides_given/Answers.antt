use Rattle.std.proofs.Common.{◌∙◌, ap, length, refl, sym}
use Rattle.std.specs.Prelude.{codes}
use Rattle.model_run.specs.StepTable.{Overrides, are_overrides}
use Rattle.model_run.specs.declared.step.Step.TheVariants.{WithEnv}
use Rattle.step_arguments.proofs.Arguments.{given_below}
use Rattle.step_arguments.proofs.Fitted.{fits_sort, is_so}
use Rattle.step_arguments.proofs.uses.overrides_given.Goals as goal

pub kind_of-requires : goal.kind_of-requires
kind_of-requires c = given_below (length c.args.heap.now.cells) (codes "overrides") c.args.arguments.now c.main_argument-overrides.result c.requires.below (sym c.main_argument-overrides.ensures)

pub overrides_in-requires-clause-fits : goal.overrides_in-requires-clause-fits
overrides_in-requires-clause-fits c = ap (are_overrides c.args.heap.now.cells) c.kind_of.ensures.kind ∙ is_so _ (fits_sort c.args.heap.now.cells WithEnv Overrides (codes "overrides") c.args.arguments.now c.main_argument-overrides.result refl c.requires.fits (sym c.main_argument-overrides.ensures))
