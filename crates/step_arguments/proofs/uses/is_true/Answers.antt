use Rattle.std.proofs.Common.{◌∙◌, ap, length}
use Rattle.model_run.specs.StepTable.{Flag, is_flag}
use Rattle.model_run.specs.declared.step.Step.TheVariants.{Sh}
use Rattle.step_arguments.proofs.Arguments.{given_below}
use Rattle.step_arguments.proofs.Fitted.{fits_sort, is_so}
use Rattle.step_arguments.proofs.uses.is_true.Goals as goal

pub kind_of-requires : goal.kind_of-requires
kind_of-requires c = given_below (length c.args.heap.now.cells) c.args.name.now c.args.arguments.now c.in-Some.value c.requires.below c.in-Some.ensures

pub flag_of-requires : goal.flag_of-requires
flag_of-requires c = ap is_flag c.kind_of.ensures.kind ∙ is_so _ (fits_sort c.args.heap.now.cells Sh Flag c.args.name.now c.args.arguments.now c.in-Some.value c.requires.flag c.requires.fits c.in-Some.ensures)
