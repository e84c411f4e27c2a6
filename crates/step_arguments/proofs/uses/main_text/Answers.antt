use Rattle.std.proofs.Common.{length, sym}
use Rattle.model_run.specs.StepTable.{AnyText, main_name, parameters}
use Rattle.step_arguments.proofs.Arguments.{given_below}
use Rattle.step_arguments.proofs.Fitted.{fits_sort}
use Rattle.step_arguments.proofs.uses.main_text.Goals as goal

pub written-requires : goal.written-requires
written-requires c =
    let h = c.args.heap.now.cells in
    let name = main_name (parameters c.args.step) in
    let args = c.args.arguments.now in
    let v = c.main_argument.result in
    let found = sym c.main_argument.ensures in
    record { below = given_below (length h) name args v c.requires.below found; text = fits_sort h c.args.step AnyText name args v c.requires.text c.requires.fits found }
