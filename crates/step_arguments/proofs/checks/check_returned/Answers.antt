use Rattle.std.proofs.Common.{◌≡◌, rules}
use Rattle.model_run.specs.declared.step.Step.TheVariants.{Sh}
use Rattle.step_arguments.proofs.checks.check_returned.Goals as goal

pub is_true-requires-clause-fits : goal.is_true-requires-clause-fits
is_true-requires-clause-fits c =
    let is : c.args.step ≡ Sh = search rules in
    rw is at c.requires.fits

pub is_true-requires-then-is_true-clause-fits : goal.is_true-requires-then-is_true-clause-fits
is_true-requires-then-is_true-clause-fits c =
    let is : c.args.step ≡ Sh = search rules in
    rw is at c.requires.fits
