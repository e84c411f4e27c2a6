use Rattle.std.proofs.Common.{subst}
use Rattle.std.specs.Prelude.{IfErr}
use Rattle.model_run.specs.StepTable.{and_fits, bind_fit, fit_given}
use Rattle.step_arguments.specs.Binding.{Tells, seen_with}
use Rattle.step_arguments.proofs.checks.check_argument.Goals as goal

pub returns-clause-refused : goal.returns-clause-refused
returns-clause-refused c = λ w args body rest.
    subst (λ o. IfErr c.check_value.result (Tells (bind_fit (seen_with c.args.heap.now.cells w) c.args.step args body (and_fits c.args.name.now (fit_given (seen_with c.args.heap.now.cells w) o c.args.value.now) rest)))) c.in-Some.ensures (c.check_value.ensures.refused w args body rest)
