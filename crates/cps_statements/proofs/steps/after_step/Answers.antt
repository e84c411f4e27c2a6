use Rattle.std.proofs.Common.{◌∙◌, sym}
use Rattle.model_run.specs.Statements.{steps_test}
use Rattle.cps_statements.proofs.WayLaws.{behind_statement}
use Rattle.cps_statements.proofs.steps.after_step.Goals as goal

pub returns : goal.returns
returns c = λ r lt.
    behind_statement c.args.frame.node r c.args.frame.env (λ y n sh a. steps_test a c.args.frame.node n) c.args.ending c.in_ok-env.field-0-0 c.in_ok-env.env _ _ _ (sym c.in_ok-statement_of.ensures ∙ c.in_ok-env.was) (c.steps_test.ensures r lt)
