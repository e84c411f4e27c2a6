use Rattle.std.proofs.Common.{◌^◌, ◌∙◌, arith, refl, sym}
use Rattle.model_syntax.specs.declared.node.NodeForm.TheVariants as form
use Rattle.model_run.specs.Statements.{steps_turn, while_turn}
use Rattle.cps_statements.proofs.RowLaws.{to_again}
use Rattle.cps_statements.proofs.dispatch.again.Goals as goal

pub returns-in-While : goal.returns-in-While
returns-in-While c =
    to_again c.args.node c.args.at c.args.kept c.args.env form.While (λ sh a. while_turn a c.args.node c.args.env) _ _ _ (sym c.kind.ensures ∙ c.in-While.is) (λ sh a. refl) (c.while_turn.ensures (2 ^ 66) (omega arith))

pub returns-in-ForSteps : goal.returns-in-ForSteps
returns-in-ForSteps c =
    to_again c.args.node c.args.at c.args.kept c.args.env form.ForSteps (λ sh a. steps_turn a c.args.node c.args.env) _ _ _ (sym c.kind.ensures ∙ c.in-ForSteps.is) (λ sh a. refl) (c.steps_turn.ensures (2 ^ 66) (omega arith))
