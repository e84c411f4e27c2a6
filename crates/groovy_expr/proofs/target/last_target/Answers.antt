use Rattle.std.proofs.Common.{[], sym, ap, ◌∙◌}
use Rattle.model_syntax.specs.declared.tree.Suffix.{out-Suffix}
use Rattle.groovy_expr.specs.Targets.{behind, last_target}
use Rattle.groovy_expr.proofs.StatementTargets.{last_is}
use Rattle.groovy_expr.proofs.target.last_target.Goals as goal

pub returns : goal.returns
returns c = c.target_behind.ensures ∙ ap (λ e. behind e (out-Suffix c.in-Some.last)) c.operand.ensures ∙ sym (last_is c.args.primary [] _ c.in-Some.last) ∙ sym (ap (last_target c.args.primary []) c.in-Some.ensures)
