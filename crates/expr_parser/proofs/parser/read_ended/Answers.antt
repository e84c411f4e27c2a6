use Rattle.std.proofs.Common.{◌∙◌, sym}
use Rattle.std.proofs.lemmas.Result.{err_from_is_err_and}
use Rattle.groovy_expr.proofs.Calculus.{passed}
use Rattle.expr_parser.proofs.OneAnswer.{stopped}
use Rattle.expr_parser.proofs.parser.read_ended.Goals as goal

pub returns-in_err-tree-clause-reads : goal.returns-in_err-tree-clause-reads
returns-in_err-tree-clause-reads c =
    let p = err_from_is_err_and c.from_residual.result c.from_residual.ensures.1 in
    rw (p.1, p.2) (passed c.in_err-tree.field-0.0 c.in_err-tree.ensures (λ i f. f))

pub returns-then-not-ends_expr-clause-reads : goal.returns-then-not-ends_expr-clause-reads
returns-then-not-ends_expr-clause-reads c = stopped c.in_ok-tree.ensures (sym c.ends_expr.ensures ∙ c.if-not-ends_expr.true)

pub returns-clause-ended : goal.returns-clause-ended
returns-clause-ended c = sym c.ends_expr.ensures ∙ c.if-not-ends_expr.false
