use Rattle.std.proofs.lemmas.Result.{err_from_is_err_and}
use Rattle.model_syntax.specs.Stream.{places_of}
use Rattle.groovy_expr.specs.Answers.{kinds}
use Rattle.groovy_expr.proofs.Calculus.{passed}
use Rattle.groovy_parse.proofs.TopRules.{top_function_ok, top_function_fails, top_statement_ok, top_statement_fails}
use Rattle.groovy_parse.proofs.script.read_top.Goals as goal

pub returns-in_err-function : goal.returns-in_err-function
returns-in_err-function c =
    let p = err_from_is_err_and c.from_residual.result c.from_residual.ensures.1 in
    rw (p.1, p.2) (passed c.in_err-function.field-0.0 c.in_err-function.ensures (λ i f. top_function_fails (kinds c.args.tokens.now) (places_of c.args.tokens.now) c.if-begins_function.ensures f))

pub returns-then-begins_function : goal.returns-then-begins_function
returns-then-begins_function c = top_function_ok (kinds c.args.tokens.now) (places_of c.args.tokens.now) c.if-begins_function.ensures c.in_ok-function.ensures

pub returns-in_err-stmt : goal.returns-in_err-stmt
returns-in_err-stmt c =
    let p = err_from_is_err_and c.from_residual-in_err-stmt.result c.from_residual-in_err-stmt.ensures.1 in
    rw (p.1, p.2) (passed c.in_err-stmt.field-0.0 c.in_err-stmt.ensures (λ i f. top_statement_fails (kinds c.args.tokens.now) (places_of c.args.tokens.now) c.if-begins_function.ensures f))

pub returns : goal.returns
returns c = rw c.place_at.ensures (top_statement_ok (kinds c.args.tokens.now) (places_of c.args.tokens.now) c.if-begins_function.ensures c.in_ok-stmt.ensures)
