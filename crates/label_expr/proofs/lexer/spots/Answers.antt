use Rattle.std.proofs.Common.{arith, sym, ap, ◌∙◌, length}
use Rattle.model_run.specs.LabelTokens as tokens
use Rattle.label_expr.specs.Readings.{token_of}
use Rattle.label_expr.proofs.TokenLaws.{token_passed, from_here}
use Rattle.std.proofs.lemmas.List.{length-drop}
use Rattle.label_expr.proofs.lexer.spots.Goals as goal

pub tokens-preserved : goal.tokens-preserved
tokens-preserved c =
    let here = from_here c.tokens.at c.args.text.now in
    let is = ap tokens.token_of (sym here) ∙ c.in_ok-token.ensures.0 in
    let left = length-drop c.tokens.at c.args.text.now in
    let size = ap length here in
    (omega (arith, c.in_ok-token.ensures.2, left, size), token_passed c.args.text.now c.tokens.at c.tokens.spots.items c.in_ok-token.length (token_of c.in_ok-token.token) c.keep.new.spots.items c.tokens-test.true c.in_ok-token.ensures.1 is c.in_ok-keep.ensures c.tokens.invariant.1)
