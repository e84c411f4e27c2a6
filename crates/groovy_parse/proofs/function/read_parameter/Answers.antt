use Rattle.model_syntax.specs.Stream.{places_of}
use Rattle.groovy_expr.specs.Answers.{kinds}
use Rattle.groovy_parse.proofs.ParameterRules.{typed_fails, typed_ok, plain_fails, plain_ok}
use Rattle.groovy_parse.proofs.function.read_parameter.Goals as goal

pub returns-in_default : goal.returns-in_default
returns-in_default c = typed_fails (kinds c.args.tokens.now) (places_of c.args.tokens.now) c.if-is_typed.ensures.0 (rw c.in_default.is at c.in_ok-name.ensures)

pub returns-then-is_typed : goal.returns-then-is_typed
returns-then-is_typed c =
    let h = rw c.in-Some.is at c.in_ok-name.ensures in
    typed_ok (kinds c.args.tokens.now) (places_of c.args.tokens.now) c.if-is_typed.ensures.0 h.2 h.1

pub returns-in_default-2 : goal.returns-in_default-2
returns-in_default-2 c = plain_fails (kinds c.args.tokens.now) (places_of c.args.tokens.now) c.if-is_typed.ensures (rw c.in_default-2.is at c.in_ok-name-2.ensures)

pub returns : goal.returns
returns c =
    let h = rw c.in-Some-2.is at c.in_ok-name-2.ensures in
    plain_ok (kinds c.args.tokens.now) (places_of c.args.tokens.now) c.if-is_typed.ensures h.2 h.1
