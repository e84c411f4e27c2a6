use Rattle.std.proofs.lemmas.Result.{err_from_is_err_and}
use Rattle.model_syntax.specs.Stream.{places_of}
use Rattle.groovy_expr.specs.Answers.{kinds}
use Rattle.groovy_expr.proofs.Calculus.{passed}
use Rattle.groovy_parse.proofs.FunctionRules.{function_no_name, function_no_open, function_parameters_fail, function_no_close, function_block_fails, function_ok}
use Rattle.groovy_parse.proofs.function.read_function.Goals as goal

pub returns-in_default : goal.returns-in_default
returns-in_default c = function_no_name (kinds c.args.tokens.now) (places_of c.args.tokens.now) c.requires.begun (rw c.in_default.is at c.in_ok-name.ensures)

pub returns-then-not-sees : goal.returns-then-not-sees
returns-then-not-sees c =
    let h = rw c.in-Some.is at c.in_ok-name.ensures in
    function_no_open (kinds c.args.tokens.now) (places_of c.args.tokens.now) c.requires.begun h.1 c.if-not-sees.ensures

pub returns-in_err-parameters : goal.returns-in_err-parameters
returns-in_err-parameters c =
    let h = rw c.in-Some.is at c.in_ok-name.ensures in
    let p = err_from_is_err_and c.from_residual-in_err-parameters.result c.from_residual-in_err-parameters.ensures.1 in
    rw (p.1, p.2) (passed c.in_err-parameters.field-0.0 c.in_err-parameters.ensures (λ i f. function_parameters_fail (kinds c.args.tokens.now) (places_of c.args.tokens.now) c.requires.begun h.1 c.if-not-sees.ensures.0 f))

pub returns-then-not-sees-2 : goal.returns-then-not-sees-2
returns-then-not-sees-2 c =
    let h = rw c.in-Some.is at c.in_ok-name.ensures in
    function_no_close (kinds c.args.tokens.now) (places_of c.args.tokens.now) c.requires.begun h.1 c.if-not-sees.ensures.0 c.in_ok-parameters.ensures c.if-not-sees-2.ensures

pub returns-in_err-body : goal.returns-in_err-body
returns-in_err-body c =
    let h = rw c.in-Some.is at c.in_ok-name.ensures in
    let p = err_from_is_err_and c.from_residual-in_err-body.result c.from_residual-in_err-body.ensures.1 in
    rw (p.1, p.2) (passed c.in_err-body.field-0.0 c.in_err-body.ensures (λ i f. function_block_fails (kinds c.args.tokens.now) (places_of c.args.tokens.now) c.requires.begun h.1 c.if-not-sees.ensures.0 c.in_ok-parameters.ensures c.if-not-sees-2.ensures.0 c.skip_newline-start.ensures f))

pub returns : goal.returns
returns c =
    let h = rw c.in-Some.is at c.in_ok-name.ensures in
    rw (c.place_at-place.ensures, h.2) (function_ok (kinds c.args.tokens.now) (places_of c.args.tokens.now) c.requires.begun h.1 c.if-not-sees.ensures.0 c.in_ok-parameters.ensures c.if-not-sees-2.ensures.0 c.skip_newline-start.ensures c.in_ok-body.ensures)
