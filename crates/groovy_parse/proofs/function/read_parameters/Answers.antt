use Rattle.std.proofs.lemmas.Result.{err_from_is_err_and}
use Rattle.model_syntax.specs.Stream.{places_of}
use Rattle.groovy_expr.specs.Answers.{kinds}
use Rattle.groovy_expr.proofs.Calculus.{passed}
use Rattle.groovy_parse.proofs.ParameterRules.{no_parameter, parameters_start, parameters_fails, parameters_last_ok, parameters_next}
use Rattle.groovy_parse.proofs.function.read_parameters.Goals as goal

pub returns-then-sees : goal.returns-then-sees
returns-then-sees c = rw c.new-all.ensures (no_parameter (kinds c.args.tokens.now) (places_of c.args.tokens.now) c.if-sees.ensures.0)

pub all-init : goal.all-init
all-init c = rw c.new-all.ensures (parameters_start (kinds c.args.tokens.now) (places_of c.args.tokens.now) c.if-sees.ensures)

pub returns-in_err-parameter : goal.returns-in_err-parameter
returns-in_err-parameter c =
    let p = err_from_is_err_and c.from_residual.result c.from_residual.ensures.1 in
    rw (p.1, p.2) (passed c.in_err-parameter.field-0.0 c.in_err-parameter.ensures (λ i f. parameters_fails (kinds c.args.tokens.now) (places_of c.args.tokens.now) c.all.all c.all.invariant f))

pub returns-then-not-sees : goal.returns-then-not-sees
returns-then-not-sees c = rw c.in_ok-push.ensures.ok (parameters_last_ok (kinds c.args.tokens.now) (places_of c.args.tokens.now) c.all.all c.all.invariant c.in_ok-parameter.ensures c.if-not-sees.ensures)

pub all-preserved : goal.all-preserved
all-preserved c = rw c.in_ok-push.ensures.ok (parameters_next (kinds c.args.tokens.now) (places_of c.args.tokens.now) c.all.all c.all.invariant c.in_ok-parameter.ensures c.if-not-sees.ensures.0)
