use Rattle.std.proofs.lemmas.Bool.{false≢true}
use Rattle.std.proofs.lemmas.Result.{err_from_is_err_and}
use Rattle.model_syntax.specs.Stream.{places_of}
use Rattle.groovy_expr.specs.Answers.{kinds}
use Rattle.groovy_expr.proofs.Calculus.{passed}
use Rattle.groovy_expr.proofs.HeadRules.{heads_arrow, names_fails, names_open, names_ok}
use Rattle.groovy_expr.proofs.closure.read_heads.Goals as goal

pub returns-then-sees : goal.returns-then-sees
returns-then-sees c = rw c.new.ensures (heads_arrow (places_of c.args.tokens.now) (kinds c.args.tokens.now) c.if-sees.ensures.0)

pub returns-in_err-names : goal.returns-in_err-names
returns-in_err-names c =
    let p = err_from_is_err_and c.from_residual.result c.from_residual.ensures.1 in
    rw (p.1, p.2) (passed c.in_err-names.field-0.0 c.in_err-names.ensures (λ i f. names_fails (places_of c.args.tokens.now) (kinds c.args.tokens.now) c.requires.headed c.if-sees.ensures (λ e. false≢true cc) f))

pub returns-then-not-sees : goal.returns-then-not-sees
returns-then-not-sees c = names_open (places_of c.args.tokens.now) (kinds c.args.tokens.now) c.requires.headed c.if-sees.ensures (λ e. false≢true cc) c.in_ok-names.ensures c.if-not-sees.ensures

pub returns : goal.returns
returns c = names_ok (places_of c.args.tokens.now) (kinds c.args.tokens.now) c.requires.headed c.if-sees.ensures (λ e. false≢true cc) c.in_ok-names.ensures c.if-not-sees.ensures.0
