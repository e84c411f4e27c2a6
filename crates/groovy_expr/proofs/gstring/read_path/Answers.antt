use Rattle.std.proofs.Common.{◌≡◌, ◌+◌, sym, ap, ◌∙◌, Some}
use Rattle.std.proofs.lemmas.Result.{err_from_is_err_and}
use Rattle.model_syntax.specs.declared.token.TokenKind.TheVariants as kind
use Rattle.model_syntax.specs.Stream.{places_of}
use Rattle.groovy_expr.specs.Answers.{kinds}
use Rattle.groovy_expr.proofs.Calculus.{passed}
use Rattle.groovy_expr.proofs.TextRules.{path_ok, path_fails, path_bad}
use Rattle.groovy_expr.proofs.gstring.read_path.Goals as goal

pub returns-in_default : goal.returns-in_default
returns-in_default c = path_bad (places_of c.args.tokens.now) (kinds c.args.tokens.now) c.requires.seen c.in_default.ensures

pub returns-in_err-names : goal.returns-in_err-names
returns-in_err-names c =
    let p = err_from_is_err_and c.from_residual-in_err-names.result c.from_residual-in_err-names.ensures.1 in
    rw (p.1, p.2) (passed c.in_err-names.field-0.0 c.in_err-names.ensures (λ i f. path_fails (places_of c.args.tokens.now) (kinds c.args.tokens.now) c.requires.seen c.in-Some.ensures.0 f))

pub returns : goal.returns
returns c =
    let n : kinds c.args.tokens.now (c.args.at + 1) ≡ Some (kind.Name c.in_ok-name.name) = c.in-Some.ensures.0 ∙ ap (λ u. Some (kind.Name u)) (sym c.in_ok-name.ensures.cases) in
    rw c.in_ok-suffixed.ensures (path_ok (places_of c.args.tokens.now) (kinds c.args.tokens.now) c.requires.seen n c.in_ok-names.ensures)
