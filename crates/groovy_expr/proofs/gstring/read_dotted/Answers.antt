use Rattle.std.proofs.Common.{◌≡◌, ◌+◌, sym, ap, ◌∙◌, Some}
use Rattle.model_syntax.specs.declared.token.TokenKind.TheVariants as kind
use Rattle.groovy_expr.specs.Answers.{kinds}
use Rattle.groovy_expr.proofs.Lists.{more_read, more_fails, all_read}
use Rattle.groovy_expr.proofs.TextRules.{dotted_many, dotted_ok, dotted_bad}
use Rattle.groovy_expr.proofs.EntryRules.{many_start}
use Rattle.groovy_expr.proofs.gstring.read_dotted.Goals as goal

pub names-init : goal.names-init
names-init c = rw c.new-names.ensures (many_start (kinds c.args.tokens.now) c.args.at)

pub returns-in_default : goal.returns-in_default
returns-in_default c = more_fails dotted_many (kinds c.args.tokens.now) (λ z. z) c.names.names c.names.invariant c.names-test.ensures.0 (dotted_bad (kinds c.args.tokens.now) c.names-test.ensures.0 c.in_default.ensures)

pub names-preserved : goal.names-preserved
names-preserved c =
    let n : kinds c.args.tokens.now (c.names.end + 1) ≡ Some (kind.Name c.in_ok-name.name) = c.in-Some.ensures.0 ∙ ap (λ u. Some (kind.Name u)) (sym c.in_ok-name.ensures.cases) in
    rw c.in_ok-push.ensures.ok (more_read dotted_many (kinds c.args.tokens.now) (λ z. z) c.names.names c.names.invariant c.names-test.ensures.0 (dotted_ok (kinds c.args.tokens.now) c.names-test.ensures.0 n))

pub returns : goal.returns
returns c = all_read dotted_many (kinds c.args.tokens.now) (λ z. z) c.names.names c.names.invariant c.names-test.ensures
