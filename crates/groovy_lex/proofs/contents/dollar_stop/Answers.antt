use Rattle.std.proofs.Common.{◌∙◌, sym, arith}
use Rattle.model_syntax.specs.Source.{byte_at}
use Rattle.model_syntax.specs.TextForms.{begun_dollar}
use Rattle.model_syntax.specs.Reading.{fails_at_dollar, fails_too_deep}
use Rattle.groovy_lex.specs.OpenStack.{form_of}
use Rattle.groovy_lex.proofs.EscapeLemmas.{dollar_furthest}
use Rattle.groovy_lex.proofs.contents.dollar_stop.Goals as goal

pub returns-then-is_at : goal.returns-then-is_at
returns-then-is_at c = fails_too_deep (c.requires.dollar, (c.if-is_at.ensures.0, tt)) c.requires.double (omega (arith, c.depth.ensures, c.if-depth-lt-MOST_BRACKETS.false))

pub returns : goal.returns
returns c = c.broken_stop.ensures c.args.stack.now (form_of c.args.form) (begun_dollar c.requires.double c.requires.dollar) (dollar_furthest (byte_at c.args.src.now) (form_of c.args.form) c.args.at c.requires.dollar)
    (fails_at_dollar c.requires.dollar c.requires.double c.if-is_at.ensures (sym c.letter_at.ensures.value ∙ c.if-letter_at.false))
