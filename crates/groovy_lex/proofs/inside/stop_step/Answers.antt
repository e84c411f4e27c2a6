use Rattle.std.proofs.Common.{◌≡◌, ◌+◌, ℕ, [], ◌∷◌, length, sym, subst, arith}
use Rattle.model_syntax.specs.declared.token.TokenKind.TheVariants.{GStringClose}
use Rattle.model_syntax.specs.Source.{byte_at}
use Rattle.model_syntax.specs.TextForms.{quotes}
use Rattle.model_syntax.specs.Reading.{Reads, goes, token}
use Rattle.model_syntax.proofs.ScriptExistence.{quotes_some}
use Rattle.groovy_lex.specs.declared.contents.Expression.{Expression}
use Rattle.groovy_lex.specs.declared.contents.Expression.TheVariants.{Braces, Path}
use Rattle.groovy_lex.specs.OpenStack.{form_of}
use Rattle.groovy_lex.specs.Stops.{BeginsBy}
use Rattle.groovy_lex.proofs.ContentLemmas.{quotes_past}
use Rattle.groovy_lex.proofs.SpelledLemmas.{byte_inside}
use Rattle.groovy_lex.proofs.InsideLemmas.{inside_fails, closing_reads, braces_reads, path_reads}
use Rattle.groovy_lex.proofs.inside.stop_step.Goals as goal

pub returns-in-Fails : goal.returns-in-Fails
returns-in-Fails c = inside_fails (byte_at c.args.src.now) c.args.stack.now (form_of c.args.form) c.args.opening c.args.at c.in-Fails.kind c.in-Fails.fault c.requires.top c.in-Fails.ensures

pub returns-in-Closes : goal.returns-in-Closes
returns-in-Closes c =
    let f = form_of c.args.form in (
      subst (λ (z : ℕ). Reads (byte_at c.args.src.now) c.args.stack.now c.args.at (goes (token (byte_at c.args.src.now) GStringClose c.args.at (c.args.at + z) ∷ []) c.close.new.self (c.args.at + z))) (sym c.quotes_len.ensures) (closing_reads (byte_at c.args.src.now) c.args.stack.now c.close.new.self f c.args.opening c.args.at c.requires.top c.in-Closes.ensures c.close.ensures),
      omega (arith, c.quotes_len.ensures, quotes_some f),
      omega (arith, c.quotes_len.ensures, quotes_past c.args.src.now f c.args.at (omega (arith, c.requires.inside)) c.in-Closes.ensures),
    )

pub returns-in_ok-open_bracket-in-Begins-Braces : goal.returns-in_ok-open_bracket-in-Begins-Braces
returns-in_ok-open_bracket-in-Begins-Braces c =
    let b : BeginsBy (byte_at c.args.src.now) c.args.stack.now c.args.at Braces = subst (λ (e : Expression). BeginsBy (byte_at c.args.src.now) c.args.stack.now c.args.at e) c.in-Begins-Braces.field-0-is c.in-Begins-Braces.ensures.1 in (
      braces_reads (byte_at c.args.src.now) c.args.stack.now c.open_bracket.new.self (form_of c.args.form) c.args.opening c.args.at c.requires.top c.in-Begins-Braces.ensures.0 b.0 b.1 c.in_ok-open_bracket-in-Begins-Braces.ensures,
      omega arith,
      omega (arith, byte_inside c.args.src.now (c.args.at + 1) (omega (arith, b.0.1.0))),
    )

pub returns-in-Begins-Path : goal.returns-in-Begins-Path
returns-in-Begins-Path c =
    let b : BeginsBy (byte_at c.args.src.now) c.args.stack.now c.args.at Path = subst (λ (e : Expression). BeginsBy (byte_at c.args.src.now) c.args.stack.now c.args.at e) c.in-Begins-Path.field-0-is c.in-Begins-Path.ensures.1 in
    (b.1, path_reads (byte_at c.args.src.now) c.args.stack.now (form_of c.args.form) c.args.opening c.args.at c.requires.top c.in-Begins-Path.ensures.0 b.0)
