use Rattle.std.proofs.Common.{◌≡◌, ◌+◌, ℕ, List, [], ◌∷◌, length, sym, ap, subst, arith}
use Rattle.model_syntax.specs.declared.token.TokenKind.TheVariants.{Text, GStringOpen}
use Rattle.model_syntax.specs.Source.{byte_at}
use Rattle.model_syntax.specs.TextForms.{quotes}
use Rattle.model_syntax.specs.OpenBrackets.{Open, text}
use Rattle.model_syntax.specs.Reading.{Reads, goes, token}
use Rattle.model_syntax.proofs.ScriptExistence.{quotes_some}
use Rattle.groovy_lex.specs.OpenStack.{form_of}
use Rattle.groovy_lex.specs.Contents.{IsContent}
use Rattle.groovy_lex.proofs.ContentLemmas.{quotes_past}
use Rattle.groovy_lex.proofs.CodeLemmas.{text_reads, opening_reads, expression_begins, text_fails_reads}
use Rattle.groovy_lex.proofs.code.text_step.Goals as goal

pub returns-in-Fails : goal.returns-in-Fails
returns-in-Fails c =
    let f = form_of c.form_at-form.result in
    let i : IsContent (byte_at c.args.src.now) f (c.args.at + length (quotes f)) (length c.args.src.now) c.in_ok-plain.plain c.in_ok-plain.stop = subst (λ (z : ℕ). IsContent (byte_at c.args.src.now) f (c.args.at + z) (length c.args.src.now) c.in_ok-plain.plain c.in_ok-plain.stop) c.quotes_len.ensures c.in_ok-plain.ensures in
    text_fails_reads (byte_at c.args.src.now) c.args.stack.now f c.in_ok-plain.plain c.args.at (length c.args.src.now) c.in_ok-plain.stop c.in-Fails.kind c.in-Fails.fault c.requires.code c.form_at-form.ensures.opens i c.in-Fails.ensures

pub returns-in-Closes : goal.returns-in-Closes
returns-in-Closes c =
    let f = form_of c.form_at-form.result in
    let i : IsContent (byte_at c.args.src.now) f (c.args.at + length (quotes f)) (length c.args.src.now) c.in_ok-plain.plain c.in_ok-plain.stop = subst (λ (z : ℕ). IsContent (byte_at c.args.src.now) f (c.args.at + z) (length c.args.src.now) c.in_ok-plain.plain c.in_ok-plain.stop) c.quotes_len.ensures c.in_ok-plain.ensures in (
      subst (λ (z : ℕ). Reads (byte_at c.args.src.now) c.args.stack.now c.args.at (goes (token (byte_at c.args.src.now) (Text c.in_ok-plain.plain) c.args.at (c.in_ok-plain.stop + z) ∷ []) c.args.stack.now (c.in_ok-plain.stop + z))) (sym c.quotes_len-in-Closes.ensures)
          (text_reads (byte_at c.args.src.now) c.args.stack.now f c.in_ok-plain.plain c.args.at (length c.args.src.now) c.in_ok-plain.stop c.requires.code c.form_at-form.ensures.opens i c.in-Closes.ensures),
      omega (arith, i.forward, quotes_some f),
      omega (arith, c.quotes_len-in-Closes.ensures, quotes_past c.args.src.now f c.in_ok-plain.stop i.inside c.in-Closes.ensures),
    )

pub returns-in_ok-open_text-in-Begins : goal.returns-in_ok-open_text-in-Begins
returns-in_ok-open_text-in-Begins c =
    let f = form_of c.form_at-form.result in
    let i : IsContent (byte_at c.args.src.now) f (c.args.at + length (quotes f)) (length c.args.src.now) c.in_ok-plain.plain c.in_ok-plain.stop = subst (λ (z : ℕ). IsContent (byte_at c.args.src.now) f (c.args.at + z) (length c.args.src.now) c.in_ok-plain.plain c.in_ok-plain.stop) c.quotes_len.ensures c.in_ok-plain.ensures in
    let m : c.args.at + c.quotes_len.result ≡ c.args.at + length (quotes f) = ap (λ (z : ℕ). c.args.at + z) c.quotes_len.ensures in (
      subst (λ (u : List Open). Reads (byte_at c.args.src.now) c.args.stack.now c.args.at (goes (token (byte_at c.args.src.now) GStringOpen c.args.at (c.args.at + c.quotes_len.result) ∷ []) u (c.args.at + c.quotes_len.result))) (sym c.in_ok-open_text-in-Begins.ensures)
          (subst (λ (z : ℕ). Reads (byte_at c.args.src.now) c.args.stack.now c.args.at (goes (token (byte_at c.args.src.now) GStringOpen c.args.at z ∷ []) (text f c.args.at ∷ c.args.stack.now) z)) (sym m)
          (opening_reads (byte_at c.args.src.now) c.args.stack.now f c.in_ok-plain.plain c.args.at (length c.args.src.now) c.in_ok-plain.stop c.requires.code c.form_at-form.ensures.opens i c.in-Begins.ensures.0 (expression_begins c.in-Begins.field-0 c.in-Begins.ensures.1))),
      omega (arith, m, quotes_some f),
      omega (arith, m, i.forward, i.inside),
    )
