use Rattle.std.proofs.Common.{ℕ, List, refl, sym, ◌∙◌, ap, subst, length}
use Rattle.model_syntax.specs.Source.{byte_at}
use Rattle.model_syntax.specs.TextForms.{is_plain}
use Rattle.groovy_lex.specs.OpenStack.{form_of}
use Rattle.groovy_lex.specs.Contents.{TakesTo}
use Rattle.groovy_lex.proofs.ContentLemmas.{not_plain, no_item, plain_taken}
use Rattle.groovy_lex.proofs.escapes.take_plain.Goals as goal

pub returns-then-not-is_plain : goal.returns-then-not-is_plain
returns-then-not-is_plain c = record { takes = (not_plain (byte_at c.args.src.now) (form_of c.args.form) c.args.at c.requires.plain (sym (c.is_plain.ensures ∙ ap (is_plain (form_of c.args.form)) c.byte.ensures) ∙ c.if-not-is_plain.true), refl) }

pub returns-in_ok-append-in-Some : goal.returns-in_ok-append-in-Some
returns-in_ok-append-in-Some c = record {
  takes = subst (λ (z : List ℕ). TakesTo (byte_at c.args.src.now) (form_of c.args.form) c.args.at (length c.args.src.now) c.args.text.now z c.in-Some.end) (sym c.in_ok-append-in-Some.ensures.appended)
      (plain_taken c.args.src.now (form_of c.args.form) c.args.at c.in-Some.end c.args.text.now c.in-Some.ensures.stands.0 c.in-Some.ensures.stands.1 (sym (c.is_plain.ensures ∙ ap (is_plain (form_of c.args.form)) c.byte.ensures) ∙ c.if-not-is_plain.false) c.in-Some.ensures.past.0 c.in-Some.ensures.past.1);
}

pub returns-in-None : goal.returns-in-None
returns-in-None c = record { takes = (no_item (byte_at c.args.src.now) (form_of c.args.form) c.args.at c.requires.plain c.in-None.ensures.stands, refl) }
