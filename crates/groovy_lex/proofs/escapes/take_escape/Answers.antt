use Rattle.std.proofs.Common.{◌+◌, ℕ, List, ◌++◌, refl, sym, ◌∙◌, ap, subst, length}
use Rattle.std.specs.Char.{encode_utf8}
use Rattle.model_syntax.specs.Source.{byte_at}
use Rattle.groovy_lex.specs.OpenStack.{form_of}
use Rattle.groovy_lex.specs.Contents.{TakesTo}
use Rattle.groovy_lex.proofs.ContentLemmas.{joined_taken, escape_taken, unicode_taken, no_escape}
use Rattle.groovy_lex.proofs.escapes.take_escape.Goals as goal

pub returns-then-is_at : goal.returns-then-is_at
returns-then-is_at c = record { takes = joined_taken c.args.src.now (form_of c.args.form) c.args.at c.args.text.now c.requires.backslash c.if-is_at.ensures.0 }

pub returns-in-Some : goal.returns-in-Some
returns-in-Some c = record {
  takes = subst (λ (z : List ℕ). TakesTo (byte_at c.args.src.now) (form_of c.args.form) c.args.at (length c.args.src.now) c.args.text.now z (c.args.at + 2)) (sym c.in_ok-push.ensures.pushed)
      (escape_taken c.args.src.now (form_of c.args.form) c.args.at c.in-Some.byte c.args.text.now c.requires.backslash (sym c.escape_at.ensures ∙ c.in-Some.is));
}

pub returns-then-not-is_at : goal.returns-then-not-is_at
returns-then-not-is_at c = record {
  takes = (
    no_escape (byte_at c.args.src.now) (form_of c.args.form) c.args.at c.requires.backslash
        (sym c.escape_at.ensures ∙ c.in_default.is) c.if-is_at.ensures (λ u. c.if-not-is_at.ensures u.0),
    refl,
  );
}

pub returns-in_ok-append_character-in-Some-unicode : goal.returns-in_ok-append_character-in-Some-unicode
returns-in_ok-append_character-in-Some-unicode c = record {
  takes = subst (λ (z : List ℕ). TakesTo (byte_at c.args.src.now) (form_of c.args.form) c.args.at (length c.args.src.now) c.args.text.now z (c.args.at + 6)) (sym (c.in_ok-append_character-in-Some-unicode.ensures ∙ ap (λ (z : ℕ). c.args.text.now ++ encode_utf8 z) c.in-Some-unicode.ensures.2))
      (unicode_taken c.args.src.now (form_of c.args.form) c.args.at c.args.text.now c.requires.backslash c.if-not-is_at.ensures.0 c.in-Some-unicode.ensures.0 c.in-Some-unicode.ensures.1);
}

pub returns-in-None : goal.returns-in-None
returns-in-None c = record {
  takes = (
    no_escape (byte_at c.args.src.now) (form_of c.args.form) c.args.at c.requires.backslash
        (sym c.escape_at.ensures ∙ c.in_default.is) c.if-is_at.ensures (λ u. c.in-None.ensures (u.1.0, u.1.1)),
    refl,
  );
}
