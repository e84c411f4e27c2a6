-- What the lexer found at a place, as what stands there.
use Rattle.std.proofs.Common.{◌≡◌, ℕ, ◌+◌, ◌<◌, ◌≤◌, ⊎_elim, List, [], ◌∷◌, ◌++◌, length, refl, sym, ap, subst, ◌∙◌, arith, Bool, true, append-nil, ℤ}
use Rattle.std.specs.Prelude.{codes}
use Rattle.std.proofs.lemmas.Bool.{true≢false}
use Rattle.model_syntax.specs.declared.fault.FaultKind.{FaultKind}
use Rattle.model_syntax.specs.declared.fault.FaultKind.TheVariants.{BadNumber, NestingOver128}
use Rattle.model_syntax.specs.declared.place.Place.{Place}
use Rattle.model_syntax.specs.declared.sign.Sign.{Sign}
use Rattle.model_syntax.specs.declared.token.TokenKind.{TokenKind}
use Rattle.model_syntax.specs.declared.token.TokenKind.TheVariants as kind
use Rattle.model_syntax.specs.declared.token.Token.{Token}
use Rattle.model_syntax.specs.Source.{Source, Spelled}
use Rattle.model_syntax.specs.Places.{place_at}
use Rattle.model_syntax.specs.Spelling.{sign_text, Spells, spells_sign, spells_word, spells_name, spells_number}
use Rattle.model_syntax.specs.TextForms.{Form, quotes, is_double, Opens}
use Rattle.model_syntax.specs.OpenBrackets.{Open, text, depth, is_opening, after_sign, IsCode}
use Rattle.model_syntax.specs.Reading.{goes, fails, token, BeginsLine, AfterFits, name_stands, word_stands, sign_stands, number_stands, sign_too_deep, number_bad, lexeme, BeginsExpression, begins_braces, begins_path, TextFails, text_whole, text_opens, text_fails, text_begins, Begins, begins_blank, begins_newline, begins_line, begins_comment, begins_lexeme, begins_text, code_lexeme, code_text, Reads, reads_code}
use Rattle.model_syntax.proofs.SpellingLemmas.{FirstIs, first_is, word_first, name_first, number_first}
use Rattle.model_syntax.proofs.TextLemmas.{quote_first, quote_cases}
use Rattle.groovy_lex.specs.declared.contents.Expression.{Expression}
use Rattle.groovy_lex.specs.declared.contents.Expression.TheVariants.{Braces, Path}
use Rattle.groovy_lex.specs.Names.{IsNameKind, IsNameAt}
use Rattle.groovy_lex.specs.Numbers.{IsNumberAt, IsBadNumberAt}
use Rattle.groovy_lex.specs.Signs.{IsSignAt}
use Rattle.groovy_lex.specs.Contents.{IsContent}
use Rattle.groovy_lex.specs.Turns.{IsOther}
use Rattle.groovy_lex.specs.Stops.{BeginsBy}

-- A token that was put behind the others, with its place.
pub token_behind : (B : Source) (k : TokenKind) (a b : ℕ) (p : Place) (old new : List Token) → p ≡ place_at B a → new ≡ old ++ record { kind = k; start = a; end = b; place = p } ∷ [] → new ≡ old ++ token B k a b ∷ []
token_behind B k a b p old new e h = h ∙ ap (λ (z : Place). old ++ record { kind = k; start = a; end = b; place = z } ∷ []) e

-- Names and words.
pub name_reads : (B : Source) (s : List Open) (a b : ℕ) (k : TokenKind) → IsCode s → IsNameAt B a b k → Reads B s a (goes (token B k a b ∷ []) s b)
name_reads B s a b k c n = subst (λ z. Reads B s a (goes (token B k a z ∷ []) s z)) (sym n.ends) (reads_code c (code_lexeme (lexeme n.fits (after k n.name))))
  where
    after : (k : TokenKind) → IsNameKind n.text k → AfterFits B s n.text a k (goes (token B k a (a + length n.text) ∷ []) s (a + length n.text))
    after (kind.Word w) e = word_stands
    after (kind.Name m) e = name_stands
    after j e = absurd e

-- Numbers.
pub number_reads : (B : Source) (s : List Open) (a b : ℕ) (v : ℤ) → IsCode s → IsNumberAt B a b v → Reads B s a (goes (token B (kind.Int v) a b ∷ []) s b)
number_reads B s a b v c n = subst (λ z. Reads B s a (goes (token B (kind.Int v) a z ∷ []) s z)) (sym n.ends) (reads_code c (code_lexeme (lexeme n.fits (number_stands n.good))))

pub number_fails : (B : Source) (s : List Open) (a : ℕ) → IsCode s → IsBadNumberAt B a → Reads B s a (fails BadNumber a)
number_fails B s a c n = reads_code c (code_lexeme (lexeme n.fits (number_bad n.bad)))

-- Signs.
pub sign_reads : (B : Source) (s : List Open) (a b : ℕ) (x : Sign) → IsCode s → IsSignAt B a b x → (is_opening x ≡ true → depth s < 128) → Reads B s a (goes (token B (kind.Sign x) a b ∷ []) (after_sign x s) b)
sign_reads B s a b x c n d = subst (λ z. Reads B s a (goes (token B (kind.Sign x) a z ∷ []) (after_sign x s) z)) (sym n.ends) (reads_code c (code_lexeme (lexeme n.fits (sign_stands d))))

pub sign_fails : (B : Source) (s : List Open) (a b : ℕ) (x : Sign) → IsCode s → IsSignAt B a b x → is_opening x ≡ true → 128 ≤ depth s → Reads B s a (fails NestingOver128 a)
sign_fails B s a b x c n e d = reads_code c (code_lexeme (lexeme n.fits (sign_too_deep e d)))

-- Texts.
pub text_reads : (B : Source) (s : List Open) (f : Form) (t : List ℕ) (a n b : ℕ) → IsCode s → Opens B f a → IsContent B f (a + length (quotes f)) n t b → Spelled B (quotes f) b → Reads B s a (goes (token B (kind.Text t) a (b + length (quotes f)) ∷ []) s (b + length (quotes f)))
text_reads B s f t a n b c o i q = reads_code c (code_text (text_begins o i.content (text_whole q)))

pub opening_reads : (B : Source) (s : List Open) (f : Form) (t : List ℕ) (a n b : ℕ) → IsCode s → Opens B f a → IsContent B f (a + length (quotes f)) n t b → is_double f ≡ true → BeginsExpression B s b → Reads B s a (goes (token B kind.GStringOpen a (a + length (quotes f)) ∷ []) (text f a ∷ s) (a + length (quotes f)))
opening_reads B s f t a n b c o i d e = reads_code c (code_text (text_begins o i.content (text_opens d e)))

-- An expression that begins in one of its ways.
pub expression_begins : {B : Source} {s : List Open} {p : ℕ} (e : Expression) → BeginsBy B s p e → BeginsExpression B s p
expression_begins Braces b = begins_braces b.0 b.1
expression_begins Path b = begins_path b.0 b.1

pub text_fails_reads : (B : Source) (s : List Open) (f : Form) (t : List ℕ) (a n b : ℕ) (k : FaultKind) (p : ℕ) → IsCode s → Opens B f a → IsContent B f (a + length (quotes f)) n t b → TextFails B s f a b k p → Reads B s a (fails k p)
text_fails_reads B s f t a n b k p c o i e = reads_code c (code_text (text_begins o i.content (text_fails e)))

-- Nothing of the language stands where each of its beginnings is ruled out.
pub nothing_stands : (B : Source) (a : ℕ) → IsOther (B a) → (BeginsLine B a → ⊥) → (Spelled B (codes "/*") a → ⊥) → ((x : Sign) → Spelled B (sign_text x) a → ⊥) → Begins B a → ⊥
nothing_stands B a o l c s b = by b
  where
    first : {P : ℕ → Bool} {t : List ℕ} → FirstIs P t → Spelled B t a → P (B a) ≡ true
    first {P = P} (first_is x xs e) r = ap P r.0 ∙ e

    spells : {t : List ℕ} {k : TokenKind} → Spells t k → Spelled B t a → ⊥
    spells (spells_sign x) r = s x r
    spells (spells_word w) r = true≢false (sym (first (word_first w) r) ∙ o.no_letter)
    spells {t = t} (spells_name n m) r = true≢false (sym (first (name_first t n) r) ∙ o.no_letter)
    spells {t = t} (spells_number n) r = true≢false (sym (first (number_first t n) r) ∙ o.no_digit)

    by : Begins B a → ⊥
    by (begins_blank e) = true≢false (sym e ∙ o.no_blank)
    by (begins_newline e) = o.no_newline e
    by (begins_line e) = l e
    by (begins_comment e) = c e
    by (begins_lexeme p r) = spells p r
    by (begins_text f r) = ⊎_elim (λ e. o.no_single (quote_first B f a r ∙ e)) (λ e. o.no_double (quote_first B f a r ∙ e)) (quote_cases f)
