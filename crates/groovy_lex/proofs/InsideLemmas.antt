-- What the lexer found in a text with expressions, as what stands there.
use Rattle.std.proofs.Common.{◌≡◌, ℕ, ◌+◌, ◌<◌, ◌≤◌, List, [], ◌∷◌, ◌++◌, length, refl, sym, ap, subst, ◌∙◌, arith, true, append_assoc}
use Rattle.std.specs.Prelude.{codes}
use Rattle.model_syntax.specs.declared.fault.FaultKind.{FaultKind}
use Rattle.model_syntax.specs.declared.sign.Sign.TheVariants.{Dot}
use Rattle.model_syntax.specs.declared.token.TokenKind.{TokenKind}
use Rattle.model_syntax.specs.declared.token.TokenKind.TheVariants as kind
use Rattle.model_syntax.specs.declared.token.Token.{Token}
use Rattle.model_syntax.specs.Source.{Source, Spelled}
use Rattle.model_syntax.specs.Spelling.{is_letter}
use Rattle.model_syntax.specs.TextForms.{Form, quotes, is_double}
use Rattle.model_syntax.specs.OpenBrackets.{Open, expression, text, depth, closed}
use Rattle.model_syntax.specs.Reading.{Outcome, goes, fails, token, part, TextFails, fails_at_end, fails_at_newline, fails_at_backslash, fails_at_dollar, fails_too_deep, fails_not_utf8, Path, path_ends, path_more, InText, in_part, in_closing, in_braces, in_path, in_fault, Reads, reads_text}
use Rattle.std.proofs.lemmas.Bool.{eqb-true}
use Rattle.model_syntax.proofs.SpellingLemmas.{either, in_range}
use Rattle.groovy_lex.specs.Names.{IsNameAt}
use Rattle.groovy_lex.specs.Contents.{IsContent}
use Rattle.groovy_lex.specs.Paths.{IsOn, IsPath}

-- What is open around a text has as many brackets.
around : (s : List Open) (f : Form) (o : ℕ) → s ≡ text f o ∷ closed s → depth s ≡ depth (closed s)
unfolding depth
around s f o e = let k : depth s ≡ depth (text f o ∷ closed s) = ap depth e in k

fails_around : {B : Source} {s u : List Open} {f : Form} {o p q : ℕ} {k : FaultKind} → depth s ≡ depth u → TextFails B s f o p k q → TextFails B u f o p k q
fails_around d (fails_at_end b e) = fails_at_end b e
fails_around d (fails_not_utf8 b n) = fails_not_utf8 b n
fails_around d (fails_at_newline e t) = fails_at_newline e t
fails_around d (fails_at_backslash e n c) = fails_at_backslash e n c
fails_around d (fails_at_dollar e w n l c) = fails_at_dollar e w n l c
fails_around d (fails_too_deep r w l) = fails_too_deep r w (omega (arith, d, l))

inside_reads : (B : Source) (s : List Open) (f : Form) (o a : ℕ) (x : Outcome) → s ≡ text f o ∷ closed s → InText B (closed s) f o a x → Reads B s a x
inside_reads B s f o a x e i = subst (λ z. Reads B z a x) (sym e) (reads_text i)

pub inside_fails : (B : Source) (s : List Open) (f : Form) (o a : ℕ) (k : FaultKind) (q : ℕ) → s ≡ text f o ∷ closed s → TextFails B s f o a k q → Reads B s a (fails k q)
inside_fails B s f o a k q e t = inside_reads B s f o a (fails k q) e (in_fault (fails_around (around s f o e) t))

pub closing_reads : (B : Source) (s u : List Open) (f : Form) (o a : ℕ) → s ≡ text f o ∷ closed s → Spelled B (quotes f) a → u ≡ closed s → Reads B s a (goes (token B kind.GStringClose a (a + length (quotes f)) ∷ []) u (a + length (quotes f)))
closing_reads B s u f o a e q v = subst (λ z. Reads B s a (goes (token B kind.GStringClose a (a + length (quotes f)) ∷ []) z (a + length (quotes f)))) (sym v) (inside_reads B s f o a _ e (in_closing q))

pub braces_reads : (B : Source) (s u : List Open) (f : Form) (o a : ℕ) → s ≡ text f o ∷ closed s → is_double f ≡ true → Spelled B (codes "${") a → depth s < 128 → u ≡ expression ∷ s → Reads B s a (goes (token B kind.ExpressionOpen a (a + 2) ∷ []) u (a + 2))
braces_reads B s u f o a e d q l v = subst (λ z. Reads B s a (goes (token B kind.ExpressionOpen a (a + 2) ∷ []) z (a + 2))) (sym (v ∙ ap (λ z. expression ∷ z) e)) (inside_reads B s f o a _ e (in_braces d q (omega (arith, l, around s f o e))))

pub path_reads : (B : Source) (s : List Open) (f : Form) (o a : ℕ) → s ≡ text f o ∷ closed s → is_double f ≡ true → B a ≡ 36 → (ts : List Token) (m : ℕ) → Path B ts (a + 1) m → Reads B s a (goes (token B kind.PathOpen a (a + 1) ∷ ts) s m)
path_reads B s f o a e d q ts m p = subst (λ z. Reads B s a (goes (token B kind.PathOpen a (a + 1) ∷ ts) z m)) (sym e) (inside_reads B s f o a _ e (in_path d q p))

pub part_reads : (B : Source) (n : ℕ) (s : List Open) (f : Form) (o a m : ℕ) (t : List ℕ) → s ≡ text f o ∷ closed s → IsContent B f a n t m → a < m → Reads B s a (goes (part B t a m) s m)
part_reads B n s f o a m t e i l = subst (λ z. Reads B s a (goes (part B t a m) z m)) (sym e) (inside_reads B s f o a _ e (in_part l i.content i.stops))

-- A part that stands for something is a token.
pub part_some : (B : Source) (t : List ℕ) (a b : ℕ) → (t ≡ [] → ⊥) → part B t a b ≡ token B (kind.GStringPart t) a b ∷ []
part_some B [] a b n = absurd (n refl)
part_some B (c ∷ t) a b n = refl

-- The names that were read so far, put before those that follow.
abbrev pub SoFar : Source → ℕ → List Token → List Token → ℕ → Type 0
SoFar B from old read at = (us : List Token) (b : ℕ) → Path B us at b → (ts : List Token) × (Path B ts from b × (read ++ us ≡ old ++ ts))

pub path_last : (B : Source) (n from a b : ℕ) (k : TokenKind) (old read new : List Token) → SoFar B from old read a → is_letter (B a) ≡ true → IsNameAt B a b k → (IsOn B b → ⊥) → new ≡ read ++ token B k a b ∷ [] → from ≤ a → a < b → b ≤ n → IsPath B n from old new b
path_last B n from a b k old read new s l i o h f g j = by (s (token B k a b ∷ []) b ends)
  where
    ends : Path B (token B k a b ∷ []) a b
    ends = subst (λ z. Path B (token B k a z ∷ []) a z) (sym i.ends) (path_ends l i.fits (subst (λ z. IsOn B z → ⊥) i.ends o))

    by : (ts : List Token) × (Path B ts from b × (read ++ token B k a b ∷ [] ≡ old ++ ts)) → IsPath B n from old new b
    by r = record { found = r.0; path = r.1.0; longer = h ∙ r.1.1; forward = omega (arith, f, g); inside = j }

pub path_further : (B : Source) (from a b : ℕ) (k : TokenKind) (old read named new : List Token) → SoFar B from old read a → is_letter (B a) ≡ true → IsNameAt B a b k → IsOn B b → named ≡ read ++ token B k a b ∷ [] → new ≡ named ++ token B (kind.Sign Dot) b (b + 1) ∷ [] → SoFar B from old new (b + 1)
path_further B from a b k old read named new s l i o h g us e p = by (s (token B k a b ∷ token B (kind.Sign Dot) b (b + 1) ∷ us) e more)
  where
    more : Path B (token B k a b ∷ token B (kind.Sign Dot) b (b + 1) ∷ us) a e
    more = subst (λ z. Path B us (z + 1) e → Path B (token B k a z ∷ token B (kind.Sign Dot) z (z + 1) ∷ us) a e) (sym i.ends) (λ q. path_more l i.fits (subst (λ z. B z ≡ 46) i.ends o.0) (subst (λ z. is_letter (B (z + 1)) ≡ true) i.ends o.1) q) p

    same : new ++ us ≡ read ++ (token B k a b ∷ token B (kind.Sign Dot) b (b + 1) ∷ us)
    same = ap (λ z. z ++ us) g ∙ append_assoc named (token B (kind.Sign Dot) b (b + 1) ∷ []) us ∙ ap (λ z. z ++ (token B (kind.Sign Dot) b (b + 1) ∷ us)) h ∙ append_assoc read (token B k a b ∷ []) (token B (kind.Sign Dot) b (b + 1) ∷ us)

    by : (ts : List Token) × (Path B ts from e × (read ++ (token B k a b ∷ token B (kind.Sign Dot) b (b + 1) ∷ us) ≡ old ++ ts)) → (ts : List Token) × (Path B ts from e × (new ++ us ≡ old ++ ts))
    by r = (r.0, (r.1.0, same ∙ r.1.1))

-- A letter is a byte.
pub letter_low : (b : ℕ) → is_letter b ≡ true → b < 256
letter_low b e = either _ _
    (λ l. either _ _ (λ k. let r = in_range 65 90 b k in omega (arith, r.1)) (λ k. let r = in_range 97 122 b k in omega (arith, r.1)) l)
    (λ k. let r = eqb-true b 95 k in omega (arith, r)) e
