-- Names and words that stand at a place.
use Rattle.std.proofs.Common.{◌≡◌, ℕ, suc, ◌+◌, ◌<◌, ◌≤◌, List, [], ◌∷◌, length, sym, ap, subst, ◌∙◌, arith, Bool, true}
use Rattle.std.specs.Prelude.{All}
use Rattle.model_syntax.specs.declared.token.TokenKind.{TokenKind}
use Rattle.model_syntax.specs.declared.token.TokenKind.TheVariants as kind
use Rattle.model_syntax.specs.Source.{Source, byte_at, Spelled}
use Rattle.model_syntax.specs.Spelling.{is_letter, is_name_byte, IsName, Spells, spells_word, spells_name}
use Rattle.model_syntax.proofs.SpellingLemmas.{name_first}
use Rattle.model_syntax.proofs.StepLemmas.{longest_name}
use Rattle.std.proofs.lemmas.Bool.{or_left, true≢false}
use Rattle.groovy_lex.specs.Names.{Run, IsNameKind, IsNameAt}
use Rattle.groovy_lex.proofs.SpelledLemmas.{slice, slice_length, slice_stands, run_all}

-- A run whose first byte passes is not empty.
pub run_some : {P : ℕ → Bool} {B : Source} {a b : ℕ} → Run P B a b → P (B a) ≡ true → a < b
run_some {P = P} {B = B} {a = a} {b = b} r e = omega (arith, r.forward, λ (k : a ≡ b). true≢false (sym e ∙ ap (λ z. P (B z)) k ∙ r.stops))

name_from : (B : Source) (xs : List ℕ) (a : ℕ) → 0 < length xs → Spelled B xs a → is_letter (B a) ≡ true → All (λ c. is_name_byte c ≡ true) xs → IsName xs
name_from B [] a h s l p = absurd (let c : ⊥ = omega (arith, h) in c)
name_from B (x ∷ xs) a h s l p = (ap is_letter (sym s.0) ∙ l, λ k d g. p (suc k) d (omega (arith, g)))

-- What a run of letters, digits and `_` is, where it begins with a letter.
pub name_fits : (bytes : List ℕ) (a b : ℕ) (k : TokenKind) → Run is_name_byte (byte_at bytes) a b → b ≤ length bytes → is_letter (byte_at bytes a) ≡ true → IsNameKind (slice bytes a b) k → IsNameAt (byte_at bytes) a b k
name_fits bytes a b k r l e n = by k n
  where
    B : Source
    B = byte_at bytes

    t : List ℕ
    t = slice bytes a b

    size : a + length t ≡ b
    size = omega (arith, slice_length bytes a b r.forward l, r.forward)

    some : a < b
    some = run_some r (or_left _ _ e)

    stands : Spelled B t a
    stands = slice_stands bytes a b r.forward l

    is_name : IsName t
    is_name = name_from B t a (omega (arith, size, some)) stands e (run_all is_name_byte B t a stands (λ k h g. r.passes k h (omega (arith, g, size))))

    longest : (u : List ℕ) (j : TokenKind) → Spells u j → Spelled B u a → length u ≤ length t
    longest = longest_name B t a (name_first t is_name) stands (ap (λ z. is_name_byte (B z)) size ∙ r.stops)

    by : (k : TokenKind) → IsNameKind t k → IsNameAt B a b k
    by (kind.Word w) n = record { text = t; fits = record { spells = subst (λ z. Spells z (kind.Word w)) (sym n) (spells_word w); stands = stands; longest = longest }; ends = sym size; name = n }
    by (kind.Name m) n = record { text = t; fits = record { spells = subst (λ z. Spells t (kind.Name z)) (sym n.0) (spells_name is_name n.1); stands = stands; longest = longest }; ends = sym size; name = n }
    by j n = absurd n
