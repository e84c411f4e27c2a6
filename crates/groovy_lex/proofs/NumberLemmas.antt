-- Numbers that stand at a place.
use Rattle.std.proofs.Common.{◌≡◌, ℕ, suc, ◌+◌, ◌-◌, ◌*◌, ◌<◌, ◌≤◌, List, [], ◌∷◌, ◌++◌, length, take, drop, get_or, refl, sym, ap, subst, ◌∙◌, arith, true, false, pos, ℤ, ⊎_elim}
use Rattle.std.specs.Prelude.{All}
use Rattle.std.specs.Char.{digit_value, is_ascii_digit}
use Rattle.std.specs.Str.Parse.{IsNumeral, AllDigits, digits_value, digits_value_after}
use Rattle.std.proofs.lemmas.List.{take_more, take-append-drop}
use Rattle.std.proofs.lemmas.Bool.{cases_lt, ne_eqb}
use Rattle.std.proofs.lemmas.Bool.Decides.{nat_tests}
use Rattle.model_syntax.specs.declared.token.TokenKind.TheVariants as kind
use Rattle.model_syntax.specs.Source.{Source, byte_at, Spelled}
use Rattle.model_syntax.specs.Spelling.{is_letter, spells_number, Fits, IsBadNumber, bad_large, bad_zero, bad_letter, bad_fraction}
use Rattle.model_syntax.proofs.StepLemmas.{longest_number, leads_zero, good_number}
use Rattle.model_syntax.proofs.SpellingLemmas.{in_range, digit-value}
use Rattle.groovy_lex.specs.Names.{Run}
use Rattle.groovy_lex.specs.Numbers.{IsNumberAt, IsBadNumberAt}
use Rattle.groovy_lex.proofs.SpelledLemmas.{slice, slice_length, slice_stands, run_all}
use Rattle.groovy_lex.proofs.NameLemmas.{run_some}

digit_is_by : (c : ℕ) → 48 ≤ c → c ≤ 57 → digit_value c ≡ c - 48
digit_is_by c h l = grind (arith, nat_tests)

pub digit_is : (c : ℕ) → is_ascii_digit c ≡ true → digit_value c ≡ c - 48
digit_is c e = let k = in_range 48 57 c e in digit_is_by c k.0 k.1

pub digit_low : (c : ℕ) → is_ascii_digit c ≡ true → digit_value c < 10
digit_low c e = let k = in_range 48 57 c e in omega (arith, digit_is c e, k.0, k.1)

all_digits : (xs : List ℕ) → All (λ c. is_ascii_digit c ≡ true) xs → AllDigits 10 xs
all_digits [] p = tt
all_digits (x ∷ xs) p = (digit_low x (p 0 0 (omega arith)), all_digits xs (λ k d h. p (suc k) d (omega (arith, h))))

digits_snoc : (n c : ℕ) (xs : List ℕ) → digits_value_after 10 n (xs ++ c ∷ []) ≡ digits_value_after 10 n xs * 10 + digit_value c
digits_snoc n c [] = refl
digits_snoc n c (x ∷ xs) = digits_snoc (n * 10 + digit_value x) c xs

digits_grow : (n : ℕ) (xs : List ℕ) → n ≤ digits_value_after 10 n xs
digits_grow n [] = omega arith
digits_grow n (x ∷ xs) = omega (arith, digits_grow (n * 10 + digit_value x) xs)

digits_append : (n : ℕ) (xs ys : List ℕ) → digits_value_after 10 n (xs ++ ys) ≡ digits_value_after 10 (digits_value_after 10 n xs) ys
digits_append n [] ys = refl
digits_append n (x ∷ xs) ys = digits_append (n * 10 + digit_value x) xs ys

-- One more digit.
pub digits_more : (xs : List ℕ) (i : ℕ) → All (λ c. is_ascii_digit c ≡ true) xs → i < length xs → digits_value 10 (take (i + 1) xs) ≡ 10 * digits_value 10 (take i xs) + (get_or xs i 0 - 48)
digits_more xs i p h = ap (digits_value 10) (take_more xs i 0 h) ∙ digits_snoc 0 (get_or xs i 0) (take i xs) ∙ omega (arith, digit_is (get_or xs i 0) (p i 0 h))

-- The first digits are no larger number.
pub digits_front : (xs : List ℕ) (i : ℕ) → digits_value 10 (take i xs) ≤ digits_value 10 xs
digits_front xs i = omega (arith, digits_grow (digits_value 10 (take i xs)) (drop i xs), digits_append 0 (take i xs) (drop i xs), ap (digits_value 10) (take-append-drop i xs))

-- The digits that stand at a place.
pub record Digits (bytes : List ℕ) (a b : ℕ) : Type 0 where
  pub numeral : IsNumeral 10 (slice bytes a b)
  pub each : All (λ c. is_ascii_digit c ≡ true) (slice bytes a b)
  pub stands : Spelled (byte_at bytes) (slice bytes a b) a
  pub size : a + length (slice bytes a b) ≡ b
  pub fits : Fits (byte_at bytes) (slice bytes a b) (kind.Int (pos (digits_value 10 (slice bytes a b)))) a

pub digits_at : (bytes : List ℕ) (a b : ℕ) → Run is_ascii_digit (byte_at bytes) a b → b ≤ length bytes → is_ascii_digit (byte_at bytes a) ≡ true → Digits bytes a b
digits_at bytes a b r l e = record { numeral = is_numeral; each = all; stands = there; size = full; fits = record { spells = spells_number is_numeral; stands = there; longest = longest_number B t a is_numeral there (ap (λ z. is_ascii_digit (B z)) full ∙ r.stops) } }
  where
    B : Source
    B = byte_at bytes

    t : List ℕ
    t = slice bytes a b

    full : a + length t ≡ b
    full = omega (arith, slice_length bytes a b r.forward l, r.forward)

    there : Spelled B t a
    there = slice_stands bytes a b r.forward l

    all : All (λ c. is_ascii_digit c ≡ true) t
    all = run_all is_ascii_digit B t a there (λ k h g. r.passes k h (omega (arith, g, full)))

    is_numeral : IsNumeral 10 t
    is_numeral = (omega (arith, full, run_some r e), all_digits t all)

-- A number that is refused.
bad : (bytes : List ℕ) (a b : ℕ) → Digits bytes a b → IsBadNumber (byte_at bytes) (slice bytes a b) b → IsBadNumberAt (byte_at bytes) a
bad bytes a b d h = record { text = slice bytes a b; value = _; fits = d.fits; bad = subst (λ z. IsBadNumber (byte_at bytes) (slice bytes a b) z) (sym d.size) h }

pub number_large : (bytes : List ℕ) (a b : ℕ) → Digits bytes a b → 2147483647 < digits_value 10 (slice bytes a b) → IsBadNumberAt (byte_at bytes) a
number_large bytes a b d h = bad bytes a b d (bad_large h)

pub number_letter : (bytes : List ℕ) (a b : ℕ) → Digits bytes a b → is_letter (byte_at bytes b) ≡ true → IsBadNumberAt (byte_at bytes) a
number_letter bytes a b d h = bad bytes a b d (bad_letter h)

pub number_fraction : (bytes : List ℕ) (a b : ℕ) → Digits bytes a b → byte_at bytes b ≡ 46 → is_ascii_digit (byte_at bytes (b + 1)) ≡ true → IsBadNumberAt (byte_at bytes) a
number_fraction bytes a b d h e = bad bytes a b d (bad_fraction h (digit_low (byte_at bytes (b + 1)) e))

zero_bad : (B : Source) (t : List ℕ) (a b : ℕ) → Spelled B t a → B a ≡ 48 → 2 ≤ length t → IsBadNumber B t b
zero_bad B [] a b s e h = absurd (let c : ⊥ = omega (arith, h) in c)
zero_bad B (x ∷ []) a b s e h = absurd (let c : ⊥ = omega (arith, h) in c)
zero_bad B (x ∷ y ∷ t) a b s e h = subst (λ z. IsBadNumber B (z ∷ y ∷ t) b) (sym (sym s.0 ∙ e)) bad_zero

pub number_zero : (bytes : List ℕ) (a b : ℕ) → Digits bytes a b → byte_at bytes a ≡ 48 → a + 1 < b → IsBadNumberAt (byte_at bytes) a
number_zero bytes a b d e h = bad bytes a b d (zero_bad (byte_at bytes) (slice bytes a b) a b d.stands e (omega (arith, d.size, h)))

no_zero : (B : Source) (t : List ℕ) (a : ℕ) → Spelled B t a → (B a ≡ 48 → 2 ≤ length t → ⊥) → leads_zero t ≡ false
unfolding leads_zero
no_zero B [] a s n = refl
no_zero B (x ∷ []) a s n = refl
no_zero B (x ∷ y ∷ t) a s n = ne_eqb x 48 (λ e. n (s.0 ∙ e) (omega arith))

no_digit : (b : ℕ) → (is_ascii_digit b ≡ true → ⊥) → 10 ≤ digit_value b
no_digit b n = ⊎_elim (λ h. absurd (n (digit-value b h))) (λ h. h) (cases_lt (digit_value b) 10)

-- A number that is taken.
pub number_taken : (bytes : List ℕ) (a b : ℕ) (v : ℤ) → Digits bytes a b → v ≡ pos (digits_value 10 (slice bytes a b)) → digits_value 10 (slice bytes a b) ≤ 2147483647 → ((byte_at bytes a ≡ 48) × (a + 1 < b) → ⊥) → is_letter (byte_at bytes b) ≡ false → ((byte_at bytes b ≡ 46) × (is_ascii_digit (byte_at bytes (b + 1)) ≡ true) → ⊥) → IsNumberAt (byte_at bytes) a b v
number_taken bytes a b v d e l z m f = record {
  text = t;
  fits = subst (λ x. Fits B t (kind.Int x) a) (sym e) d.fits;
  ends = sym d.size;
  value = e;
  small = l;
  good = subst (λ x. IsBadNumber B t x → ⊥) (sym d.size) (good_number B t b l (no_zero B t a d.stands (λ p q. z (p, omega (arith, q, d.size)))) m (λ p. no_digit (B (b + 1)) (λ q. f (p, q))));
}
  where
    B : Source
    B = byte_at bytes

    t : List ℕ
    t = slice bytes a b
