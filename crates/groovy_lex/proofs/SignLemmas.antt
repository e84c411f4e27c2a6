-- Which sign stands at a place.
use Rattle.std.proofs.Common.{◌≡◌, ℕ, ◌+◌, ◌≤◌, inl, inr, List, [], ◌∷◌, length, refl, sym, ap, subst, ◌∙◌, arith, Bool, true, false, Option, Some, None, ◌==◌, ◌&&◌}
use Rattle.std.specs.Prelude.{if◌then◌else◌}
use Rattle.std.proofs.lemmas.Bool.{eqb-true}
use Rattle.model_syntax.specs.declared.sign.Sign.{Sign}
use Rattle.model_syntax.specs.declared.sign.Sign.TheVariants as sign
use Rattle.model_syntax.specs.Source.{Source, byte_at, Spelled}
use Rattle.model_syntax.specs.Spelling.{sign_text, spells_sign}
use Rattle.std.proofs.lemmas.Bool.Decides.{nat_tests}
use Rattle.model_syntax.proofs.SpellingLemmas.{both}
use Rattle.model_syntax.proofs.StepLemmas.{is_pair, longest_sign}
use Rattle.groovy_lex.proofs.SpelledLemmas.{AreBytes, spelled_inside}
use Rattle.groovy_lex.specs.Signs.{pair_sign, single_sign, IsSignAt}

-- What a table of signs gives is what its rows give.
Two : ℕ → ℕ → Option Sign → Type 0
Two b c o = (x : Sign) → o ≡ Some x → sign_text x ≡ b ∷ c ∷ []

One : ℕ → Option Sign → Type 0
One b o = (x : Sign) → o ≡ Some x → sign_text x ≡ b ∷ []

two_none : (b c : ℕ) → Two b c None
unfolding Two
two_none b c x e = absurd (cc)

two_row : (b c n m : ℕ) (y : Sign) (o : Option Sign) → sign_text y ≡ n ∷ m ∷ [] → Two b c o → Two b c (if (b == n) && (c == m) then Some y else o)
unfolding Two
two_row b c n m y o t r = by ((b == n) && (c == m)) refl
  where
    by : (k : Bool) → (b == n) && (c == m) ≡ k → (x : Sign) → (if k then Some y else o) ≡ Some x → sign_text x ≡ b ∷ c ∷ []
    by true d x e = let k = both (b == n) (c == m) d in let l : y ≡ x = cc in ap sign_text (sym l) ∙ t ∙ ap (λ z. z ∷ m ∷ []) (sym (eqb-true b n k.0)) ∙ ap (λ z. b ∷ z ∷ []) (sym (eqb-true c m k.1))
    by false d x e = r x e

one_none : (b : ℕ) → One b None
unfolding One
one_none b x e = absurd (cc)

one_row : (b n : ℕ) (y : Sign) (o : Option Sign) → sign_text y ≡ n ∷ [] → One b o → One b (if b == n then Some y else o)
unfolding One
one_row b n y o t r = by (b == n) refl
  where
    by : (k : Bool) → b == n ≡ k → (x : Sign) → (if k then Some y else o) ≡ Some x → sign_text x ≡ b ∷ []
    by true d x e = let l : y ≡ x = cc in ap sign_text (sym l) ∙ t ∙ ap (λ z. z ∷ []) (sym (eqb-true b n d))
    by false d x e = r x e

pair_sign-two : (b c : ℕ) → Two b c (pair_sign b c)
unfolding pair_sign
pair_sign-two b c = two_row b c 43 61 sign.PlusAssign _ refl (two_row b c 45 61 sign.MinusAssign _ refl (two_row b c 42 61 sign.TimesAssign _ refl (two_row b c 37 61 sign.ModAssign _ refl (two_row b c 61 61 sign.Equal _ refl (two_row b c 33 61 sign.NotEqual _ refl (two_row b c 60 61 sign.LessEqual _ refl (two_row b c 62 61 sign.GreaterEqual _ refl (two_row b c 63 58 sign.Elvis _ refl (two_row b c 63 46 sign.SafeDot _ refl (two_row b c 46 46 sign.Range _ refl (two_row b c 45 62 sign.Arrow _ refl (two_row b c 43 43 sign.Increment _ refl (two_row b c 45 45 sign.Decrement _ refl (two_row b c 124 124 sign.Or _ refl (two_row b c 38 38 sign.And _ refl (two_none b c))))))))))))))))

single_sign-one : (b : ℕ) → One b (single_sign b)
unfolding single_sign
single_sign-one b = one_row b 40 sign.ParenOpen _ refl (one_row b 41 sign.ParenClose _ refl (one_row b 91 sign.BracketOpen _ refl (one_row b 93 sign.BracketClose _ refl (one_row b 123 sign.BraceOpen _ refl (one_row b 125 sign.BraceClose _ refl (one_row b 44 sign.Comma _ refl (one_row b 59 sign.Semicolon _ refl (one_row b 58 sign.Colon _ refl (one_row b 63 sign.Question _ refl (one_row b 46 sign.Dot _ refl (one_row b 61 sign.Assign _ refl (one_row b 60 sign.Less _ refl (one_row b 62 sign.Greater _ refl (one_row b 43 sign.Plus _ refl (one_row b 45 sign.Minus _ refl (one_row b 42 sign.Times _ refl (one_row b 37 sign.Mod _ refl (one_row b 33 sign.Not _ refl (one_none b)))))))))))))))))))

-- Where no table has a sign none stands.
missed : {x : Sign} (o p : Option Sign) → o ≡ None → o ≡ p → p ≡ Some x → ⊥
missed {x = x} o p n e s = let k : None ≡ Some x = sym n ∙ e ∙ s in cc

pub no_sign : (B : Source) (a : ℕ) → pair_sign (B a) (B (a + 1)) ≡ None → single_sign (B a) ≡ None → (x : Sign) → Spelled B (sign_text x) a → ⊥
unfolding pair_sign single_sign
no_sign B a p s sign.ParenOpen r = missed _ (single_sign 40) s (ap single_sign r.0) refl
no_sign B a p s sign.ParenClose r = missed _ (single_sign 41) s (ap single_sign r.0) refl
no_sign B a p s sign.BracketOpen r = missed _ (single_sign 91) s (ap single_sign r.0) refl
no_sign B a p s sign.BracketClose r = missed _ (single_sign 93) s (ap single_sign r.0) refl
no_sign B a p s sign.BraceOpen r = missed _ (single_sign 123) s (ap single_sign r.0) refl
no_sign B a p s sign.BraceClose r = missed _ (single_sign 125) s (ap single_sign r.0) refl
no_sign B a p s sign.Comma r = missed _ (single_sign 44) s (ap single_sign r.0) refl
no_sign B a p s sign.Semicolon r = missed _ (single_sign 59) s (ap single_sign r.0) refl
no_sign B a p s sign.Colon r = missed _ (single_sign 58) s (ap single_sign r.0) refl
no_sign B a p s sign.Question r = missed _ (single_sign 63) s (ap single_sign r.0) refl
no_sign B a p s sign.Elvis r = missed _ (pair_sign 63 58) p (ap (λ z. pair_sign z (B (a + 1))) r.0 ∙ ap (pair_sign 63) r.1.0) refl
no_sign B a p s sign.Dot r = missed _ (single_sign 46) s (ap single_sign r.0) refl
no_sign B a p s sign.SafeDot r = missed _ (pair_sign 63 46) p (ap (λ z. pair_sign z (B (a + 1))) r.0 ∙ ap (pair_sign 63) r.1.0) refl
no_sign B a p s sign.Range r = missed _ (pair_sign 46 46) p (ap (λ z. pair_sign z (B (a + 1))) r.0 ∙ ap (pair_sign 46) r.1.0) refl
no_sign B a p s sign.Arrow r = missed _ (pair_sign 45 62) p (ap (λ z. pair_sign z (B (a + 1))) r.0 ∙ ap (pair_sign 45) r.1.0) refl
no_sign B a p s sign.Assign r = missed _ (single_sign 61) s (ap single_sign r.0) refl
no_sign B a p s sign.PlusAssign r = missed _ (pair_sign 43 61) p (ap (λ z. pair_sign z (B (a + 1))) r.0 ∙ ap (pair_sign 43) r.1.0) refl
no_sign B a p s sign.MinusAssign r = missed _ (pair_sign 45 61) p (ap (λ z. pair_sign z (B (a + 1))) r.0 ∙ ap (pair_sign 45) r.1.0) refl
no_sign B a p s sign.TimesAssign r = missed _ (pair_sign 42 61) p (ap (λ z. pair_sign z (B (a + 1))) r.0 ∙ ap (pair_sign 42) r.1.0) refl
no_sign B a p s sign.ModAssign r = missed _ (pair_sign 37 61) p (ap (λ z. pair_sign z (B (a + 1))) r.0 ∙ ap (pair_sign 37) r.1.0) refl
no_sign B a p s sign.Increment r = missed _ (pair_sign 43 43) p (ap (λ z. pair_sign z (B (a + 1))) r.0 ∙ ap (pair_sign 43) r.1.0) refl
no_sign B a p s sign.Decrement r = missed _ (pair_sign 45 45) p (ap (λ z. pair_sign z (B (a + 1))) r.0 ∙ ap (pair_sign 45) r.1.0) refl
no_sign B a p s sign.Or r = missed _ (pair_sign 124 124) p (ap (λ z. pair_sign z (B (a + 1))) r.0 ∙ ap (pair_sign 124) r.1.0) refl
no_sign B a p s sign.And r = missed _ (pair_sign 38 38) p (ap (λ z. pair_sign z (B (a + 1))) r.0 ∙ ap (pair_sign 38) r.1.0) refl
no_sign B a p s sign.Equal r = missed _ (pair_sign 61 61) p (ap (λ z. pair_sign z (B (a + 1))) r.0 ∙ ap (pair_sign 61) r.1.0) refl
no_sign B a p s sign.NotEqual r = missed _ (pair_sign 33 61) p (ap (λ z. pair_sign z (B (a + 1))) r.0 ∙ ap (pair_sign 33) r.1.0) refl
no_sign B a p s sign.Less r = missed _ (single_sign 60) s (ap single_sign r.0) refl
no_sign B a p s sign.LessEqual r = missed _ (pair_sign 60 61) p (ap (λ z. pair_sign z (B (a + 1))) r.0 ∙ ap (pair_sign 60) r.1.0) refl
no_sign B a p s sign.Greater r = missed _ (single_sign 62) s (ap single_sign r.0) refl
no_sign B a p s sign.GreaterEqual r = missed _ (pair_sign 62 61) p (ap (λ z. pair_sign z (B (a + 1))) r.0 ∙ ap (pair_sign 62) r.1.0) refl
no_sign B a p s sign.Plus r = missed _ (single_sign 43) s (ap single_sign r.0) refl
no_sign B a p s sign.Minus r = missed _ (single_sign 45) s (ap single_sign r.0) refl
no_sign B a p s sign.Times r = missed _ (single_sign 42) s (ap single_sign r.0) refl
no_sign B a p s sign.Mod r = missed _ (single_sign 37) s (ap single_sign r.0) refl
no_sign B a p s sign.Not r = missed _ (single_sign 33) s (ap single_sign r.0) refl

pub no_pair : (b c : ℕ) → pair_sign b c ≡ None → is_pair b c ≡ false
unfolding is_pair pair_sign
no_pair b c p = grind (arith, nat_tests)

-- A sign of two bytes that stands is the longest, and so is one of one byte where no sign of two bytes stands.
pub pair_stands : (B : Source) (a : ℕ) (x : Sign) → pair_sign (B a) (B (a + 1)) ≡ Some x → IsSignAt B a (a + 2) x
unfolding Two
pair_stands B a x e = by (pair_sign-two (B a) (B (a + 1)) x e)
  where
    by : sign_text x ≡ B a ∷ B (a + 1) ∷ [] → IsSignAt B a (a + 2) x
    by t =
        let n : length (sign_text x) ≡ 2 = ap length t in
        let s : Spelled B (sign_text x) a = subst (λ z. Spelled B z a) (sym t) (refl, (refl, tt)) in
        record { fits = record { spells = spells_sign x; stands = s; longest = longest_sign B x a s (inl n) }; ends = omega (arith, n) }

pub single_stands : (B : Source) (a : ℕ) (x : Sign) → pair_sign (B a) (B (a + 1)) ≡ None → single_sign (B a) ≡ Some x → IsSignAt B a (a + 1) x
unfolding One
single_stands B a x p e = by (single_sign-one (B a) x e)
  where
    by : sign_text x ≡ B a ∷ [] → IsSignAt B a (a + 1) x
    by t =
        let n : length (sign_text x) ≡ 1 = ap length t in
        let s : Spelled B (sign_text x) a = subst (λ z. Spelled B z a) (sym t) (refl, tt) in
        record { fits = record { spells = spells_sign x; stands = s; longest = longest_sign B x a s (inr (no_pair (B a) (B (a + 1)) p)) }; ends = omega (arith, n) }

-- The bytes of signs.
sign_bytes_low : (x : Sign) → AreBytes (sign_text x)
sign_bytes_low sign.ParenOpen = (omega arith, tt)
sign_bytes_low sign.ParenClose = (omega arith, tt)
sign_bytes_low sign.BracketOpen = (omega arith, tt)
sign_bytes_low sign.BracketClose = (omega arith, tt)
sign_bytes_low sign.BraceOpen = (omega arith, tt)
sign_bytes_low sign.BraceClose = (omega arith, tt)
sign_bytes_low sign.Comma = (omega arith, tt)
sign_bytes_low sign.Semicolon = (omega arith, tt)
sign_bytes_low sign.Colon = (omega arith, tt)
sign_bytes_low sign.Question = (omega arith, tt)
sign_bytes_low sign.Elvis = (omega arith, (omega arith, tt))
sign_bytes_low sign.Dot = (omega arith, tt)
sign_bytes_low sign.SafeDot = (omega arith, (omega arith, tt))
sign_bytes_low sign.Range = (omega arith, (omega arith, tt))
sign_bytes_low sign.Arrow = (omega arith, (omega arith, tt))
sign_bytes_low sign.Assign = (omega arith, tt)
sign_bytes_low sign.PlusAssign = (omega arith, (omega arith, tt))
sign_bytes_low sign.MinusAssign = (omega arith, (omega arith, tt))
sign_bytes_low sign.TimesAssign = (omega arith, (omega arith, tt))
sign_bytes_low sign.ModAssign = (omega arith, (omega arith, tt))
sign_bytes_low sign.Increment = (omega arith, (omega arith, tt))
sign_bytes_low sign.Decrement = (omega arith, (omega arith, tt))
sign_bytes_low sign.Or = (omega arith, (omega arith, tt))
sign_bytes_low sign.And = (omega arith, (omega arith, tt))
sign_bytes_low sign.Equal = (omega arith, (omega arith, tt))
sign_bytes_low sign.NotEqual = (omega arith, (omega arith, tt))
sign_bytes_low sign.Less = (omega arith, tt)
sign_bytes_low sign.LessEqual = (omega arith, (omega arith, tt))
sign_bytes_low sign.Greater = (omega arith, tt)
sign_bytes_low sign.GreaterEqual = (omega arith, (omega arith, tt))
sign_bytes_low sign.Plus = (omega arith, tt)
sign_bytes_low sign.Minus = (omega arith, tt)
sign_bytes_low sign.Times = (omega arith, tt)
sign_bytes_low sign.Mod = (omega arith, tt)
sign_bytes_low sign.Not = (omega arith, tt)

-- Behind the last byte stands no second one.
pub pair_none : (b : ℕ) → pair_sign b 256 ≡ None
unfolding Two
pair_none b = by (pair_sign b 256) refl
  where
    by : (o : Option Sign) → pair_sign b 256 ≡ o → o ≡ None
    by None e = refl
    by (Some x) e = absurd (let c : ⊥ = omega (arith, (subst AreBytes (pair_sign-two b 256 x e) (sign_bytes_low x)).1.0) in c)

-- A sign that stands ends within the script.
pub sign_past : (bytes : List ℕ) (a b : ℕ) (x : Sign) → a ≤ length bytes → IsSignAt (byte_at bytes) a b x → b ≤ length bytes
sign_past bytes a b x h s = omega (arith, s.ends, spelled_inside bytes (sign_text x) a h (sign_bytes_low x) s.fits.stands)
