-- How far an escape, or the `$` of an expression, goes on that is not over.
use Rattle.std.proofs.Common.{◌≡◌, ℕ, zero, suc, ◌+◌, ◌-◌, ◌<◌, ◌≤◌, ◌⊎◌, ⊎_elim, List, [], ◌∷◌, length, sym, ap, subst, ◌∙◌, arith, true}
use Rattle.std.specs.Char.{digit_value}
use Rattle.std.specs.Str.Parse.{AllDigits}
use Rattle.std.proofs.lemmas.Bool.{cases_lt}
use Rattle.model_syntax.specs.Source.{Source, Spelled}
use Rattle.model_syntax.specs.TextForms.{Form, is_double, Begun, begun_nothing, begun_backslash, begun_unicode, begun_dollar}
use Rattle.model_syntax.proofs.SourceLemmas.{window}
use Rattle.model_syntax.proofs.Deciding.{window-length, window-stands}

-- Digits that stand one behind the other.
digits_window : (B : Source) (n a : ℕ) → ((k : ℕ) → a ≤ k → k < a + n → digit_value (B k) < 16) → AllDigits 16 (window B a n)
unfolding window
digits_window B zero a h = tt
digits_window B (suc n) a h = (h a (omega arith) (omega arith), digits_window B n (a + 1) (λ k l m. h k (omega (arith, l)) (omega (arith, m))))

digit_within : (B : Source) (h : List ℕ) (a k : ℕ) → AllDigits 16 h → Spelled B h a → a ≤ k → k < a + length h → digit_value (B k) < 16
digit_within B [] a k d s l m = absurd (let c : ⊥ = omega (arith, l, m) in c)
digit_within B (x ∷ h) a k d s l m =
    ⊎_elim (λ c. digit_within B h (a + 1) k d.1 s.1 (omega (arith, c)) (omega (arith, m)))
    (λ c. let e : a ≡ k = omega (arith, c, l) in subst (λ z. digit_value z < 16) (sym s.0 ∙ ap B e) d.0) (cases_lt a k)

-- `\u` and digits that stand behind it, three at most.
pub front_begun : (B : Source) (f : Form) (a e : ℕ) → B a ≡ 92 → B (a + 1) ≡ 117 → a + 2 ≤ e → e ≤ a + 5 → ((k : ℕ) → a + 2 ≤ k → k < e → digit_value (B k) < 16) → Begun B f a e
front_begun B f a e b u l m d = subst (Begun B f a) (let i : a + 2 + length h ≡ e = omega (arith, n, l) in i) (begun_unicode h (omega (arith, n, m)) (digits_window B (e - (a + 2)) (a + 1 + 1) (λ k i j. d k (omega (arith, i)) (omega (arith, j, l)))) (b, (u, window-stands B (a + 1 + 1) (e - (a + 2)))))
  where
    h : List ℕ
    h = window B (a + 1 + 1) (e - (a + 2))

    n : length h ≡ e - (a + 2)
    n = window-length B (a + 1 + 1) (e - (a + 2))

pub front_furthest : (B : Source) (f : Form) (a e : ℕ) → a + 2 ≤ e → (a + 5 ≤ e) ⊎ (digit_value (B e) < 16 → ⊥) → (q : ℕ) → Begun B f a q → q ≤ e
front_furthest B f a e l s q g = by g
  where
    by : {q : ℕ} → Begun B f a q → q ≤ e
    by begun_nothing = omega (arith, l)
    by (begun_backslash i) = omega (arith, l)
    by (begun_dollar d i) = omega (arith, l)
    by (begun_unicode h n d r) = ⊎_elim (λ k. omega (arith, k, n)) (λ k. ⊎_elim (λ m. absurd (k (digit_within B h (a + 1 + 1) e d r.1.1 (omega (arith, l)) (omega (arith, m))))) (λ m. m) (cases_lt e (a + 2 + length h))) s

-- A backslash alone.
pub backslash_furthest : (B : Source) (f : Form) (a : ℕ) → (B (a + 1) ≡ 117 → ⊥) → (q : ℕ) → Begun B f a q → q ≤ a + 1
backslash_furthest B f a n q g = by g
  where
    by : {q : ℕ} → Begun B f a q → q ≤ a + 1
    by begun_nothing = omega arith
    by (begun_backslash i) = omega arith
    by (begun_dollar d i) = omega arith
    by (begun_unicode h l d r) = absurd (n r.1.0)

-- A `$` alone.
pub dollar_furthest : (B : Source) (f : Form) (a : ℕ) → B a ≡ 36 → (q : ℕ) → Begun B f a q → q ≤ a + 1
dollar_furthest B f a e q g = by g
  where
    by : {q : ℕ} → Begun B f a q → q ≤ a + 1
    by begun_nothing = omega arith
    by (begun_backslash i) = omega arith
    by (begun_dollar d i) = omega arith
    by (begun_unicode h l d r) = absurd (let c : ⊥ = omega (arith, e, r.0) in c)

-- Where neither stands nothing goes on.
pub nothing_furthest : (B : Source) (f : Form) (a : ℕ) → (B a ≡ 92 → ⊥) → ((B a ≡ 36) × (is_double f ≡ true) → ⊥) → (q : ℕ) → Begun B f a q → q ≤ a
nothing_furthest B f a n m q g = by g
  where
    by : {q : ℕ} → Begun B f a q → q ≤ a
    by begun_nothing = omega arith
    by (begun_backslash i) = absurd (n i)
    by (begun_dollar d i) = absurd (m (i, d))
    by (begun_unicode h l d r) = absurd (n r.0)
