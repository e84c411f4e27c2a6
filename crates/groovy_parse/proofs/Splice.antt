-- Texts that go as another one for a while, and then with tokens of their own.
use Rattle.std.proofs.Common.{◌≡◌, ℕ, ◌+◌, ◌-◌, ◌<◌, ◌≤◌, Bool, true, false, Some, None, List, [], refl, sym, ap, ◌∙◌, arith, cond, leb, slice_get}
use Rattle.std.proofs.lemmas.Bool.Decides.{nat_tests}
use Rattle.model_syntax.specs.declared.token.TokenKind.{TokenKind}
use Rattle.model_syntax.specs.Stream.{Stream}
use Rattle.groovy_expr.specs.Answers.{Before}

-- K before the place n, and from there on these tokens
abbrev pub splice : Stream → ℕ → List TokenKind → Stream
splice K n ts k = cond (leb (k + 1) n) (K k) (slice_get ts (k - n))

module _ (K : Stream) (n : ℕ) (ts : List TokenKind) where
  pub splice_before : Before n (splice K n ts) K
  splice_before k lt = let e : leb (k + 1) n ≡ true = grind (arith, nat_tests) in ap (λ (t : Bool). cond t (K k) (slice_get ts (k - n))) e

  pub splice_at : (k d : ℕ) → k ≡ n + d → splice K n ts k ≡ slice_get ts d
  splice_at k d h =
      let e : leb (k + 1) n ≡ false = grind (arith, nat_tests) in
      let g : k - n ≡ d = omega arith in
      ap (λ (t : Bool). cond t (K k) (slice_get ts (k - n))) e ∙ ap (slice_get ts) g

-- where K is cut off, nothing stands
pub cut_inside : (K : Stream) (n k : ℕ) {t : TokenKind} → splice K n [] k ≡ Some t → k < n
cut_inside K n k {t} h = by_test (leb (k + 1) n) refl
  where
    none_some : None ≡ Some t → ⊥
    none_some e = cc

    by_test : (b : Bool) → leb (k + 1) n ≡ b → k < n
    by_test true e = grind (arith, nat_tests)
    by_test false e = let le : n ≤ k = grind (arith, nat_tests) in let s : k ≡ n + (k - n) = omega arith in absurd (none_some (sym (splice_at K n [] k (k - n) s) ∙ h))
