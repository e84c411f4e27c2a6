-- An image that is short enough can be written.
use Rattle.std.proofs.Common.{◌≡◌, ◌∙◌, ◌<◌, ◌≤◌, ℕ, Bool, true, false, refl, sym, subst, arith}
use Rattle.std.specs.Prelude.{min, nat_lt}
use Rattle.std.proofs.Math.Nat.{min-eq_left, min-eq_right}
use Rattle.std.proofs.lemmas.Bool.{ltb-true, ltb-false}

-- a length that is told by at most 64 bits is told exactly where it is below
pub short_of : (n told : ℕ) → told ≡ min n 18446744073709551615 → told < 4294967296 → n < 4294967296
short_of n told is lt = one (nat_lt n 18446744073709551615) refl
  where
    one : (b : Bool) → nat_lt n 18446744073709551615 ≡ b → n < 4294967296
    one true e =
        let less : n < 18446744073709551615 = ltb-true n 18446744073709551615 e in
        let le : n ≤ 18446744073709551615 = omega (arith, less) in
        subst (λ k. k < 4294967296) (is ∙ min-eq_left le) lt
    one false e =
        let ge : 18446744073709551615 ≤ n = ltb-false n 18446744073709551615 e in
        let same : told ≡ 18446744073709551615 = is ∙ min-eq_right ge in
        absurd (omega (arith, lt, same))
