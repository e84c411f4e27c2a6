-- The numbers from one to another, one number less.
use Rattle.std.proofs.Common.{◌≡◌, suc, List, [], ◌∷◌, ◌++◌, sym, ap, ◌∙◌, arith}
use Rattle.std.specs.Prelude.{ℤ, pos, neg_ℤ, nat_abs, ◌+ℤ◌, ◌-ℤ◌, ◌<ℤ◌}
use Rattle.std.proofs.lemmas.Int.{ints}
use Rattle.std.proofs.lemmas.List.{append_assoc}
use Rattle.model_values.specs.Operators.{numbers_from}
use Rattle.model_values.specs.declared.value.Value.{Value}
use Rattle.model_values.specs.declared.value.Value.TheVariants.{Int as Whole}

distance-rise : (x y : ℤ) → x <ℤ y → nat_abs (y -ℤ x) ≡ suc (nat_abs (y -ℤ (x +ℤ pos 1)))
distance-rise x y h = omega (arith, ints)

distance-fall : (x y : ℤ) → y <ℤ x → nat_abs (y -ℤ x) ≡ suc (nat_abs (y -ℤ (x +ℤ neg_ℤ (pos 1))))
distance-fall x y h = omega (arith, ints)

distance-none : (x y : ℤ) → x ≡ y → nat_abs (y -ℤ x) ≡ 0
distance-none x y h = omega (arith, ints)

numbers_from-rise : (x y : ℤ) → x <ℤ y → numbers_from (pos 1) x (nat_abs (y -ℤ x)) ≡ Whole x ∷ numbers_from (pos 1) (x +ℤ pos 1) (nat_abs (y -ℤ (x +ℤ pos 1)))
numbers_from-rise x y h = ap (numbers_from (pos 1) x) (distance-rise x y h)

numbers_from-fall : (x y : ℤ) → y <ℤ x → numbers_from (neg_ℤ (pos 1)) x (nat_abs (y -ℤ x)) ≡ Whole x ∷ numbers_from (neg_ℤ (pos 1)) (x +ℤ neg_ℤ (pos 1)) (nat_abs (y -ℤ (x +ℤ neg_ℤ (pos 1))))
numbers_from-fall x y h = ap (numbers_from (neg_ℤ (pos 1)) x) (distance-fall x y h)

-- a loop's step up: the number x is behind those that are done, and x' is the next
pub rise-more : (done more whole : List Value) (x y x' : ℤ) → x' ≡ x +ℤ pos 1 → x <ℤ y → more ≡ done ++ Whole x ∷ [] → done ++ numbers_from (pos 1) x (nat_abs (y -ℤ x)) ≡ whole → more ++ numbers_from (pos 1) x' (nat_abs (y -ℤ x')) ≡ whole
rise-more done more whole x y x' next lt grown before =
    rw (next, grown) (append_assoc done (Whole x ∷ []) (numbers_from (pos 1) (x +ℤ pos 1) (nat_abs (y -ℤ (x +ℤ pos 1))))
    ∙ ap (λ (ns : List Value). done ++ ns) (sym (numbers_from-rise x y lt)) ∙ before)

-- and down
pub fall-more : (done more whole : List Value) (x y x' : ℤ) → x' ≡ x +ℤ neg_ℤ (pos 1) → y <ℤ x → more ≡ done ++ Whole x ∷ [] → done ++ numbers_from (neg_ℤ (pos 1)) x (nat_abs (y -ℤ x)) ≡ whole → more ++ numbers_from (neg_ℤ (pos 1)) x' (nat_abs (y -ℤ x')) ≡ whole
fall-more done more whole x y x' next lt grown before =
    rw (next, grown) (append_assoc done (Whole x ∷ []) (numbers_from (neg_ℤ (pos 1)) (x +ℤ neg_ℤ (pos 1)) (nat_abs (y -ℤ (x +ℤ neg_ℤ (pos 1)))))
    ∙ ap (λ (ns : List Value). done ++ ns) (sym (numbers_from-fall x y lt)) ∙ before)
