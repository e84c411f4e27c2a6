-- Positions and divisors that are whole numbers.
use Rattle.std.proofs.Common.{◌≡◌, ◌+◌, ◌*◌, ◌∷◌, [], Option, Some, None, get_or, drop, ℕ, ◌<◌, ◌≤◌, ◌⊎◌, leb, Bool, false, ◌&&◌, cond, List, refl, sym, ap, ap₂, ◌∙◌, inl, inr, arith}
use Rattle.std.specs.Int.{cast_signed, cast_unsigned}
use mir.Syntax.{w32}
use Rattle.std.specs.Prelude.{ℤ, pos, negsuc, neg_ℤ, int_div, FitsSigned, zero, suc, ◌/◌, ◌<ℤ◌, ◌≤ℤ◌, length}
use Rattle.std.specs.Ordering.{int_eq}
use Rattle.std.proofs.lemmas.Int.{fits_signed_from_abs, int_wrap_fits, ints, quot_fits, to_z-of_z}
use Rattle.std.specs.Int.{int_wrap, int_wrapping_div}
use Rattle.std.proofs.Math.Nat.{div-le_self}
use Rattle.std.proofs.lemmas.Bool.{cases_lt, lt-ltb, le-ltb, lt-leb, le-leb, and_from, and_left, and_right, false_from_ne_true}
use Rattle.std.proofs.lemmas.Bool.Decides.{Decides-int_eq}
use Rattle.model_values.specs.Cells.{new_text}
use Rattle.model_values.specs.Characters.{part_of}
use Rattle.model_values.specs.Limits.{product_limits}
use Rattle.std.proofs.lemmas.List.{drop_more}
use Rattle.model_values.specs.Searching.{digit_of, digits_behind, some_digits, up_to}
use Rattle.model_values.specs.TextMethods.{substring}
use Rattle.model_values.specs.Throws.{outside}
use Rattle.model_values.specs.declared.cell.Cell.{Cell}

pub no_zero : (y : ℤ) → (y ≡ pos 0 → ⊥) → int_eq y (pos 0) ≡ false
no_zero y ne = false_from_ne_true (int_eq y (pos 0)) (λ e. ne ((Decides-int_eq y (pos 0)).0 e))

-- the first position is outside
pub first_outside : (h : List Cell) (s : List ℕ) (n : ℕ) (i j : ℤ) → (i <ℤ pos 0) ⊎ (pos n <ℤ i) → substring product_limits h s n i j ≡ outside product_limits h i n
first_outside h s n (negsuc i) j c = refl
first_outside h s n (pos i) (pos j) c =
    let more : n < i = elim c [ inl a ↦ absurd (omega (arith, ints, a)) | inr a ↦ omega (arith, ints, a) ] in
    ap (λ (t : Bool). cond t (outside product_limits h (pos i) n) (cond (leb i j && leb j n) (new_text product_limits h (part_of s i j)) (outside product_limits h (pos j) n))) (lt-ltb n i more)
first_outside h s n (pos i) (negsuc j) c =
    let more : n < i = elim c [ inl a ↦ absurd (omega (arith, ints, a)) | inr a ↦ omega (arith, ints, a) ] in
    ap (λ (t : Bool). cond t (outside product_limits h (pos i) n) (outside product_limits h (negsuc j) n)) (lt-ltb n i more)

not_between : (i j n : ℕ) → (j < i) ⊎ (n < j) → (leb i j && leb j n) ≡ false
not_between i j n (inl a) = and_left (leb i j) (leb j n) (lt-leb i j a)
not_between i j n (inr a) = and_right (leb i j) (leb j n) (lt-leb j n a)

-- the second is
pub second_outside : (h : List Cell) (s : List ℕ) (n : ℕ) (i j : ℤ) → pos 0 ≤ℤ i → i ≤ℤ pos n → (j <ℤ i) ⊎ (pos n <ℤ j) → substring product_limits h s n i j ≡ outside product_limits h j n
second_outside h s n (negsuc i) j low high c = absurd (omega (arith, ints, low))
second_outside h s n (pos i) (pos j) low high c =
    let within : i ≤ n = omega (arith, ints, high) in
    let out : (j < i) ⊎ (n < j) = elim c [ inl a ↦ inl (omega (arith, ints, a)) | inr a ↦ inr (omega (arith, ints, a)) ] in
    ap (λ (t : Bool). cond t (outside product_limits h (pos i) n) (cond (leb i j && leb j n) (new_text product_limits h (part_of s i j)) (outside product_limits h (pos j) n))) (le-ltb n i within)
    ∙ ap (λ (t : Bool). cond t (new_text product_limits h (part_of s i j)) (outside product_limits h (pos j) n)) (not_between i j n out)
second_outside h s n (pos i) (negsuc j) low high c =
    let within : i ≤ n = omega (arith, ints, high) in
    ap (λ (t : Bool). cond t (outside product_limits h (pos i) n) (outside product_limits h (negsuc j) n)) (le-ltb n i within)

-- both are inside
pub both_inside : (h : List Cell) (s : List ℕ) (n i j : ℕ) → i ≤ j → j ≤ n → substring product_limits h s n (pos i) (pos j) ≡ new_text product_limits h (part_of s i j)
both_inside h s n i j up high =
    ap (λ (t : Bool). cond t (outside product_limits h (pos i) n) (cond (leb i j && leb j n) (new_text product_limits h (part_of s i j)) (outside product_limits h (pos j) n))) (le-ltb n i (omega (arith, up, high)))
    ∙ ap (λ (t : Bool). cond t (new_text product_limits h (part_of s i j)) (outside product_limits h (pos j) n)) (and_from (leb i j) (leb j n) (le-leb i j up) (le-leb j n high))

pub range_is : (h : List Cell) (s : List ℕ) (n : ℕ) (i j : ℤ) (a b : ℕ) (r : List ℕ) → r ≡ part_of s a b → pos a ≡ i → pos b ≡ j → a ≤ b → b ≤ n → new_text product_limits h r ≡ substring product_limits h s n i j
range_is h s n i j a b r is from to up high =
    ap (λ (x : List ℕ). new_text product_limits h x) is ∙ sym (both_inside h s n a b up high)
    ∙ ap₂ (λ (x y : ℤ). substring product_limits h s n x y) from to

-- digits, one further
digits_more : (n : ℕ) (bs : List ℕ) (i d : ℕ) → i < length bs → digit_of (get_or bs i 0) ≡ Some d → digits_behind n (drop i bs) ≡ digits_behind (10 * n + d) (drop (i + 1) bs)
digits_more n bs i d lt digit =
    ap (digits_behind n) (drop_more bs i 0 lt)
    ∙ ap (λ (o : Option ℕ). elim o as (λ o. Option ℕ) [ Some e ↦ digits_behind (10 * n + e) (drop (i + 1) bs) | None ↦ None ]) digit

grows_by : (most n : ℕ) (bs : List ℕ) (o : Option ℕ) → ((d : ℕ) → up_to most (digits_behind (10 * n + d) bs) ≡ None) → up_to most (elim o as (λ o. Option ℕ) [ Some e ↦ digits_behind (10 * n + e) bs | None ↦ None ]) ≡ None
grows_by most n bs None later = refl
grows_by most n bs (Some d) later = later d

-- a number that is too large stays so
grows : (most n : ℕ) (bs : List ℕ) → most < n → up_to most (digits_behind n bs) ≡ None
grows most n [] lt = ap (λ (t : Bool). cond t (Some n) None) (lt-leb n most lt)
grows most n (b ∷ bs) lt = grows_by most n bs (digit_of b) (λ d. grows most (10 * n + d) bs (omega (arith, lt)))

some_digits_is : (most : ℕ) (bs : List ℕ) → 0 < length bs → some_digits most bs ≡ up_to most (digits_behind 0 bs)
some_digits_is most [] some = let none : ⊥ = omega (arith, some) in absurd none
some_digits_is most (b ∷ bs) some = refl

pub too_large : (most n : ℕ) (bs : List ℕ) (i d : ℕ) → digits_behind n (drop i bs) ≡ digits_behind 0 bs → i < length bs → digit_of (get_or bs i 0) ≡ Some d → most < 10 * n + d → None ≡ some_digits most bs
too_large most n bs i d so_far lt digit more =
    sym (some_digits_is most bs (omega (arith, lt)) ∙ ap (up_to most) (sym so_far ∙ digits_more n bs i d lt digit) ∙ grows most (10 * n + d) (drop (i + 1) bs) more)

-- a quotient that fits 32 bits, or the one that wraps
wrap_is : (z : ℤ) → FitsSigned w32 z ⊎ (z ≡ pos 2147483648) → cast_signed w32 (cast_unsigned w32 z) ≡ int_wrap w32 z
unfolding int_wrap
wrap_is z (inl f) = to_z-of_z w32 z f ∙ sym (int_wrap_fits w32 z f)
wrap_is z (inr e) = rw e refl

small_or_least : (q m : ℕ) → q ≤ m → m ≤ 2147483648 → FitsSigned w32 (pos q) ⊎ (pos q ≡ pos 2147483648)
small_or_least q m le most = elim (cases_lt q 2147483648) [ inl a ↦ inl (fits_signed_from_abs w32 (pos q) a) | inr b ↦ inr (ap pos (omega (arith, le, most, b))) ]

quotient_cases : (x y : ℤ) → FitsSigned w32 x → (y ≡ pos 0 → ⊥) → FitsSigned w32 (int_div x y) ⊎ (int_div x y ≡ pos 2147483648)
quotient_cases x (pos zero) f ne = absurd (ne refl)
quotient_cases x (pos (suc k)) f ne = inl (quot_fits w32 x (pos (suc k)) f (omega (arith, ints)))
quotient_cases (pos m) (negsuc k) f ne =
    let le : m / suc k ≤ m = div-le_self m (suc k) in
    inl (fits_signed_from_abs w32 (neg_ℤ (pos (m / suc k))) (omega (arith, ints, le, f)))
quotient_cases (negsuc m) (negsuc k) f ne =
    small_or_least (suc m / suc k) (suc m) (div-le_self (suc m) (suc k)) (omega (arith, ints, f))

pub quotient_is : (x y : ℤ) → FitsSigned w32 x → (y ≡ pos 0 → ⊥) → int_wrapping_div w32 x y ≡ int_wrap w32 (int_div x y)
quotient_is x y f ne = wrap_is (int_div x y) (quotient_cases x y f ne)
