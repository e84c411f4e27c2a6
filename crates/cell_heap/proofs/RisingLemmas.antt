-- Two lists of numbers that rise and have the same numbers are one list.
use Rattle.std.proofs.Common.{◌≡◌, ℕ, zero, suc, ◌+◌, ◌<◌, ◌≤◌, Bool, true, false, cond, eqb, List, [], ◌∷◌, length, get_or, refl, sym, ap, ap₂, ◌∙◌, inl, inr, arith}
use Rattle.std.specs.List.{All, sum_by}
use Rattle.std.specs.Ordering.{nat_cmp}
use Rattle.std.specs.List.Sorted.{IsPermutation, IsSorted}
use Rattle.std.proofs.lemmas.Bool.{cases_lt}
use Rattle.std.proofs.lemmas.List.Elements.{All-cons, All-head, All-tail, All-weaker, All-from_get_or, All-get_or}
use Rattle.std.proofs.lemmas.List.Sums.{sum_by-cons}
use Rattle.std.proofs.lemmas.List.Sorted.{sum_by-IsPermutation, IsNonDecreasingBy-from_sort}
use Rattle.std.proofs.lemmas.Bool.Decides.{nat_tests}
use Rattle.cell_heap.specs.Marks.{places_from, places}
use Rattle.cell_heap.proofs.MarkLemmas.{IsPlace, places_from-marked}

-- 1 for this number, 0 for others
is_one : ℕ → ℕ → ℕ
is_one v x = cond (eqb x v) 1 0

one_is : (v : ℕ) → is_one v v ≡ 1
unfolding is_one
one_is v = grind (arith, nat_tests)

not_one : (v x : ℕ) → v < x → is_one v x ≡ 0
unfolding is_one
not_one v x h = grind (arith, nat_tests)

none_above : (v : ℕ) (xs : List ℕ) → All (λ x. v < x) xs → sum_by (is_one v) xs ≡ 0
none_above v [] h = refl
none_above v (x ∷ xs) h =
    omega (arith, sum_by-cons (is_one v) x xs, not_one v x (All-head (λ z. v < z) x xs h), none_above v xs (All-tail (λ z. v < z) x xs h))

-- each is at most those behind it
pub record Rises (xs : List ℕ) : Type 0 where
  pub up : (i j : ℕ) → i ≤ j → j < length xs → get_or xs i 0 ≤ get_or xs j 0

rises-tail : (x : ℕ) (xs : List ℕ) → Rises (x ∷ xs) → Rises xs
rises-tail x xs h = record { up = λ i j a b. h.up (suc i) (suc j) (omega arith) (omega arith) }

rises-head : (x : ℕ) (xs : List ℕ) → Rises (x ∷ xs) → All (λ y. x ≤ y) xs
rises-head x xs h = All-from_get_or (λ y. x ≤ y) xs 0 (λ i b. h.up 0 (suc i) (omega arith) (omega arith))

up-cons : (x : ℕ) (xs : List ℕ) → All (λ y. x ≤ y) xs → Rises xs → (i j : ℕ) → i ≤ j → j < length (x ∷ xs) → get_or (x ∷ xs) i 0 ≤ get_or (x ∷ xs) j 0
up-cons x xs a h zero zero p q = omega arith
up-cons x xs a h zero (suc j) p q = All-get_or (λ y. x ≤ y) xs j 0 (omega arith) a
up-cons x xs a h (suc i) zero p q = let no : ⊥ = omega arith in absurd no
up-cons x xs a h (suc i) (suc j) p q = h.up i j (omega arith) (omega arith)

rises-cons : (x : ℕ) (xs : List ℕ) → All (λ y. x ≤ y) xs → Rises xs → Rises (x ∷ xs)
rises-cons x xs a h = record { up = up-cons x xs a h }

Counted : List ℕ → List ℕ → Type 0
Counted xs ys = (v : ℕ) → sum_by (is_one v) xs ≡ sum_by (is_one v) ys

-- the first of one is not below the first of the other
not_below : (x : ℕ) (xs : List ℕ) (y : ℕ) (ys : List ℕ) → All (λ z. y ≤ z) ys → sum_by (is_one x) (x ∷ xs) ≡ sum_by (is_one x) (y ∷ ys) → x < y → ⊥
not_below x xs y ys a e lt =
    let above = All-cons (λ z. x < z) y ys lt (All-weaker (λ z. y ≤ z) (λ z. x < z) (λ z q. omega (arith, q, lt)) ys a) in
    omega (arith, e, sum_by-cons (is_one x) x xs, none_above x (y ∷ ys) above, one_is x)

same_heads : (x : ℕ) (xs : List ℕ) (y : ℕ) (ys : List ℕ) → Rises (x ∷ xs) → Rises (y ∷ ys) → ((v : ℕ) → sum_by (is_one v) (x ∷ xs) ≡ sum_by (is_one v) (y ∷ ys)) → x ≡ y
same_heads x xs y ys h k e =
    elim (cases_lt x y) [
      | inl lt ↦ absurd (not_below x xs y ys (rises-head y ys k) (e x) lt)
      | inr ge ↦ elim (cases_lt y x) [
        | inl lt ↦ absurd (not_below y ys x xs (rises-head x xs h) (sym (e y)) lt)
        | inr le ↦ omega (arith, ge, le)
      ]
    ]

cancel : (v x : ℕ) (xs : List ℕ) (y : ℕ) (ys : List ℕ) → x ≡ y → sum_by (is_one v) (x ∷ xs) ≡ sum_by (is_one v) (y ∷ ys) → sum_by (is_one v) xs ≡ sum_by (is_one v) ys
cancel v x xs y ys same e = let s : is_one v x ≡ is_one v y = ap (is_one v) same in omega (arith, e, s, sum_by-cons (is_one v) x xs, sum_by-cons (is_one v) y ys)

same_from_counts : (xs ys : List ℕ) → Rises xs → Rises ys → ((v : ℕ) → sum_by (is_one v) xs ≡ sum_by (is_one v) ys) → xs ≡ ys
same_from_counts [] [] h k e = refl
same_from_counts [] (y ∷ ys) h k e = let no : ⊥ = omega (arith, e y, one_is y, sum_by-cons (is_one y) y ys) in absurd no
same_from_counts (x ∷ xs) [] h k e = let no : ⊥ = omega (arith, e x, one_is x, sum_by-cons (is_one x) x xs) in absurd no
same_from_counts (x ∷ xs) (y ∷ ys) h k e =
    let same = same_heads x xs y ys h k e in
    ap₂ (λ z zs. z ∷ zs) same (same_from_counts xs ys (rises-tail x xs h) (rises-tail y ys k) (λ v. cancel v x xs y ys same (e v)))

places_from-rise : (n : ℕ) (bs : List Bool) → Rises (places_from n bs)
places_from-rise n [] = record { up = λ i j a b. omega arith }
places_from-rise n (true ∷ bs) =
    rises-cons n (places_from (n + 1) bs) (All-weaker (IsPlace (n + 1) bs) (λ z. n ≤ z) (λ z p. omega (arith, p.is)) (places_from (n + 1) bs) (places_from-marked (n + 1) bs)) (places_from-rise (n + 1) bs)
places_from-rise n (false ∷ bs) = places_from-rise (n + 1) bs

-- a sorted list of the places is the list of the places
pub sorted_places : (bs : List Bool) (numbers sorted : List ℕ) → IsPermutation numbers (places bs) → IsPermutation numbers sorted → IsSorted nat_cmp sorted → sorted ≡ places bs
sorted_places bs numbers sorted listed moved up =
    let rises = IsNonDecreasingBy-from_sort (λ x. x) sorted up in
    same_from_counts sorted (places bs) (record { up = λ i j a b. rises i j 0 a b }) (places_from-rise 0 bs)
    (λ v. sum_by-IsPermutation (is_one v) numbers sorted moved ∙ sym (sum_by-IsPermutation (is_one v) numbers (places bs) listed))
