-- The places of true values: where one is put behind, becomes true, or becomes false.
use Rattle.std.proofs.Common.{◌≡◌, ℕ, zero, suc, ◌+◌, ◌<◌, ◌≤◌, ◌⊎◌, Bool, true, false, List, [], ◌∷◌, ◌++◌, length, get_or, set, replicate, Some, refl, sym, ap, ◌∙◌, subst, inl, inr, arith}
use Rattle.std.specs.List.{All, Contains}
use Rattle.std.specs.List.Sorted.{IsPermutation}
use Rattle.std.proofs.lemmas.List.{length-append, length-set, length-replicate, length_push, get_or_push, get_or-set_same, get_or-replicate, ext_get_or}
use Rattle.std.proofs.lemmas.List.Elements.{All-nil, All-cons, All-weaker, All-pop, All-get_or, Contains-push_cases}
use Rattle.std.proofs.lemmas.List.Sorted.{IsPermutation-to_front, IsPermutation-cons, IsPermutation-sym, IsPermutation-trans, IsPermutation-refl, IsPermutation-append_left, length_permutation, All-permutation, Contains-permutation}
use Rattle.cell_heap.specs.Marks.{places_from, places}

pub places_from-push : (n : ℕ) (bs : List Bool) → places_from n (bs ++ true ∷ []) ≡ places_from n bs ++ (n + length bs) ∷ []
places_from-push n [] = let e : n ≡ n + 0 = omega arith in ap (λ k. k ∷ []) e
places_from-push n (true ∷ bs) =
    let e : (n + 1) + length bs ≡ n + suc (length bs) = omega arith in
    ap (λ xs. n ∷ xs) (places_from-push (n + 1) bs ∙ ap (λ k. places_from (n + 1) bs ++ k ∷ []) e)
places_from-push n (false ∷ bs) =
    let e : (n + 1) + length bs ≡ n + suc (length bs) = omega arith in
    places_from-push (n + 1) bs ∙ ap (λ k. places_from (n + 1) bs ++ k ∷ []) e

pub places-push : (bs : List Bool) → places (bs ++ true ∷ []) ≡ places bs ++ length bs ∷ []
places-push bs = let e : 0 + length bs ≡ length bs = omega arith in places_from-push 0 bs ∙ ap (λ k. places bs ++ k ∷ []) e

set_true_from : (n : ℕ) (bs : List Bool) (i : ℕ) (d : Bool) → i < length bs → get_or bs i d ≡ false → IsPermutation (places_from n bs ++ (n + i) ∷ []) (places_from n (set bs i true))
set_true_from n [] i d h e = let no : ⊥ = omega (arith, h) in absurd no
set_true_from n (true ∷ bs) zero d h e = cc
set_true_from n (false ∷ bs) zero d h e =
    let P : ℕ → Type 0 = λ k. IsPermutation (places_from (n + 1) bs ++ k ∷ []) (n ∷ places_from (n + 1) bs) in
    let s : n ≡ n + 0 = omega arith in
    subst P s (IsPermutation-to_front (places_from (n + 1) bs) n)
set_true_from n (true ∷ bs) (suc i) d h e =
    let P : ℕ → Type 0 = λ k. IsPermutation (n ∷ (places_from (n + 1) bs ++ k ∷ [])) (n ∷ places_from (n + 1) (set bs i true)) in
    let s : (n + 1) + i ≡ n + suc i = omega arith in
    subst P s (IsPermutation-cons n _ _ (set_true_from (n + 1) bs i d (omega (arith, h)) e))
set_true_from n (false ∷ bs) (suc i) d h e =
    let P : ℕ → Type 0 = λ k. IsPermutation (places_from (n + 1) bs ++ k ∷ []) (places_from (n + 1) (set bs i true)) in
    let s : (n + 1) + i ≡ n + suc i = omega arith in
    subst P s (set_true_from (n + 1) bs i d (omega (arith, h)) e)

-- one that becomes true goes behind
pub places-set_true : (bs : List Bool) (i : ℕ) (d : Bool) → i < length bs → get_or bs i d ≡ false → IsPermutation (places bs ++ i ∷ []) (places (set bs i true))
places-set_true bs i d h e =
    let P : ℕ → Type 0 = λ k. IsPermutation (places bs ++ k ∷ []) (places (set bs i true)) in
    let s : 0 + i ≡ i = omega arith in
    subst P s (set_true_from 0 bs i d h e)

-- a place that is told is of a true value
pub record IsPlace (n : ℕ) (bs : List Bool) (x : ℕ) : Type 0 where
  pub at : ℕ
  pub is : x ≡ n + at
  pub within : at < length bs
  pub marked : get_or bs at false ≡ true

place_behind : (n : ℕ) (b : Bool) (bs : List Bool) (x : ℕ) → IsPlace (n + 1) bs x → IsPlace n (b ∷ bs) x
place_behind n b bs x p = record { at = suc p.at; is = omega (arith, p.is); within = omega (arith, p.within); marked = p.marked }

pub places_from-marked : (n : ℕ) (bs : List Bool) → All (IsPlace n bs) (places_from n bs)
places_from-marked n [] = All-nil (IsPlace n [])
places_from-marked n (true ∷ bs) =
    All-cons (IsPlace n (true ∷ bs)) n (places_from (n + 1) bs)
    (record { at = 0; is = omega arith; within = omega arith; marked = refl })
    (All-weaker (IsPlace (n + 1) bs) (IsPlace n (true ∷ bs)) (place_behind n true bs) (places_from (n + 1) bs) (places_from-marked (n + 1) bs))
places_from-marked n (false ∷ bs) =
    All-weaker (IsPlace (n + 1) bs) (IsPlace n (false ∷ bs)) (place_behind n false bs) (places_from (n + 1) bs) (places_from-marked (n + 1) bs)

length-places_from : (n : ℕ) (bs : List Bool) → length (places_from n bs) ≤ length bs
length-places_from n [] = omega arith
length-places_from n (true ∷ bs) = omega (arith, length-places_from (n + 1) bs)
length-places_from n (false ∷ bs) = omega (arith, length-places_from (n + 1) bs)

-- where a value is false there are fewer places than values
pub length-places-lt : (bs : List Bool) (xs : List ℕ) (i : ℕ) (d : Bool) → IsPermutation xs (places bs) → i < length bs → get_or bs i d ≡ false → length xs < length bs
length-places-lt bs xs i d moved h e =
    omega (arith, length_permutation _ _ moved, length_permutation _ _ (places-set_true bs i d h e), length-append (places bs) (i ∷ []), length-places_from 0 (set bs i true), length-set bs i true)

-- no place among false values
pub places_from-replicate : (m n : ℕ) → places_from n (replicate m false) ≡ []
places_from-replicate zero n = refl
places_from-replicate (suc m) n = places_from-replicate m (n + 1)

-- no more places than values
pub length-listed : (bs : List Bool) (xs : List ℕ) → IsPermutation xs (places bs) → length xs ≤ length bs
length-listed bs xs moved = omega (arith, length_permutation _ _ moved, length-places_from 0 bs)

-- the numbers after a true value behind all others
pub listed-push : (bs bs' : List Bool) (xs xs' : List ℕ) (n : ℕ) → IsPermutation xs (places bs) → bs' ≡ bs ++ true ∷ [] → xs' ≡ xs ++ n ∷ [] → n ≡ length bs → IsPermutation xs' (places bs')
listed-push bs bs' xs xs' n moved flags numbers last =
    rw (flags, numbers, last, places-push bs) (IsPermutation-append_left (length bs ∷ []) xs (places bs) moved)

-- the numbers after a value became true
pub listed-set : (bs : List Bool) (xs xs' : List ℕ) (i : ℕ) (d : Bool) → IsPermutation xs (places bs) → i < length bs → get_or bs i d ≡ false → xs' ≡ xs ++ i ∷ [] → IsPermutation xs' (places (set bs i true))
listed-set bs xs xs' i d moved h e numbers =
    rw numbers (IsPermutation-trans _ _ _ (IsPermutation-append_left (i ∷ []) xs (places bs) moved) (places-set_true bs i d h e))

pub listed-none : (m : ℕ) → IsPermutation [] (places (replicate m false))
listed-none m = rw (places_from-replicate m 0) (IsPermutation-refl [])

-- each true value's place is told
places_from-contains : (n : ℕ) (bs : List Bool) (i : ℕ) → get_or bs i false ≡ true → Contains (places_from n bs) (n + i)
places_from-contains n [] i e = cc
places_from-contains n (true ∷ bs) zero e = (0, omega arith, omega arith)
places_from-contains n (false ∷ bs) zero e = cc
places_from-contains n (true ∷ bs) (suc i) e =
    let p = places_from-contains (n + 1) bs i e in
    let same : (n + 1) + i ≡ n + suc i = omega arith in
    let P : ℕ → Type 0 = λ x. get_or (places_from (n + 1) bs) p.0 x ≡ x in
    (suc p.0, omega (arith, p.1), subst P same p.2)
places_from-contains n (false ∷ bs) (suc i) e =
    let same : (n + 1) + i ≡ n + suc i = omega arith in
    subst (λ (x : ℕ). Contains (places_from (n + 1) bs) x) same (places_from-contains (n + 1) bs i e)

-- what stays true while the marks are taken away: the numbers that are left are places, and each true one is among them
pub record Covers (numbers : List ℕ) (bs : List Bool) : Type 0 where
  pub below : All (λ x. x < length bs) numbers
  pub marked : (i : ℕ) → get_or bs i false ≡ true → Contains numbers i

pub covers-listed : (numbers : List ℕ) (bs : List Bool) → IsPermutation numbers (places bs) → Covers numbers bs
covers-listed numbers bs moved = record {
  below = All-permutation (λ x. x < length bs) (places bs) numbers (IsPermutation-sym _ _ moved)
      (All-weaker (IsPlace 0 bs) (λ x. x < length bs) (λ x p. omega (arith, p.is, p.within)) (places bs) (places_from-marked 0 bs));
  marked = λ i e.
      let same : 0 + i ≡ i = omega arith in
      Contains-permutation (places bs) numbers i (IsPermutation-sym _ _ moved) (subst (λ (x : ℕ). Contains (places bs) x) same (places_from-contains 0 bs i e));
}

-- the last of the numbers is a place
pub covers-last : (numbers rest : List ℕ) (at : ℕ) (bs : List Bool) → numbers ≡ rest ++ at ∷ [] → Covers numbers bs → at < length bs
covers-last numbers rest at bs e c =
    let P : ℕ → Type 0 = λ x. x < length bs in
    let k = length rest in
    let q : k < length numbers = rw e (omega (arith, length_push rest at)) in
    let found : get_or numbers k at ≡ at = rw e (get_or_push rest at at k refl) in
    subst P found (All-get_or P numbers k at q c.below)

not_again : (rest : List ℕ) (at i : ℕ) (bs : List Bool) → at < length bs → get_or (set bs at false) i false ≡ true → Contains rest i ⊎ (at ≡ i) → Contains rest i
not_again rest at i bs q e (inl c) = c
not_again rest at i bs q e (inr same) =
    let gone : get_or (set bs at false) i false ≡ false = rw (← same) (get_or-set_same bs at false false q) in
    cc

still_true : (bs : List Bool) (at i : ℕ) → at < length bs → get_or (set bs at false) i false ≡ true → get_or bs i false ≡ true
still_true [] at i q e = let no : ⊥ = omega (arith, q) in absurd no
still_true (b ∷ bs) zero zero q e = cc
still_true (b ∷ bs) zero (suc i) q e = e
still_true (b ∷ bs) (suc at) zero q e = e
still_true (b ∷ bs) (suc at) (suc i) q e = still_true bs at i (omega (arith, q)) e

-- one mark less
pub covers-set : (numbers rest : List ℕ) (at : ℕ) (bs : List Bool) → numbers ≡ rest ++ at ∷ [] → Covers numbers bs → Covers rest (set bs at false)
covers-set numbers rest at bs e c =
    let q = covers-last numbers rest at bs e c in
    let len = length-set bs at false in
    let front : All (λ x. x < length bs) rest = (All-pop (λ x. x < length bs) numbers rest (Some at) e c.below).0 in record {
      below = All-weaker (λ x. x < length bs) (λ x. x < length (set bs at false)) (λ x p. omega (arith, p, len)) rest front;
      marked = λ i t.
          let all = c.marked i (still_true bs at i q t) in
          not_again rest at i bs q t (Contains-push_cases rest at i (rw e at all));
    }

none_contains : (i : ℕ) → Contains [] i → ⊥
none_contains i c = omega (arith, c.1)

one_false : (b : Bool) → (b ≡ true → ⊥) → b ≡ false
one_false true h = absurd (h refl)
one_false false h = refl

-- where no number is left, all are false
pub covers-none : (bs : List Bool) → Covers [] bs → bs ≡ replicate (length bs) false
covers-none bs c =
    ext_get_or false bs (replicate (length bs) false) (sym (length-replicate (length bs) false))
    (λ i p. one_false (get_or bs i false) (λ t. none_contains i (c.marked i t)) ∙ sym (get_or-replicate (length bs) i false false p))
