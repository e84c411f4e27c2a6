-- Whether two lists of rising numbers have one in common, in one walk over both.
use Rattle.std.proofs.Common.{◌≡◌, ◌∙◌, ◌<◌, ◌≤◌, ℕ, suc, Bool, true, false, cond, eqb, List, [], ◌∷◌, length, drop, get_or, map, refl, sym, ap, subst, arith}
use Rattle.std.specs.Prelude.{not, nat_eq, nat_lt, ◌&&◌, ◌||◌}
use Rattle.std.specs.List.{AllByRecursion as AllAre, list_any}
use Rattle.std.specs.Ordering.{nat_cmp, on}
use Rattle.std.specs.declared.cmp.Ordering.TheVariants.{Less}
use Rattle.std.proofs.Common.{T, inl, inr}
use Rattle.std.proofs.Math.Dec.{eqb_refl}
use Rattle.std.proofs.Math.Seq.{drop-cons}
use Rattle.std.proofs.lemmas.Bool.{eqb-true, ltb-false, ltb-true, lt-ltb, le-ltb, cases_lt}
use Rattle.std.proofs.lemmas.Cmp.{nat_cmp_total}
use Rattle.delta_form.specs.Changes.{EachBelow}
use Rattle.delta_form.specs.After.{are_apart}
use Rattle.delta_form.specs.Numbers.{begins_at, from_number}
use Rattle.delta_form.proofs.Orders.{above, all_to, less, others_rise}

t_true : {b : Bool} → T b → b ≡ true
t_true {b} t = go b t
  where
    go : (c : Bool) → T c → c ≡ true
    go true h = refl
    go false h = absurd h

false_true : false ≡ true → ⊥
false_true e = absurd cc

-- two numbers of which one is lower are not the same
differ : (m n : ℕ) → n < m → nat_eq m n ≡ false
differ m n lt = go (eqb m n) refl
  where
    go : (b : Bool) → eqb m n ≡ b → b ≡ false
    go true e = let same = eqb-true m n e in absurd (omega (arith, lt, same))
    go false e = refl

differ_above : (m n : ℕ) → m < n → nat_eq m n ≡ false
differ_above m n lt = go (eqb m n) refl
  where
    go : (b : Bool) → eqb m n ≡ b → b ≡ false
    go true e = let same = eqb-true m n e in absurd (omega (arith, lt, same))
    go false e = refl

above_it : (m n : ℕ) → n ≤ m → nat_eq m n ≡ false → n < m
above_it m n le other = elim (cases_lt n m) [
  | inl lt ↦ lt
  | inr ge ↦ let same : m ≡ n = omega (arith, le, ge) in absurd (false_true (sym other ∙ ap (λ (k : ℕ). nat_eq m k) (sym same) ∙ t_true (eqb_refl m)))
]

item_behind : {V : Type 0} (xs : List V) (i : ℕ) (x : V) → i < length xs → x ≡ get_or xs i x → drop i xs ≡ x ∷ drop (suc i) xs
item_behind xs i x lt is = drop-cons xs i x lt ∙ ap (λ y. y ∷ drop (suc i) xs) (sym is)

module _ {V : Type 0} (number : V → ℕ) where
  pub passed : (n : ℕ) (xs : List V) (i : ℕ) (x : V) → i < length xs → x ≡ get_or xs i x → number x < n → from_number number n (drop (suc i) xs) ≡ from_number number n (drop i xs)
  passed n xs i x lt is lower =
      let front : from_number number n (x ∷ drop (suc i) xs) ≡ from_number number n (drop (suc i) xs) = ap (λ (b : Bool). cond b (from_number number n (drop (suc i) xs)) (x ∷ drop (suc i) xs)) (lt-ltb (number x) n lower) in
      sym front ∙ ap (from_number number n) (sym (item_behind xs i x lt is))

  pub here : (n : ℕ) (xs : List V) (i : ℕ) (x : V) → i < length xs → x ≡ get_or xs i x → n ≤ number x → drop i xs ≡ from_number number n (drop i xs)
  here n xs i x lt is high =
      let front : from_number number n (x ∷ drop (suc i) xs) ≡ x ∷ drop (suc i) xs = ap (λ (b : Bool). cond b (from_number number n (drop (suc i) xs)) (x ∷ drop (suc i) xs)) (le-ltb (number x) n high) in
      item_behind xs i x lt is ∙ sym front ∙ ap (from_number number n) (sym (item_behind xs i x lt is))

  -- ---- no number is lost that is not lower
  any_from : (m n : ℕ) → n ≤ m → (xs : List V) → list_any (nat_eq m) (map number (from_number number n xs)) ≡ list_any (nat_eq m) (map number xs)
  any_from m n le [] = refl
  any_from m n le (x ∷ xs) = go (nat_lt (number x) n) refl (any_from m n le xs)
    where
      go : (b : Bool) → nat_lt (number x) n ≡ b → list_any (nat_eq m) (map number (from_number number n xs)) ≡ list_any (nat_eq m) (map number xs)
          → list_any (nat_eq m) (map number (cond b (from_number number n xs) (x ∷ xs))) ≡ (nat_eq m (number x) || list_any (nat_eq m) (map number xs))
      go true is others =
          let lower = ltb-true (number x) n is in
          others ∙ ap (λ (b : Bool). b || list_any (nat_eq m) (map number xs)) (sym (differ m (number x) (omega (arith, lower, le))))
      go false is others = refl

  apart_from : (n : ℕ) (ms : List ℕ) → AllAre (λ m. nat_cmp n m ≡ Less) ms → (xs : List V) → are_apart ms (map number (from_number number n xs)) ≡ are_apart ms (map number xs)
  apart_from n [] all xs = refl
  apart_from n (m ∷ ms) all xs =
      let lt = less n m all.0 in
      ap (λ (b : Bool). not b && are_apart ms (map number (from_number number n xs))) (any_from m n (omega (arith, lt)) xs)
      ∙ ap (λ (b : Bool). not (list_any (nat_eq m) (map number xs)) && b) (apart_from n ms all.1 xs)

  pub rest_rises : (n : ℕ) (xs : List V) → EachBelow (on number nat_cmp) xs → EachBelow (on number nat_cmp) (from_number number n xs)
  rest_rises n [] each = tt
  rest_rises n (x ∷ xs) each = go (nat_lt (number x) n) (rest_rises n xs (others_rise (on number nat_cmp) x xs each))
    where
      go : (b : Bool) → EachBelow (on number nat_cmp) (from_number number n xs) → EachBelow (on number nat_cmp) (cond b (from_number number n xs) (x ∷ xs))
      go true others = others
      go false others = each

  -- ---- the first of what is left tells
  none_lower : (n : ℕ) (xs : List V) → AllAre (λ x. n < number x) xs → list_any (nat_eq n) (map number xs) ≡ false
  none_lower n [] all = refl
  none_lower n (x ∷ xs) all = ap (λ (b : Bool). b || list_any (nat_eq n) (map number xs)) (differ_above n (number x) all.0) ∙ none_lower n xs all.1

  not_lower : (n : ℕ) (xs ys : List V) (y : V) → from_number number n xs ≡ y ∷ ys → nat_lt (number y) n ≡ false
  not_lower n [] ys y e = absurd cc
  not_lower n (x ∷ xs) ys y e = go (nat_lt (number x) n) refl (not_lower n xs ys y) e
    where
      go : (b : Bool) → nat_lt (number x) n ≡ b → (from_number number n xs ≡ y ∷ ys → nat_lt (number y) n ≡ false) → cond b (from_number number n xs) (x ∷ xs) ≡ y ∷ ys → nat_lt (number y) n ≡ false
      go true is others h = others h
      go false is others h = let same : x ≡ y = cc in ap (λ (z : V). nat_lt (number z) n) (sym same) ∙ is

  tells : (n : ℕ) (ys : List V) → EachBelow (on number nat_cmp) ys → ((y : V) (zs : List V) → ys ≡ y ∷ zs → n ≤ number y) → begins_at number n ys ≡ false → list_any (nat_eq n) (map number ys) ≡ false
  tells n [] each low begins = refl
  tells n (y ∷ zs) each low begins =
      let at_least = low y zs refl in
      let higher = above_it (number y) n at_least begins in
      none_lower n (y ∷ zs) (higher, all_to (λ z. nat_cmp (number y) (number z) ≡ Less) (λ z. n < number z) (λ z lt. let h = less (number y) (number z) lt in omega (arith, h, higher)) zs (above (on number nat_cmp) (λ a b c. nat_cmp_total.trans (number a) (number b) (number c)) y zs each))

  pub others_apart : (n : ℕ) (ns : List ℕ) (xs : List V) → EachBelow nat_cmp (n ∷ ns) → EachBelow (on number nat_cmp) xs → begins_at number n (from_number number n xs) ≡ false
      → are_apart (n ∷ ns) (map number xs) ≡ are_apart ns (map number (from_number number n xs))
  others_apart n ns xs numbers items begins =
      let none = sym (any_from n n (omega arith) xs) ∙ tells n (from_number number n xs) (rest_rises n xs items) (λ y zs e. ltb-false (number y) n (not_lower n xs zs y e)) begins in
      ap (λ (b : Bool). not b && are_apart ns (map number xs)) none ∙ sym (apart_from n ns (above nat_cmp nat_cmp_total.trans n ns numbers) xs)

  found : (n : ℕ) (ys : List V) → begins_at number n ys ≡ true → list_any (nat_eq n) (map number ys) ≡ true
  found n [] begins = absurd cc
  found n (y ∷ ys) begins =
      let same = eqb-true (number y) n begins in
      ap (λ (b : Bool). b || list_any (nat_eq n) (map number ys)) (ap (λ (k : ℕ). nat_eq n k) same ∙ t_true (eqb_refl n))

  pub not_apart : (n : ℕ) (ns : List ℕ) (xs : List V) → begins_at number n (from_number number n xs) ≡ true → are_apart (n ∷ ns) (map number xs) ≡ false
  not_apart n ns xs begins = ap (λ (b : Bool). not b && are_apart ns (map number xs)) (sym (any_from n n (omega arith) xs) ∙ found n (from_number number n xs) begins)

  -- ---- a turn of the walk
  pub turn_rises : (all : List ℕ) (i : ℕ) → i < length all → EachBelow nat_cmp (drop i all) → EachBelow nat_cmp (drop (suc i) all)
  turn_rises all i lt each = others_rise nat_cmp (get_or all i 0) (drop (suc i) all) (subst (EachBelow nat_cmp) (drop-cons all i 0 lt) each)

  pub turn_apart : (all : List ℕ) (i : ℕ) (xs ys : List V) → i < length all → EachBelow nat_cmp (drop i all) → EachBelow (on number nat_cmp) xs → ys ≡ from_number number (get_or all i 0) xs → false ≡ begins_at number (get_or all i 0) ys
      → are_apart (drop i all) (map number xs) ≡ are_apart (drop (suc i) all) (map number ys)
  turn_apart all i xs ys lt numbers items is begins =
      let n = get_or all i 0 in
      let ns = drop (suc i) all in
      let first = drop-cons all i 0 lt in
      ap (λ (l : List ℕ). are_apart l (map number xs)) first
      ∙ others_apart n ns xs (subst (EachBelow nat_cmp) first numbers) items (ap (begins_at number n) (sym is) ∙ sym begins)
      ∙ ap (λ (l : List V). are_apart ns (map number l)) (sym is)

  pub turn_not_apart : (all : List ℕ) (i : ℕ) (xs ys : List V) → i < length all → ys ≡ from_number number (get_or all i 0) xs → true ≡ begins_at number (get_or all i 0) ys → are_apart (drop i all) (map number xs) ≡ false
  turn_not_apart all i xs ys lt is begins =
      ap (λ (l : List ℕ). are_apart l (map number xs)) (drop-cons all i 0 lt) ∙ not_apart (get_or all i 0) (drop (suc i) all) xs (ap (begins_at number (get_or all i 0)) (sym is) ∙ sym begins)
