-- Numbers that rise, items that are found by their numbers, and numbers that differ.
use Rattle.std.proofs.Common.{◌≡◌, ◌∙◌, ◌<◌, ◌≤◌, ◌+◌, ℕ, zero, suc, Bool, true, false, not, List, [], ◌∷◌, ◌++◌, length, map, get_or, Option, Some, None, refl, ap, sym, subst, arith}
use Rattle.std.specs.Prelude.{nat_eq, ◌||◌, cond, find, is_some, slice_get}
use Rattle.std.specs.Option.{option_or}
use Rattle.std.specs.List.{AllByRecursion as AllAre, list_any}
use Rattle.std.proofs.lemmas.Bool.{ltb-true, lt-ltb, ne_eqb, eq-eqb, eqb-true, eqb-false}
use Rattle.std.specs.Ordering.{nat_cmp}
use Rattle.std.specs.List.{IsDistinct, slice_index}
use Rattle.std.specs.List.Sorted.{IsPermutation, IsSorted, IsStrictlyIncreasing}
use Rattle.std.proofs.lemmas.List.Sorted.{IsNonDecreasingBy-from_sort, IsPermutation-sym}
use Rattle.std.proofs.lemmas.Map.Keys.{IsDistinct-IsPermutation, IsStrictlyIncreasing-from_distinct}
use Rattle.std.proofs.lemmas.List.Folds.{find-append}
use Rattle.model_run.specs.Fitting.{Rises, Distinct}
use Rattle.model_run.specs.declared.site.Executor.{Executor}
use Rattle.image_check.specs.Requests.{all_differ, is_numbered, numbered, numbers_rise, rise_behind}
use Rattle.image_check.specs.Scans.{is_higher}
use Rattle.image_check.proofs.Testing.{Tests, left_true, right_true, both_true, not_true}

-- the numbers from one before them on
abbrev pub RisesFrom : Option ℕ → List ℕ → Type 0
RisesFrom None ks = Rises ks
RisesFrom (Some n) ks = Rises (n ∷ ks)

pub higher_on : (before : Option ℕ) (n : ℕ) (ks : List ℕ) → is_higher before n ≡ true → Rises (n ∷ ks) → RisesFrom before (n ∷ ks)
higher_on None n ks e h = h
higher_on (Some m) n ks e h = (ltb-true m n e, h)

pub higher_first : (before : Option ℕ) (n : ℕ) (ks : List ℕ) → RisesFrom before (n ∷ ks) → is_higher before n ≡ true
higher_first None n ks h = refl
higher_first (Some m) n ks h = lt-ltb m n h.0

pub rest_rises : (before : Option ℕ) (n : ℕ) (ks : List ℕ) → RisesFrom before (n ∷ ks) → Rises (n ∷ ks)
rest_rises None n ks h = h
rest_rises (Some m) n ks h = h.1

pub nothing_rises : (before : Option ℕ) → RisesFrom before []
nothing_rises None = tt
nothing_rises (Some n) = tt

pub rise_tests : {A : Type 0} (f : A → ℕ) (before : Option ℕ) (xs : List A) → Tests (rise_behind f before xs) (RisesFrom before (map f xs))
rise_tests f before [] = record { holds = λ e. nothing_rises before; told = λ h. refl }
rise_tests f before (x ∷ xs) =
    let rest = rise_tests f (Some (f x)) xs in
    record {
      holds = λ e. higher_on before (f x) (map f xs) (left_true (is_higher before (f x)) (rise_behind f (Some (f x)) xs) e) (rest.holds (right_true (is_higher before (f x)) (rise_behind f (Some (f x)) xs) e));
      told = λ h. both_true (is_higher before (f x)) (rise_behind f (Some (f x)) xs) (higher_first before (f x) (map f xs) h) (rest.told (rest_rises before (f x) (map f xs) h));
    }

pub numbers_rise_so : {A : Type 0} (f : A → ℕ) (xs : List A) → numbers_rise f xs ≡ true → Rises (map f xs)
numbers_rise_so f xs e = (rise_tests f None xs).holds e

-- numbers that rise are above the first
tail_rises : (n : ℕ) (ks : List ℕ) → Rises (n ∷ ks) → Rises ks
tail_rises n [] h = tt
tail_rises n (k ∷ ks) h = h.1

pub all_above : (n : ℕ) (ks : List ℕ) → Rises (n ∷ ks) → AllAre (λ k. n < k) ks
all_above n [] h = tt
all_above n (k ∷ []) h = (h.0, tt)
all_above n (k ∷ l ∷ ks) h =
    let first : n < k = h.0 in
    let next : k < l = h.1.0 in
    (first, all_above n (l ∷ ks) (omega (arith, first, next), h.1.1))

map_both : {A : Type 0} (f : A → ℕ) (xs ys : List A) → map f (xs ++ ys) ≡ map f xs ++ map f ys
map_both f [] ys = refl
map_both f (x ∷ xs) ys = ap (λ ns. f x ∷ ns) (map_both f xs ys)

or_left : (a b : Bool) → (a || b) ≡ false → a ≡ false
or_left true b e = absurd (cc e)
or_left false b e = refl

or_right : (a b : Bool) → (a || b) ≡ false → b ≡ false
or_right true b e = absurd (cc e)
or_right false b e = e

-- what has another number is not found
miss : {A : Type 0} (f : A → ℕ) (n : ℕ) (x : A) (xs : List A) → (f x ≡ n → ⊥) → numbered f n (x ∷ xs) ≡ numbered f n xs
miss f n x xs h = ap (λ b. cond b (Some x) (numbered f n xs)) (ne_eqb (f x) n h)

none_above : {A : Type 0} (f : A → ℕ) (n : ℕ) (xs : List A) → AllAre (λ k. n < k) (map f xs) → numbered f n xs ≡ None
none_above f n [] h = refl
none_above f n (x ∷ xs) h =
    let above : n < f x = h.0 in
    miss f n x xs (λ e. omega (arith, above, e)) ∙ none_above f n xs h.1

weaker : (n m : ℕ) (ks : List ℕ) → n ≤ m → AllAre (λ k. m < k) ks → AllAre (λ k. n < k) ks
weaker n m [] le h = tt
weaker n m (k ∷ ks) le h =
    let above : m < k = h.0 in
    (omega (arith, le, above), weaker n m ks le h.1)

none_or : {A : Type 0} (o : Option A) → option_or o None ≡ o
none_or None = refl
none_or (Some x) = refl

-- Of numbers that rise, what is below an item stands in front of it,
pub in_front : {A : Type 0} (f : A → ℕ) (n : ℕ) (xs : List A) (y : A) (ys : List A) → Rises (map f (y ∷ ys)) → n < f y → numbered f n (xs ++ y ∷ ys) ≡ numbered f n xs
in_front f n xs y ys h lt =
    let behind : numbered f n (y ∷ ys) ≡ None = none_above f n (y ∷ ys) (lt, weaker n (f y) (map f ys) (omega (arith, lt)) (all_above (f y) (map f ys) h)) in
    find-append (λ x. nat_eq (f x) n) xs (y ∷ ys) ∙ ap (option_or (numbered f n xs)) behind ∙ none_or (numbered f n xs)

below_head : (n : ℕ) (ks : List ℕ) (m : ℕ) (ls : List ℕ) → Rises (n ∷ (ks ++ m ∷ ls)) → n < m
below_head n [] m ls h = h.0
below_head n (k ∷ ks) m ls h =
    let first : n < k = h.0 in
    let next : k < m = below_head k ks m ls h.1 in
    omega (arith, first, next)

-- and what is no lower than an item does not.
pub behind : {A : Type 0} (f : A → ℕ) (n : ℕ) (xs : List A) (y : A) (ys : List A) → Rises (map f xs ++ map f (y ∷ ys)) → f y ≤ n → numbered f n (xs ++ y ∷ ys) ≡ numbered f n (y ∷ ys)
behind f n [] y ys h le = refl
behind f n (x ∷ xs) y ys h le =
    let lower : f x < f y = below_head (f x) (map f xs) (f y) (map f ys) h in
    miss f n x (xs ++ y ∷ ys) (λ e. omega (arith, lower, le, e)) ∙ behind f n xs y ys (tail_rises (f x) (map f xs ++ map f (y ∷ ys)) h) le

pub front_rises : (ks ls : List ℕ) → Rises (ks ++ ls) → Rises ks
front_rises [] ls h = tt
front_rises (k ∷ []) ls h = tt
front_rises (k ∷ l ∷ ks) ls h = (h.0, front_rises (l ∷ ks) ls h.1)

pub behind_rises : (ks ls : List ℕ) → Rises (ks ++ ls) → Rises ls
behind_rises [] ls h = h
behind_rises (k ∷ ks) ls h = behind_rises ks ls (tail_rises k (ks ++ ls) h)

-- A list in two halves: the item is in the one behind where its first number is no higher, else in front.
pub half_behind : {A : Type 0} (f : A → ℕ) (n : ℕ) (xs zs rest : List A) (y : A) → xs ++ zs ≡ rest → 0 < length zs → y ≡ get_or zs 0 y → f y ≤ n → Rises (map f rest) → Rises (map f zs) × (numbered f n zs ≡ numbered f n rest)
half_behind f n xs [] rest y e lt is le h = absurd (omega (arith, lt))
half_behind f n xs (z ∷ zs) rest y e lt is le h =
    let both_rise : Rises (map f xs ++ map f (z ∷ zs)) = subst Rises (ap (map f) (sym e) ∙ map_both f xs (z ∷ zs)) h in
    let low : f z ≤ n = subst (λ x. f x ≤ n) is le in
    (behind_rises (map f xs) (map f (z ∷ zs)) both_rise, sym (behind f n xs z zs both_rise low) ∙ ap (numbered f n) e)

pub half_in_front : {A : Type 0} (f : A → ℕ) (n : ℕ) (xs zs rest : List A) (y : A) → xs ++ zs ≡ rest → 0 < length zs → y ≡ get_or zs 0 y → n < f y → Rises (map f rest) → Rises (map f xs) × (numbered f n xs ≡ numbered f n rest)
half_in_front f n xs [] rest y e lt is above h = absurd (omega (arith, lt))
half_in_front f n xs (z ∷ zs) rest y e lt is above h =
    let both_rise : Rises (map f xs ++ map f (z ∷ zs)) = subst Rises (ap (map f) (sym e) ∙ map_both f xs (z ∷ zs)) h in
    let high : n < f z = subst (λ x. n < f x) is above in
    (front_rises (map f xs) (map f (z ∷ zs)) both_rise, sym (in_front f n xs z zs (behind_rises (map f xs) (map f (z ∷ zs)) both_rise) high) ∙ ap (numbered f n) e)

-- no number stands twice
none_equal : (n : ℕ) (ns : List ℕ) → list_any (nat_eq n) ns ≡ false → AllAre (λ m. nat_eq n m ≡ false) ns
none_equal n [] e = tt
none_equal n (m ∷ ns) e = (or_left (nat_eq n m) (list_any (nat_eq n) ns) e, none_equal n ns (or_right (nat_eq n m) (list_any (nat_eq n) ns) e))

none_equal_so : (n : ℕ) (ns : List ℕ) → AllAre (λ m. nat_eq n m ≡ false) ns → list_any (nat_eq n) ns ≡ false
none_equal_so n [] h = refl
none_equal_so n (m ∷ ns) h = ap (λ b. b || list_any (nat_eq n) ns) h.0 ∙ none_equal_so n ns h.1

unequal : (n : ℕ) (ns : List ℕ) → AllAre (λ m. nat_eq n m ≡ false) ns → AllAre (λ m. n ≡ m → ⊥) ns
unequal n [] h = tt
unequal n (m ∷ ns) h = (eqb-false n m h.0, unequal n ns h.1)

unequal_so : (n : ℕ) (ns : List ℕ) → AllAre (λ m. n ≡ m → ⊥) ns → AllAre (λ m. nat_eq n m ≡ false) ns
unequal_so n [] h = tt
unequal_so n (m ∷ ns) h = (ne_eqb n m h.0, unequal_so n ns h.1)

pub differ_tests : (ns : List ℕ) → Tests (all_differ ns) (Distinct ns)
differ_tests [] = record { holds = λ e. tt; told = λ h. refl }
differ_tests (n ∷ ns) =
    let rest = differ_tests ns in
    let here = list_any (nat_eq n) ns in
    record {
      holds = λ e. (unequal n ns (none_equal n ns (not_true here (left_true (not here) (all_differ ns) e))), rest.holds (right_true (not here) (all_differ ns) e));
      told = λ h. both_true (not here) (all_differ ns) (ap not (none_equal_so n ns (unequal_so n ns h.0))) (rest.told h.1);
    }

distinct_tests : (ns : List ℕ) → Tests (all_differ ns) (IsDistinct nat_eq ns)
unfolding IsDistinct
distinct_tests [] = record { holds = λ e. tt; told = λ h. refl }
distinct_tests (n ∷ ns) =
    let rest = distinct_tests ns in
    let here = list_any (nat_eq n) ns in
    record {
      holds = λ e. (none_equal n ns (not_true here (left_true (not here) (all_differ ns) e)), rest.holds (right_true (not here) (all_differ ns) e));
      told = λ h. both_true (not here) (all_differ ns) (ap not (none_equal_so n ns h.0)) (rest.told h.1);
    }

-- by their order, where they do not fall
rises_by : (ns : List ℕ) → IsStrictlyIncreasing ns → Rises ns
rises_by [] h = tt
rises_by (n ∷ []) h = tt
rises_by (n ∷ m ∷ ns) h = (
  h 0 (omega arith),
  rises_by (m ∷ ns) (λ k lt. (
      let next : suc k + 1 ≡ suc (k + 1) = omega arith in
      subst (λ j. slice_index (m ∷ ns) k < slice_index (n ∷ m ∷ ns) j) next (h (suc k) (omega (arith, lt))))),
)

apart : (n : ℕ) (ns : List ℕ) → AllAre (λ k. n < k) ns → AllAre (λ k. nat_eq n k ≡ false) ns
apart n [] h = tt
apart n (k ∷ ns) h = let lt : n < k = h.0 in (ne_eqb n k (λ e. omega (arith, lt, e)), apart n ns h.1)

distinct_by : (ns : List ℕ) → Rises ns → IsDistinct nat_eq ns
unfolding IsDistinct
distinct_by [] h = tt
distinct_by (n ∷ ns) h = (apart n ns (all_above n ns h), distinct_by ns (tail_rises n ns h))

pub same_truth : (a b : Bool) → (a ≡ true → b ≡ true) → (b ≡ true → a ≡ true) → a ≡ b
same_truth true b to from = sym (to refl)
same_truth false true to from = from refl
same_truth false false to from = refl

as_they_are : (ns : List ℕ) → map (λ n. n) ns ≡ ns
as_they_are [] = refl
as_they_are (n ∷ ns) = ap (λ ms. n ∷ ms) (as_they_are ns)

flips : (n m : ℕ) → nat_eq n m ≡ nat_eq m n
flips n m = same_truth (nat_eq n m) (nat_eq m n) (λ e. eq-eqb m n (sym (eqb-true n m e))) (λ e. eq-eqb n m (sym (eqb-true m n e)))

-- sorted numbers rise exactly where no number stands twice
pub sorted_differ : (ns ms : List ℕ) → IsPermutation ns ms → IsSorted nat_cmp ms → numbers_rise (λ n. n) ms ≡ all_differ ns
sorted_differ ns ms moved sorted =
    let rise : Tests (numbers_rise (λ n. n) ms) (Rises (map (λ n. n) ms)) = rise_tests (λ n. n) None ms in
    same_truth (numbers_rise (λ n. n) ms) (all_differ ns)
    (λ e. (distinct_tests ns).told (IsDistinct-IsPermutation nat_eq flips ms ns (IsPermutation-sym ns ms moved) (distinct_by ms (subst Rises (as_they_are ms) (rise.holds e)))))
    (λ e. rise.told (subst Rises (sym (as_they_are ms)) (rises_by ms (IsStrictlyIncreasing-from_distinct ms (IsNonDecreasingBy-from_sort (λ n. n) ms sorted) (IsDistinct-IsPermutation nat_eq flips ns ms moved ((distinct_tests ns).holds e))))))

-- what is found among executors
behind_one : (x : Executor) (b : Bool) (o : Option Executor) → is_some o ≡ true → is_some (cond b (Some x) o) ≡ true
behind_one x true o e = refl
behind_one x false o e = e

one_found : (x : Executor) (b a : Bool) (o : Option Executor) → a ≡ is_some o → (b || a) ≡ is_some (cond b (Some x) o)
one_found x true a o e = refl
one_found x false a o e = e

pub found_at : (n k : ℕ) (xs : List Executor) (o : Option Executor) → slice_get xs k ≡ o → is_numbered n o ≡ true → is_some (find (λ x. nat_eq x.number n) xs) ≡ true
found_at n k xs None e h = absurd (cc h)
found_at n k [] (Some x) e h = absurd (cc e)
found_at n zero (y ∷ xs) (Some x) e h =
    let same : y ≡ x = cc e in
    ap (λ b. is_some (cond b (Some y) (find (λ z. nat_eq z.number n) xs))) (ap (λ (z : Executor). nat_eq z.number n) same ∙ h)
found_at n (suc k) (y ∷ xs) (Some x) e h = behind_one y (nat_eq y.number n) (find (λ z. nat_eq z.number n) xs) (found_at n k xs (Some x) e h)

pub any_found : (n : ℕ) (xs : List Executor) → list_any (λ x. nat_eq x.number n) xs ≡ is_some (find (λ x. nat_eq x.number n) xs)
any_found n [] = refl
any_found n (x ∷ xs) = one_found x (nat_eq x.number n) (list_any (λ y. nat_eq y.number n) xs) (find (λ y. nat_eq y.number n) xs) (any_found n xs)
