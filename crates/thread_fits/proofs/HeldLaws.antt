-- Held executors of which some are given back, and one more that is granted.
use Rattle.std.proofs.Common.{arith, ◌≡◌, ◌<◌, ◌∙◌, refl, sym, ap, subst, ℕ, Bool, true, false, List, [], ◌∷◌, map, filter, Option, Some, None}
use Rattle.std.specs.Prelude.{find, nat_eq, nat_lt, not, ◌||◌, if◌then◌else◌}
use Rattle.std.specs.List.{AllByRecursion as AllAre}
use Rattle.std.proofs.lemmas.Bool.{eqb-true, eqb-false, eq-eqb, ltb-true, ltb-false}
use Rattle.model_run.specs.declared.held.Held.{Held}
use Rattle.model_run.specs.declared.site.Executor.{Executor}
use Rattle.model_run.specs.Fitting.{Distinct, Rises}
use Rattle.model_run.specs.Grants.{is_held, with_held}
use Rattle.model_run.specs.Steps.{held_by}

-- what holds of all holds of those that are kept
pub all_kept : {A : Type 0} (P : A → Type 0) (keep : A → Bool) (xs : List A) → AllAre P xs → AllAre P (filter keep xs)
all_kept P keep [] h = tt
all_kept P keep (x ∷ xs) h = one (keep x) (all_kept P keep xs h.1)
  where
    one : (b : Bool) → AllAre P (filter keep xs) → AllAre P (if b then x ∷ filter keep xs else filter keep xs)
    one true more = (h.0, more)
    one false more = more

-- each held executor is another than this one
abbrev pub OthersOf : ℕ → List Held → Type 0
OthersOf n xs = AllAre (λ (x : Held). x.executor ≡ n → ⊥) xs

abbrev pub RequestsOther : ℕ → List Held → Type 0
RequestsOther n xs = AllAre (λ (x : Held). x.request ≡ n → ⊥) xs

pub all_with : (P : Held → Type 0) (y : Held) (xs : List Held) → P y → AllAre P xs → AllAre P (with_held y xs)
all_with P y [] p h = (p, tt)
all_with P y (x ∷ xs) p h = one (nat_lt y.executor x.executor) (all_with P y xs p h.1)
  where
    one : (b : Bool) → AllAre P (with_held y xs) → AllAre P (if b then y ∷ x ∷ xs else x ∷ with_held y xs)
    one true more = (p, h)
    one false more = (h.0, more)

above : (n m : ℕ) → nat_lt n m ≡ false → (m ≡ n → ⊥) → m < n
above n m e never = omega (arith, ltb-false n m e, never)

rises_with_from : (n : ℕ) (y : Held) (xs : List Held) → n < y.executor → OthersOf y.executor xs → Rises (n ∷ map (λ x. x.executor) xs) → Rises (n ∷ map (λ x. x.executor) (with_held y xs))
rises_with_from n y [] lt other h = (lt, tt)
rises_with_from n y (x ∷ xs) lt other h = one (nat_lt y.executor x.executor) refl (rises_with_from x.executor y xs)
  where
    one : (b : Bool) → nat_lt y.executor x.executor ≡ b → (x.executor < y.executor → OthersOf y.executor xs → Rises (x.executor ∷ map (λ z. z.executor) xs) → Rises (x.executor ∷ map (λ z. z.executor) (with_held y xs))) → Rises (n ∷ map (λ z. z.executor) (if b then y ∷ x ∷ xs else x ∷ with_held y xs))
    one true e more = (lt, (ltb-true _ _ e, h.1))
    one false e more = (h.0, more (above y.executor x.executor e other.0) other.1 h.1)

pub rises_with : (y : Held) (xs : List Held) → OthersOf y.executor xs → Rises (map (λ x. x.executor) xs) → Rises (map (λ x. x.executor) (with_held y xs))
rises_with y [] other h = tt
rises_with y (x ∷ xs) other h = one (nat_lt y.executor x.executor) refl
  where
    one : (b : Bool) → nat_lt y.executor x.executor ≡ b → Rises (map (λ z. z.executor) (if b then y ∷ x ∷ xs else x ∷ with_held y xs))
    one true e = (ltb-true _ _ e, h)
    one false e = rises_with_from x.executor y xs (above y.executor x.executor e other.0) other.1 h

others_with : (n : ℕ) (y : Held) (xs : List Held) → (n ≡ y.request → ⊥) → AllAre (λ m. n ≡ m → ⊥) (map (λ x. x.request) xs) → AllAre (λ m. n ≡ m → ⊥) (map (λ x. x.request) (with_held y xs))
others_with n y [] never h = (never, tt)
others_with n y (x ∷ xs) never h = one (nat_lt y.executor x.executor) (others_with n y xs never h.1)
  where
    one : (b : Bool) → AllAre (λ m. n ≡ m → ⊥) (map (λ z. z.request) (with_held y xs)) → AllAre (λ m. n ≡ m → ⊥) (map (λ z. z.request) (if b then y ∷ x ∷ xs else x ∷ with_held y xs))
    one true more = (never, h)
    one false more = (h.0, more)

as_numbers : (n : ℕ) (xs : List Held) → RequestsOther n xs → AllAre (λ m. n ≡ m → ⊥) (map (λ x. x.request) xs)
as_numbers n [] h = tt
as_numbers n (x ∷ xs) h = ((λ e. h.0 (sym e)), as_numbers n xs h.1)

pub differ_with : (y : Held) (xs : List Held) → RequestsOther y.request xs → Distinct (map (λ x. x.request) xs) → Distinct (map (λ x. x.request) (with_held y xs))
differ_with y [] other h = (tt, tt)
differ_with y (x ∷ xs) other h = one (nat_lt y.executor x.executor) (differ_with y xs other.1 h.1)
  where
    one : (b : Bool) → Distinct (map (λ z. z.request) (with_held y xs)) → Distinct (map (λ z. z.request) (if b then y ∷ x ∷ xs else x ∷ with_held y xs))
    one true more = (as_numbers y.request (x ∷ xs) other, h)
    one false more = (others_with x.request y xs other.0 h.0, more)

-- an executor that is not held is another than each that is held
pub none_of_it : (n : ℕ) (xs : List Held) → not (is_held xs n) ≡ true → OthersOf n xs
none_of_it n [] e = tt
none_of_it n (x ∷ xs) e = one (nat_eq x.executor n) refl e (none_of_it n xs)
  where
    one : (b : Bool) → nat_eq x.executor n ≡ b → not (b || is_held xs n) ≡ true → (not (is_held xs n) ≡ true → OthersOf n xs) → OthersOf n (x ∷ xs)
    one true same e more = absurd (cc e)
    one false other e more = (eqb-false _ _ other, more e)

some_not : (x : Held) → Some x ≡ None → ⊥
some_not x e = absurd (cc e)

abbrev find_in : ℕ → List Executor → Option Executor
find_in n xs = find (λ (x : Executor). nat_eq x.number n) xs

-- the executor of a number has it
pub number_of_it : (n : ℕ) (xs : List Executor) (x : Executor) → find_in n xs ≡ Some x → x.number ≡ n
number_of_it n [] x e = absurd (cc e)
number_of_it n (y ∷ xs) x e = one (nat_eq y.number n) refl e (number_of_it n xs x)
  where
    one : (b : Bool) → nat_eq y.number n ≡ b → (if b then Some y else find_in n xs) ≡ Some x → (find_in n xs ≡ Some x → x.number ≡ n) → x.number ≡ n
    one true same e more = (let is : y ≡ x = cc e in ap (λ (z : Executor). z.number) (sym is) ∙ eqb-true _ _ same)
    one false other e more = more e

-- the executor that was granted is held
pub granted_there : (x : ℕ) (y : Held) (xs : List Held) → y.executor ≡ x → held_by x (with_held y xs) ≡ None → ⊥
granted_there x y [] is none = absurd (some_not y (subst (λ b. (if b then Some y else None) ≡ None) (eq-eqb y.executor x is) none))
granted_there x y (z ∷ xs) is none = one (nat_lt y.executor z.executor) (granted_there x y xs is) none
  where
    two : (b : Bool) → (held_by x (with_held y xs) ≡ None → ⊥) → (if b then Some z else held_by x (with_held y xs)) ≡ None → ⊥
    two true more none = some_not z none
    two false more none = more none

    one : (b : Bool) → (held_by x (with_held y xs) ≡ None → ⊥) → held_by x (if b then y ∷ z ∷ xs else z ∷ with_held y xs) ≡ None → ⊥
    one true more none = some_not y (subst (λ b. (if b then Some y else held_by x (z ∷ xs)) ≡ None) (eq-eqb y.executor x is) none)
    one false more none = two (nat_eq z.executor x) more none
