-- Numbers in lists.
use Rattle.std.proofs.Common.{◌≡◌, ◌⊎◌, ◌<◌, ◌∙◌, inl, inr, ℕ, suc, Bool, true, false, List, [], ◌∷◌, ◌++◌, length, refl, sym, subst, arith, if◌then◌else◌}
use Rattle.std.specs.Prelude.{nat_eq, not, Contains}
use Rattle.std.specs.List.{IsDistinct, AllByRecursion as AllAre}
use Rattle.task_host.specs.Host.{without}
use Rattle.world_laws.proofs.Places.{some_front, some_behind}
use Rattle.launch_laws.specs.Fitting.{Among}

-- no number stands twice, said by `Among`
abbrev pub NoTwice : List ℕ → Type 0
NoTwice [] = Unit {0}
NoTwice (x ∷ xs) = (Among x xs → ⊥) × NoTwice xs

same_number : (a b : ℕ) → nat_eq a b ≡ true → a ≡ b
same_number a b is = grind (arith, is)

other_number : (a b : ℕ) → (a ≡ b → ⊥) → nat_eq a b ≡ false
other_number a b other = on (nat_eq a b) refl
  where
    on : (t : Bool) → nat_eq a b ≡ t → t ≡ false
    on true is = absurd (other (same_number a b is))
    on false is = refl

differs : (x y : ℕ) → nat_eq x y ≡ false → y ≡ x → ⊥
differs x y is same = grind (arith, is, same)

not_among : (x : ℕ) (ys : List ℕ) → AllAre (λ y. nat_eq x y ≡ false) ys → Among x ys → ⊥
not_among x [] all there = there
not_among x (y ∷ ys) all (inl same) = differs x y all.0 same
not_among x (y ∷ ys) all (inr there) = not_among x ys all.1 there

all_other : (x : ℕ) (ys : List ℕ) → (Among x ys → ⊥) → AllAre (λ y. nat_eq x y ≡ false) ys
all_other x [] none = tt
all_other x (y ∷ ys) none = (other_number x y (λ same. none (inl (sym same))), all_other x ys (λ there. none (inr there)))

pub none_twice : (xs : List ℕ) → IsDistinct nat_eq xs → NoTwice xs
unfolding IsDistinct
none_twice [] once = tt
none_twice (x ∷ xs) once = (not_among x xs once.0, none_twice xs once.1)

pub all_differ : (xs : List ℕ) → NoTwice xs → IsDistinct nat_eq xs
unfolding IsDistinct
all_differ [] none = tt
all_differ (x ∷ xs) none = (all_other x xs none.0, all_differ xs none.1)

pub among_either : (x : ℕ) (xs ys : List ℕ) → Among x (xs ++ ys) → Among x xs ⊎ Among x ys
among_either x [] ys is = inr is
among_either x (z ∷ xs) ys (inl is) = inl (inl is)
among_either x (z ∷ xs) ys (inr is) = on (among_either x xs ys is)
  where
    on : Among x xs ⊎ Among x ys → Among x (z ∷ xs) ⊎ Among x ys
    on (inl a) = inl (inr a)
    on (inr b) = inr b

pub twice_last : (xs : List ℕ) (t : ℕ) → NoTwice xs → (Among t xs → ⊥) → NoTwice (xs ++ t ∷ [])
twice_last [] t none new = (λ a. a, tt)
twice_last (x ∷ xs) t none new = (λ there. on (among_either x xs (t ∷ []) there), twice_last xs t none.1 (λ there. new (inr there)))
  where
    on : Among x xs ⊎ Among x (t ∷ []) → ⊥
    on (inl there) = none.0 there
    on (inr (inl same)) = new (inl (sym same))
    on (inr (inr never)) = never

pub twice_append : (xs ys : List ℕ) → NoTwice xs → NoTwice ys → ((x : ℕ) → Among x xs → Among x ys → ⊥) → NoTwice (xs ++ ys)
twice_append [] ys a b apart = b
twice_append (x ∷ xs) ys a b apart = (λ there. on (among_either x xs ys there), twice_append xs ys a.1 b (λ y there. apart y (inr there)))
  where
    on : Among x xs ⊎ Among x ys → ⊥
    on (inl there) = a.0 there
    on (inr there) = apart x (inl refl) there

pub twice_front : (xs ys : List ℕ) → NoTwice (xs ++ ys) → NoTwice xs
twice_front [] ys none = tt
twice_front (x ∷ xs) ys none = (λ there. none.0 (some_front (λ m. m ≡ x) xs ys there), twice_front xs ys none.1)

pub twice_new : (xs : List ℕ) (t : ℕ) → NoTwice (xs ++ t ∷ []) → Among t xs → ⊥
twice_new [] t none there = there
twice_new (x ∷ xs) t none (inl same) = none.0 (subst (λ (y : ℕ). Among y (xs ++ t ∷ [])) (sym same) (some_behind (λ m. m ≡ t) xs (t ∷ []) (inl refl)))
twice_new (x ∷ xs) t none (inr there) = twice_new xs t none.1 there

pub among_contains : (x : ℕ) (xs : List ℕ) → Among x xs → Contains xs x
among_contains x [] is = absurd is
among_contains x (z ∷ xs) (inl is) = (0, omega arith, is)
among_contains x (z ∷ xs) (inr is) = let w = among_contains x xs is in let less : w.0 < length xs = w.1 in (suc w.0, omega (arith, less), w.2)

pub among_without : (t u : ℕ) (xs : List ℕ) → (t ≡ u → ⊥) → Among t xs → Among t (without u xs)
among_without t u [] other is = absurd is
among_without t u (z ∷ zs) other is = on (among_without t u zs other) (nat_eq z u) refl is
  where
    on : (Among t zs → Among t (without u zs)) → (b : Bool) → nat_eq z u ≡ b → Among t (z ∷ zs) → Among t (if not b then z ∷ without u zs else without u zs)
    on go true eq (inl same) = absurd (other (sym same ∙ same_number z u eq))
    on go true eq (inr there) = go there
    on go false eq (inl same) = inl same
    on go false eq (inr there) = inr (go there)

pub same_or_not : (t u : ℕ) → (t ≡ u) ⊎ (t ≡ u → ⊥)
same_or_not t u = on (nat_eq t u) refl
  where
    on : (b : Bool) → nat_eq t u ≡ b → (t ≡ u) ⊎ (t ≡ u → ⊥)
    on true eq = inl (same_number t u eq)
    on false eq = inr (λ same. differs t u eq (sym same))
