-- Lists of numbers that differ, and what is in them.
use Rattle.std.proofs.Common.{◌≡◌, ◌⊎◌, ◌∙◌, ap, sym, subst, refl, inl, inr, ℕ, Bool, true, false, List, [], ◌∷◌, ◌++◌, map, append_assoc}
use Rattle.std.specs.Prelude.{nat_eq, not, if◌then◌else◌}
use Rattle.std.specs.List.{AllByRecursion as AllAre}
use Rattle.model_values.proofs.LaterLaws.{all_weaker}
use Rattle.model_run.specs.Fitting.{Distinct, Some_of, concat_map}
use Rattle.model_run.proofs.RequestLaws.{some_weaker}
use Rattle.world_laws.proofs.Places.{others}

abbrev pub In : ℕ → List ℕ → Type 0
In a xs = Some_of (λ b. b ≡ a) xs

abbrev pub NotIn : ℕ → List ℕ → Type 0
NotIn a xs = AllAre (λ b. a ≡ b → ⊥) xs

abbrev pub Apart : List ℕ → List ℕ → Type 0
Apart xs ys = AllAre (λ a. NotIn a ys) xs

pub all_both : {A : Type 0} (P Q R : A → Type 0) → ((x : A) → P x → Q x → R x) → (xs : List A) → AllAre P xs → AllAre Q xs → AllAre R xs
all_both P Q R on [] h k = tt
all_both P Q R on (x ∷ xs) h k = (on x h.0 k.0, all_both P Q R on xs h.1 k.1)

pub all_front : {A : Type 0} (P : A → Type 0) (xs ys : List A) → AllAre P (xs ++ ys) → AllAre P xs
all_front P [] ys h = tt
all_front P (x ∷ xs) ys h = (h.0, all_front P xs ys h.1)

pub all_back : {A : Type 0} (P : A → Type 0) (xs ys : List A) → AllAre P (xs ++ ys) → AllAre P ys
all_back P [] ys h = h
all_back P (x ∷ xs) ys h = all_back P xs ys h.1

pub all_joined : {A : Type 0} (P : A → Type 0) (xs ys : List A) → AllAre P xs → AllAre P ys → AllAre P (xs ++ ys)
all_joined P [] ys h k = k
all_joined P (x ∷ xs) ys h k = (h.0, all_joined P xs ys h.1 k)

pub all_mapped : {A B : Type 0} (P : B → Type 0) (f : A → B) (xs : List A) → AllAre (λ x. P (f x)) xs → AllAre P (map f xs)
all_mapped P f [] h = tt
all_mapped P f (x ∷ xs) h = (h.0, all_mapped P f xs h.1)

pub some_mapped : {A B : Type 0} (P : A → Type 0) (Q : B → Type 0) (f : A → B) → ((x : A) → P x → Q (f x)) → (xs : List A) → Some_of P xs → Some_of Q (map f xs)
some_mapped P Q f on [] h = absurd h
some_mapped P Q f on (x ∷ xs) (inl h) = inl (on x h)
some_mapped P Q f on (x ∷ xs) (inr h) = inr (some_mapped P Q f on xs h)

pub in_either : (a : ℕ) (xs ys : List ℕ) → In a (xs ++ ys) → In a xs ⊎ In a ys
in_either a [] ys h = inr h
in_either a (x ∷ xs) ys (inl h) = inl (inl h)
in_either a (x ∷ xs) ys (inr h) = elim (in_either a xs ys h) [ inl k ↦ inl (inr k) | inr k ↦ inr k ]

pub in_front : (a : ℕ) (xs ys : List ℕ) → In a xs → In a (xs ++ ys)
in_front a [] ys h = absurd h
in_front a (x ∷ xs) ys (inl h) = inl h
in_front a (x ∷ xs) ys (inr h) = inr (in_front a xs ys h)

pub in_back : (a : ℕ) (xs ys : List ℕ) → In a ys → In a (xs ++ ys)
in_back a [] ys h = h
in_back a (x ∷ xs) ys h = inr (in_back a xs ys h)

pub not_in : (a : ℕ) (xs : List ℕ) → (In a xs → ⊥) → NotIn a xs
not_in a [] h = tt
not_in a (x ∷ xs) h = ((λ e. h (inl (sym e))), not_in a xs (λ k. h (inr k)))

pub never_in : (a : ℕ) (xs : List ℕ) → NotIn a xs → In a xs → ⊥
never_in a [] n h = h
never_in a (x ∷ xs) n (inl h) = n.0 (sym h)
never_in a (x ∷ xs) n (inr h) = never_in a xs n.1 h

-- in two lists that differ
pub apart_never : (a : ℕ) (xs ys : List ℕ) → Apart xs ys → In a xs → In a ys → ⊥
apart_never a [] ys h x y = x
apart_never a (b ∷ xs) ys h (inl x) y = never_in a ys (subst (λ k. NotIn k ys) x h.0) y
apart_never a (b ∷ xs) ys h (inr x) y = apart_never a xs ys h.1 x y

pub distinct_front : (xs ys : List ℕ) → Distinct (xs ++ ys) → Distinct xs
distinct_front [] ys h = tt
distinct_front (x ∷ xs) ys h = (all_front (λ m. x ≡ m → ⊥) xs ys h.0, distinct_front xs ys h.1)

pub distinct_back : (xs ys : List ℕ) → Distinct (xs ++ ys) → Distinct ys
distinct_back [] ys h = h
distinct_back (x ∷ xs) ys h = distinct_back xs ys h.1

pub distinct_apart : (xs ys : List ℕ) → Distinct (xs ++ ys) → Apart xs ys
distinct_apart [] ys h = tt
distinct_apart (x ∷ xs) ys h = (all_back (λ m. x ≡ m → ⊥) xs ys h.0, distinct_apart xs ys h.1)

pub distinct_joined : (xs ys : List ℕ) → Distinct xs → Distinct ys → Apart xs ys → Distinct (xs ++ ys)
distinct_joined [] ys h k a = k
distinct_joined (x ∷ xs) ys h k a = (all_joined (λ m. x ≡ m → ⊥) xs ys h.0 a.0, distinct_joined xs ys h.1 k a.1)

-- the front of a list
abbrev pub Front : List ℕ → List ℕ → Type 0
Front xs ys = (more : List ℕ) × (ys ≡ xs ++ more)

-- from lists to fronts of them
pub fronts_all : {A : Type 0} (P : ℕ → Type 0) (f k : A → List ℕ) (h : A → A) (xs : List A) → AllAre (λ x. Front (k (h x)) (f x)) xs → AllAre P (concat_map f xs) → AllAre P (concat_map k (map h xs))
fronts_all P f k h [] fr all = tt
fronts_all P f k h (x ∷ xs) fr all =
    all_joined P (k (h x)) (concat_map k (map h xs)) (all_front P (k (h x)) (fr.0).0 (subst (AllAre P) (fr.0).1 (all_front P (f x) (concat_map f xs) all))) (fronts_all P f k h xs fr.1 (all_back P (f x) (concat_map f xs) all))

pub fronts_differ : {A : Type 0} (f k : A → List ℕ) (h : A → A) (xs : List A) → AllAre (λ x. Front (k (h x)) (f x)) xs → Distinct (concat_map f xs) → Distinct (concat_map k (map h xs))
fronts_differ f k h [] fr d = tt
fronts_differ f k h (x ∷ xs) fr d =
    distinct_joined (k (h x)) (concat_map k (map h xs)) (distinct_front (k (h x)) (fr.0).0 (subst Distinct (fr.0).1 (distinct_front (f x) (concat_map f xs) d))) (fronts_differ f k h xs fr.1 (distinct_back (f x) (concat_map f xs) d))
    (all_front (λ a. NotIn a (concat_map k (map h xs))) (k (h x)) (fr.0).0 (subst (AllAre (λ a. NotIn a (concat_map k (map h xs)))) (fr.0).1
    (all_weaker _ _ (λ a none. fronts_all (λ b. a ≡ b → ⊥) f k h xs fr.1 none) (f x) (distinct_apart (f x) (concat_map f xs) d))))

-- without some of them
pub others_all : {A : Type 0} (number : A → ℕ) (P : ℕ → Type 0) (f : A → List ℕ) (n : ℕ) (xs : List A) → AllAre P (concat_map f xs) → AllAre P (concat_map f (others number n xs))
others_all number P f n [] all = tt
others_all number P f n (x ∷ xs) all = one (nat_eq (number x) n) (others_all number P f n xs (all_back P (f x) (concat_map f xs) all))
  where
    one : (b : Bool) → AllAre P (concat_map f (others number n xs)) → AllAre P (concat_map f (if not b then x ∷ others number n xs else others number n xs))
    one true more = more
    one false more = all_joined P (f x) (concat_map f (others number n xs)) (all_front P (f x) (concat_map f xs) all) more

pub others_differ : {A : Type 0} (number : A → ℕ) (f : A → List ℕ) (n : ℕ) (xs : List A) → Distinct (concat_map f xs) → Distinct (concat_map f (others number n xs))
others_differ number f n [] d = tt
others_differ number f n (x ∷ xs) d = one (nat_eq (number x) n) (others_differ number f n xs (distinct_back (f x) (concat_map f xs) d)) (all_weaker _ _ (λ a none. others_all number (λ b. a ≡ b → ⊥) f n xs none) (f x) (distinct_apart (f x) (concat_map f xs) d))
  where
    one : (b : Bool) → Distinct (concat_map f (others number n xs)) → Apart (f x) (concat_map f (others number n xs)) → Distinct (concat_map f (if not b then x ∷ others number n xs else others number n xs))
    one true more apart = more
    one false more apart = distinct_joined (f x) (concat_map f (others number n xs)) (distinct_front (f x) (concat_map f xs) d) more apart

pub concat_append : {A : Type 0} (f : A → List ℕ) (xs ys : List A) → concat_map f (xs ++ ys) ≡ concat_map f xs ++ concat_map f ys
concat_append f [] ys = refl
concat_append f (x ∷ xs) ys = ap (λ zs. f x ++ zs) (concat_append f xs ys) ∙ sym (append_assoc (f x) (concat_map f xs) (concat_map f ys))

-- what one of them has
pub in_concat : {A : Type 0} (f : A → List ℕ) (a : ℕ) (xs : List A) → Some_of (λ x. In a (f x)) xs → In a (concat_map f xs)
in_concat f a [] h = h
in_concat f a (x ∷ xs) (inl h) = in_front a (f x) (concat_map f xs) h
in_concat f a (x ∷ xs) (inr h) = in_back a (f x) (concat_map f xs) (in_concat f a xs h)

all_in_concat : {A : Type 0} (f : A → List ℕ) (a : ℕ) (xs : List A) → (In a (concat_map f xs) → ⊥) → AllAre (λ x. In a (f x) → ⊥) xs
all_in_concat f a [] h = tt
all_in_concat f a (x ∷ xs) h = ((λ k. h (in_front a (f x) (concat_map f xs) k)), all_in_concat f a xs (λ k. h (in_back a (f x) (concat_map f xs) k)))

-- what the one of number n has, no other has
pub others_apart : {A : Type 0} (number : A → ℕ) (f : A → List ℕ) (n a : ℕ) (xs : List A) → Distinct (concat_map f xs) → Some_of (λ t. (number t ≡ n) × In a (f t)) xs → AllAre (λ q. (number q ≡ n → ⊥) → In a (f q) → ⊥) xs
others_apart number f n a [] d is = absurd is
others_apart number f n a (x ∷ xs) d (inl here) =
    ((λ other h. other here.0), all_weaker _ _ (λ q none other h. none h) xs (all_in_concat f a xs (λ h. apart_never a (f x) (concat_map f xs) (distinct_apart (f x) (concat_map f xs) d) here.1 h)))
others_apart number f n a (x ∷ xs) d (inr later) =
    ((λ other h. apart_never a (f x) (concat_map f xs) (distinct_apart (f x) (concat_map f xs) d) h (in_concat f a xs (some_weaker (λ t. (number t ≡ n) × In a (f t)) (λ t. In a (f t)) (λ t k. k.1) xs later))), others_apart number f n a xs (distinct_back (f x) (concat_map f xs) d) later)
