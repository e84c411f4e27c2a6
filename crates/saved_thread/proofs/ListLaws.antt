-- A loop that takes items from the front of one list and puts what it makes of them behind another.
use Rattle.std.proofs.Common.{◌≡◌, ◌∙◌, ◌<◌, ℕ, zero, suc, List, [], ◌∷◌, ◌++◌, drop, length, get_or, map, refl, ap, sym, subst}
use Rattle.std.specs.List.{AllByRecursion as AllAre}
use Rattle.std.proofs.lemmas.Option.{slice_get_read}
use Rattle.model_values.proofs.CellGrowth.{all_get}

moved : {A B C : Type 0} (f : A → C) (g : B → C) (xs : List A) (x : A) (y : B) (ys : List B) → f x ≡ g y → map f (xs ++ x ∷ []) ++ map g ys ≡ map f xs ++ map g (y ∷ ys)
moved f g [] x y ys e = ap (λ z. z ∷ map g ys) e
moved f g (a ∷ xs) x y ys e = ap (λ zs. f a ∷ zs) (moved f g xs x y ys e)

pub one_more : {A B C : Type 0} (f : A → C) (g : B → C) (xs xs' : List A) (x : A) (y : B) (ys ys' : List B) (all : List C) → f x ≡ g y → xs' ≡ xs ++ x ∷ [] → ys ≡ y ∷ ys' → map f xs ++ map g ys ≡ all → map f xs' ++ map g ys' ≡ all
one_more f g xs xs' x y ys ys' all e is front h = ap (λ zs. map f zs ++ map g ys') is ∙ moved f g xs x y ys' e ∙ ap (λ zs. map f xs ++ map g zs) (sym front) ∙ h

-- the same where what is made is put behind as it is
pub one_kept : {B C : Type 0} (g : B → C) (xs xs' : List C) (x : C) (y : B) (ys ys' : List B) (all : List C) → x ≡ g y → xs' ≡ xs ++ x ∷ [] → ys ≡ y ∷ ys' → xs ++ map g ys ≡ all → xs' ++ map g ys' ≡ all
one_kept {C = C} g xs xs' x y ys ys' all e is front h = ap (λ zs. zs ++ map g ys') is ∙ shifted xs ∙ ap (λ zs. xs ++ map g zs) (sym front) ∙ h
  where
    shifted : (zs : List C) → (zs ++ x ∷ []) ++ map g ys' ≡ zs ++ map g (y ∷ ys')
    shifted [] = ap (λ z. z ∷ map g ys') e
    shifted (z ∷ zs) = ap (λ ws. z ∷ ws) (shifted zs)

-- what holds of each item holds of the first, and of the others
pub first_of : {A : Type 0} (P : A → Type 0) (xs xs' : List A) (x : A) → xs ≡ x ∷ xs' → AllAre P xs → P x
first_of P xs xs' x e h = (subst (AllAre P) e h).0

pub others_of : {A : Type 0} (P : A → Type 0) (xs xs' : List A) (x : A) → xs ≡ x ∷ xs' → AllAre P xs → AllAre P xs'
others_of P xs xs' x e h = (subst (AllAre P) e h).1

-- and of each that is found at its place
pub item_of : {A : Type 0} (P : A → Type 0) (xs : List A) (i : ℕ) (x : A) → i < length xs → x ≡ get_or xs i x → AllAre P xs → P x
item_of P xs i x lt is h = all_get P xs i x (slice_get_read xs (length xs) i x refl lt is) h

-- and of one more
pub and_last : {A : Type 0} (P : A → Type 0) (xs xs' : List A) (x : A) → xs' ≡ xs ++ x ∷ [] → AllAre P xs → P x → AllAre P xs'
and_last {A = A} P xs xs' x e h p = subst (AllAre P) (sym e) (go xs h)
  where
    go : (ys : List A) → AllAre P ys → AllAre P (ys ++ x ∷ [])
    go [] k = (p, tt)
    go (y ∷ ys) k = (k.0, go ys k.1)

-- and of each from one on
pub all_from : {A : Type 0} (P : A → Type 0) (n : ℕ) (xs : List A) → AllAre P xs → AllAre P (drop n xs)
all_from P zero xs h = h
all_from P (suc n) [] h = tt
all_from P (suc n) (x ∷ xs) h = all_from P n xs h.1
