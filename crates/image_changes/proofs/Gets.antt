-- When lists are the same.
use Rattle.std.proofs.Common.{◌≡◌, ◌∙◌, ◌<◌, ◌≤◌, ℕ, zero, suc, List, [], ◌∷◌, ◌++◌, ◌-◌, length, slice_get, take, drop, get_or, Option, Some, None, refl, sym, ap, subst, arith, length-append, length-drop}
use Rattle.std.specs.Prelude.{MatchOption}
use Rattle.std.specs.Borrow.{Bor}
use Rattle.std.specs.List.{AllByRecursion as AllAre, HoldsAt}
use Rattle.std.specs.Option.{option_copied}
use Rattle.std.proofs.lemmas.List.{drop_all, take_all}
use Rattle.std.proofs.Math.Seq.{drop-append_seam}
use Rattle.model_run.specs.FlowNodes.{IsFront}
use Rattle.std.proofs.lemmas.Option.{slice_get-get_or, slice_get_past}

-- what a look-up lends, or that it lends nothing
pub lent : {X : Type 0} (xs : List X) (k : ℕ) (o : Option (Bor X)) → MatchOption o (length xs ≤ k) (λ x. (k < length xs) × HoldsAt (λ y. x.now ≡ y) xs k) → option_copied o ≡ slice_get xs k
lent [] k (Some b) is = absurd (omega (arith, is.0))
lent (x ∷ xs) zero (Some b) is = ap Some (is.1 x)
lent (x ∷ xs) (suc k) (Some b) is = let lt = is.0 in lent xs k (Some b) (omega (arith, lt), is.1)
lent [] k None is = refl
lent (x ∷ xs) zero None is = absurd (omega (arith, is))
lent (x ∷ xs) (suc k) None is = lent xs k None (omega (arith, is))

-- nothing is there of which there is no item
pub no_item : {X : Type 0} (o : Option X) → ((x : X) → o ≡ Some x → ⊥) → o ≡ None
no_item None none = refl
no_item (Some x) none = absurd (none x refl)

-- a list from an item on
pub from_item : {X : Type 0} (xs : List X) (k : ℕ) (x : X) → slice_get xs k ≡ Some x → drop k xs ≡ x ∷ drop (suc k) xs
from_item [] k x e = absurd cc
from_item (y ∷ ys) zero x e = let same : y ≡ x = cc in ap (λ (z : _). z ∷ ys) same
from_item (y ∷ ys) (suc k) x e = from_item ys k x e

pub first_behind : {X : Type 0} (k : ℕ) (xs : List X) → slice_get (drop k xs) 0 ≡ slice_get xs k
first_behind zero xs = refl
first_behind (suc k) [] = ap (λ (l : List _). slice_get l 0) (drop_all (suc k) [] (omega arith))
first_behind (suc k) (x ∷ xs) = first_behind k xs

pub from_end : {X : Type 0} (xs : List X) (k : ℕ) → slice_get xs k ≡ None → drop k xs ≡ []
from_end [] k e = drop_all k [] (omega arith)
from_end (y ∷ ys) zero e = absurd cc
from_end (y ∷ ys) (suc k) e = from_end ys k e

pub past_end : {X : Type 0} (xs : List X) (k : ℕ) → slice_get xs k ≡ None → drop (suc k) xs ≡ []
past_end [] k e = drop_all (suc k) [] (omega arith)
past_end (y ∷ ys) zero e = absurd cc
past_end (y ∷ ys) (suc k) e = past_end ys k e

-- a front with one item more
pub front_more : {X : Type 0} (xs : List X) (k : ℕ) (x : X) → slice_get xs k ≡ Some x → take (suc k) xs ≡ take k xs ++ x ∷ []
front_more [] k x e = absurd cc
front_more (y ∷ ys) zero x e = let same : y ≡ x = cc in ap (λ (z : _). z ∷ []) same
front_more (y ∷ ys) (suc k) x e = ap (λ (l : _). y ∷ l) (front_more ys k x e)

pub both_fronts : {X : Type 0} (xs ys : List X) (k : ℕ) (x : X) → take k xs ≡ take k ys → slice_get xs k ≡ Some x → slice_get ys k ≡ Some x → take (suc k) xs ≡ take (suc k) ys
both_fronts xs ys k x same a b = front_more xs k x a ∙ ap (λ (l : _). l ++ x ∷ []) same ∙ sym (front_more ys k x b)

-- past the end of one, but not of the other
pub past_differs : {X : Type 0} (xs ys : List X) (k : ℕ) → k < length xs → length ys ≤ k → slice_get xs k ≡ slice_get ys k → ⊥
past_differs [] ys k lt all e = omega (arith, lt)
past_differs (x ∷ xs) ys k lt all e = let some = slice_get-get_or (x ∷ xs) k x lt in let none = slice_get_past ys k all in let no : Some (get_or (x ∷ xs) k x) ≡ None = sym some ∙ e ∙ none in absurd cc

-- a shorter front of a common front
pub shorter_front : {X : Type 0} (n k : ℕ) (xs ys : List X) → k ≤ n → take n xs ≡ take n ys → take k xs ≡ take k ys
shorter_front n zero xs ys le e = refl
shorter_front zero (suc k) xs ys le e = absurd (omega (arith, le))
shorter_front (suc n) (suc k) [] [] le e = refl
shorter_front (suc n) (suc k) [] (y ∷ ys) le e = absurd cc
shorter_front (suc n) (suc k) (x ∷ xs) [] le e = absurd cc
shorter_front (suc n) (suc k) (x ∷ xs) (y ∷ ys) le e =
    let first : x ≡ y = cc in
    let others : take n xs ≡ take n ys = cc in
    ap (λ (z : _). z ∷ take k xs) first ∙ ap (λ (l : _). y ∷ l) (shorter_front n k xs ys (omega (arith, le)) others)

-- a front with one item more that has a property
pub all_more : {X : Type 0} (P : X → Type 0) (xs : List X) (k : ℕ) (x : X) → slice_get xs k ≡ Some x → AllAre P (take k xs) → P x → AllAre P (take (suc k) xs)
all_more P [] k x e all one = absurd cc
all_more P (y ∷ ys) zero x e all one = let same : x ≡ y = cc in (subst P same one, tt)
all_more P (y ∷ ys) (suc k) x e all one = (all.0, all_more P ys k x e all.1 one)

-- a front that is the whole of one of two lists
pub behind_front : {X : Type 0} (xs ys : List X) (n : ℕ) → length xs ≤ n → take n xs ≡ take n ys → ys ≡ xs ++ drop (length xs) ys
behind_front [] ys n le e = refl
behind_front (x ∷ xs) ys zero le e = absurd (omega (arith, le))
behind_front (x ∷ xs) [] (suc n) le e = absurd cc
behind_front (x ∷ xs) (y ∷ ys) (suc n) le e =
    let first : y ≡ x = cc in
    let others : take n xs ≡ take n ys = cc in
    ap (λ (z : _). z ∷ ys) first ∙ ap (λ (l : _). x ∷ l) (behind_front xs ys n (omega (arith, le)) others)

-- a list begins with another that has the same items as far as it goes
pub front_from_gets : {X : Type 0} (xs ys : List X) (n : ℕ) → length xs ≤ n → ((k : ℕ) → k < n → slice_get xs k ≡ slice_get ys k) → take (length xs) ys ≡ xs
front_from_gets [] ys n all gets = refl
front_from_gets (x ∷ xs) ys zero all gets = absurd (omega (arith, all))
front_from_gets (x ∷ xs) [] (suc n) all gets = let no = gets 0 (omega arith) in absurd cc
front_from_gets (x ∷ xs) (y ∷ ys) (suc n) all gets =
    let first = gets 0 (omega arith) in
    let same : y ≡ x = cc in
    ap (λ (z : _). z ∷ take (length xs) ys) same ∙ ap (λ (l : List _). x ∷ l) (front_from_gets xs ys n (omega (arith, all)) (λ k lt. gets (suc k) (omega (arith, lt))))

-- and is that other with what is behind it
pub front_and_rest : {X : Type 0} (xs ys : List X) → take (length xs) ys ≡ xs → ys ≡ xs ++ drop (length xs) ys
front_and_rest xs ys is = behind_front xs ys (length xs) (omega arith) (take_all (length xs) xs (omega arith) ∙ sym is)

-- what stands behind its beginning
pub rest_behind : {X : Type 0} (xs ys : List X) (front : IsFront xs ys) → take (length ys - length xs) (drop (length xs) ys) ≡ front.0
rest_behind xs ys front = take_all (length ys - length xs) (drop (length xs) ys) (omega (arith, length-drop (length xs) ys)) ∙ ap (λ (l : List _). drop (length xs) l) front.1 ∙ drop-append_seam xs front.0

pub front_within : {X : Type 0} (xs ys : List X) → take (length xs) ys ≡ xs → length xs ≤ length ys
front_within xs ys is = let all = ap length (front_and_rest xs ys is) in omega (arith, all, length-append xs (drop (length xs) ys))
