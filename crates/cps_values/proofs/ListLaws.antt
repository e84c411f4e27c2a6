-- The elements of a list from a place on.
use Rattle.std.proofs.Common.{◌≡◌, ◌∙◌, ◌<◌, ◌≤◌, ◌+◌, ◌-◌, ℕ, zero, suc, List, [], ◌∷◌, length, drop, take, Option, Some, None, refl, ap, sym, subst, arith}
use Rattle.std.proofs.Math.Seq.{drop-cons, drop-nil}
use Rattle.std.specs.Prelude.{All, MatchOption, slice_get, slice_index_or}
use Rattle.std.specs.List.{HoldsAt}
use Rattle.std.specs.Borrow.{Bor}
use Rattle.std.specs.Option.{option_copied}
use Rattle.std.proofs.lemmas.List.{take_all, length-drop}
use Rattle.std.proofs.lemmas.Option.{slice_get_within}
use Rattle.cell_heap.specs.Soundness.{ValueBelow}
use Rattle.model_syntax.specs.declared.node.NodeForm.{NodeForm}
use Rattle.model_syntax.specs.declared.node.NodeForm.TheVariants as form
use Rattle.model_values.specs.declared.value.Value.{Value}
use Rattle.model_run.specs.Around.{form_at}

pub split_at : {A : Type 0} (xs : List A) (n : ℕ) (x : A) → slice_get xs n ≡ Some x → drop n xs ≡ x ∷ drop (suc n) xs
split_at [] n x e = absurd (let lt = slice_get_within [] n x e in omega (arith, lt))
split_at (y ∷ xs) zero x e = let same : y ≡ x = cc e in ap (λ z. z ∷ xs) same
split_at (y ∷ xs) (suc n) x e = split_at xs n x e

pub past_end : {A : Type 0} (xs : List A) (n : ℕ) → slice_get xs n ≡ None → drop n xs ≡ []
past_end [] zero e = refl
past_end [] (suc n) e = refl
past_end (y ∷ xs) zero e = absurd (cc e)
past_end (y ∷ xs) (suc n) e = past_end xs n e

-- from a part on
pub from_part : (fs : List NodeForm) (n : ℕ) (f : NodeForm) → n < length fs → f ≡ form_at fs n → drop n fs ≡ f ∷ drop (n + 1) fs
from_part fs n f lt is = let on : suc n ≡ n + 1 = omega arith in drop-cons fs n form.Block lt ∙ ap (λ g. g ∷ drop (suc n) fs) (sym is) ∙ ap (λ m. f ∷ drop m fs) on

pub split_here : {A : Type 0} (xs : List A) (n : ℕ) (x : A) → slice_get xs n ≡ Some x → drop n xs ≡ x ∷ drop (n + 1) xs
split_here xs n x e = let on : suc n ≡ n + 1 = omega arith in split_at xs n x e ∙ ap (λ m. x ∷ drop m xs) on

pub drop_more : {A : Type 0} (xs : List A) (m n : ℕ) → drop n (drop m xs) ≡ drop (m + n) xs
drop_more xs zero n = let e : zero + n ≡ n = omega arith in ap (λ k. drop k xs) (sym e)
drop_more [] (suc m) n = drop-nil n ∙ sym (drop-nil (suc m + n))
drop_more (x ∷ xs) (suc m) n = let e : suc m + n ≡ suc (m + n) = omega arith in drop_more xs m n ∙ ap (λ k. drop k (x ∷ xs)) (sym e)

get_or_read : (vs : List Value) (i : ℕ) (v : Value) → slice_get vs i ≡ Some v → slice_index_or vs i v ≡ v
get_or_read [] i v e = absurd (let lt = slice_get_within [] i v e in omega (arith, lt))
get_or_read (w ∷ vs) zero v e = cc e
get_or_read (w ∷ vs) (suc i) v e = get_or_read vs i v e

-- a value among those that are there
pub one_below : (n : ℕ) (vs : List Value) (i : ℕ) (v : Value) → All (ValueBelow n) vs → slice_get vs i ≡ Some v → ValueBelow n v
one_below n vs i v all e = let lt = slice_get_within vs i v e in subst (ValueBelow n) (get_or_read vs i v e) (all i v lt)

pub no_element : (o : Option (Bor Value)) → ((x : Bor Value) → o ≡ Some x → ⊥) → option_copied o ≡ None
no_element (Some x) h = absurd (h x refl)
no_element None h = refl

-- what was read is what stands there
pub got : (vs : List Value) (n : ℕ) (o : Option (Bor Value)) → MatchOption o (length vs ≤ n) (λ x. (n < length vs) × HoldsAt (λ y. x.now ≡ y) vs n) → option_copied o ≡ slice_get vs n
got [] n (Some x) h = absurd (omega (arith, h.0))
got (v ∷ vs) zero (Some x) h = ap Some (h.1 v)
got (v ∷ vs) (suc n) (Some x) h = let lt = h.0 in got vs n (Some x) (omega (arith, lt), h.1)
got [] n None h = refl
got (v ∷ vs) zero None h = absurd (omega (arith, h))
got (v ∷ vs) (suc n) None h = got vs n None (omega (arith, h))

-- the last elements are as many as they are
pub all_last : {A : Type 0} (xs : List A) (n : ℕ) → take (length xs - n) (drop n xs) ≡ drop n xs
all_last xs n = take_all (length xs - n) (drop n xs) (let e = length-drop n xs in omega (arith, e))
