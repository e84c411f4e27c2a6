-- The first element that passes a test, by its place.
use Rattle.std.proofs.Common.{◌≡◌, ◌<◌, ℕ, zero, suc, ◌+◌, Bool, true, false, cond, List, [], ◌∷◌, length, get_or, Some, None, refl, sym, ◌∙◌, ap, arith}
use Rattle.std.specs.Prelude.{find, position}
use Rattle.std.specs.List.{position_from}
use Rattle.std.proofs.lemmas.Iterator.Adapters.{position_from-zero}
use Rattle.std.proofs.lemmas.List.Quantifiers.{position-Some}

find_at : {X : Type 0} (p : X → Bool) (xs : List X) (i : ℕ) (d : X) → i < length xs → p (get_or xs i d) ≡ true → ((k : ℕ) → k < i → p (get_or xs k d) ≡ false) → find p xs ≡ Some (get_or xs i d)
find_at p [] i d lt passes fails = absurd (omega arith)
find_at p (x ∷ xs) zero d lt passes fails = rw passes refl
find_at p (x ∷ xs) (suc i) d lt passes fails = rw (fails 0 (omega arith)) (find_at p xs i d (omega arith) passes (λ k less. fails (suc k) (omega arith)))

-- what stands at the place that was found
pub find-position : {X : Type 0} (p : X → Bool) (xs : List X) (i : ℕ) (x : X) → position p xs ≡ Some i → x ≡ get_or xs i x → find p xs ≡ Some x
find-position p xs i x is at =
    let facts = position-Some p xs i x is in
    find_at p xs i x facts.0 facts.1 facts.2 ∙ ap Some (sym at)

none_from : {X : Type 0} (p : X → Bool) (xs : List X) (n : ℕ) → position_from p n xs ≡ None → find p xs ≡ None
none_from p [] n is = refl
none_from {X} p (x ∷ xs) n is = by (p x) is (none_from p xs (n + 1))
  where
    by : (b : Bool) → cond b (Some n) (position_from p (n + 1) xs) ≡ None → (position_from p (n + 1) xs ≡ None → find p xs ≡ None) → cond b (Some x) (find p xs) ≡ None
    by true e rest = absurd cc
    by false e rest = rest e

pub find-position-None : {X : Type 0} (p : X → Bool) (xs : List X) → position p xs ≡ None → find p xs ≡ None
find-position-None p xs is = none_from p xs 0 (sym (position_from-zero p xs) ∙ is)
