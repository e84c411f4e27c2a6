-- What a change of a world does to open requests and held executors, and what changes in a row do.
use Rattle.std.proofs.Common.{arith, ◌≡◌, ◌≤◌, ◌∙◌, ap, sym, subst, refl, ℕ, suc, Bool, true, false, List, [], ◌∷◌, ◌++◌, filter, append_assoc}
use Rattle.std.specs.Prelude.{◌&&◌, not, nat_eq, if◌then◌else◌}
use Rattle.std.proofs.lemmas.List.{append-nil}
use Rattle.model_run.specs.RunTypes.{Request, OpenRequest, Held}
use Rattle.model_run.specs.Grants.{without_request}
use Rattle.model_run.specs.State.{Common, World}
use Rattle.model_run.specs.Steps.{with_request}
use Rattle.model_run.specs.Fitting.{Rise}
use Rattle.model_run.specs.Requests.{numbers_of, AsksMore, KeepsSome}

-- numbers that rise
pub rise_lower : (n m k : ℕ) (xs : List ℕ) → n ≤ m → Rise m k xs → Rise n k xs
rise_lower n m k [] le h = tt
rise_lower n m k (x ∷ xs) le h = (omega (arith, le, h.0), h.1, h.2)

pub rise_higher : (n m k : ℕ) (xs : List ℕ) → m ≤ k → Rise n m xs → Rise n k xs
rise_higher n m k [] le h = tt
rise_higher n m k (x ∷ xs) le h = (h.0, omega (arith, le, h.1), rise_higher (suc x) m k xs le h.2)

pub rise_behind : (n m k : ℕ) (xs ys : List ℕ) → n ≤ m → m ≤ k → Rise n m xs → Rise m k ys → Rise n k (xs ++ ys)
rise_behind n m k [] ys le up h g = rise_lower n m k ys le g
rise_behind n m k (x ∷ xs) ys le up h g = (h.0, omega (arith, up, h.1), rise_behind (suc x) m k xs ys (omega (arith, h.1)) up h.2 g)

pub numbers_behind : (rs qs : List OpenRequest) → numbers_of (rs ++ qs) ≡ numbers_of rs ++ numbers_of qs
numbers_behind [] qs = refl
numbers_behind (r ∷ rs) qs = ap (λ ns. r.number ∷ ns) (numbers_behind rs qs)

-- requests
pub asks_nothing : (u v : Common) → v.next_request ≡ u.next_request → v.requests ≡ u.requests → AsksMore u v
asks_nothing u v n r = record { next = omega (arith, n); new = []; requests = r ∙ sym (append-nil u.requests); numbers = tt }

pub asks_one : (r : Request) (w : World) → AsksMore w.shared (with_request r w).shared
asks_one r w = record { next = omega arith; new = (record { number = w.shared.next_request; thread = w.own.number; request = r }) ∷ []; requests = refl; numbers = (omega arith, omega arith, tt) }

pub asks_on : (u v w : Common) → AsksMore u v → AsksMore v w → AsksMore u w
asks_on u v w h k = record {
  next = omega (arith, h.next, k.next);
  new = h.new ++ k.new;
  requests = k.requests ∙ ap (λ rs. rs ++ k.new) h.requests ∙ append_assoc u.requests h.new k.new;
  numbers = subst (Rise u.next_request w.next_request) (sym (numbers_behind h.new k.new)) (rise_behind u.next_request v.next_request w.next_request (numbers_of h.new) (numbers_of k.new) h.next k.next h.numbers k.numbers);
}

-- held executors
kept_all : (xs : List Held) → xs ≡ filter (λ x. true) xs
kept_all [] = refl
kept_all (x ∷ xs) = ap (λ ys. x ∷ ys) (kept_all xs)

pub keeps_same : (old new : List Held) → new ≡ old → KeepsSome old new
keeps_same old new e = ((λ x. true), e ∙ kept_all old)

pub keeps_others : (n : ℕ) (xs : List Held) → KeepsSome xs (without_request n xs)
keeps_others n xs = ((λ x. not (nat_eq x.request n)), refl)

kept_step : (q : Held → Bool) (x : Held) (ys zs : List Held) (b : Bool) → filter q ys ≡ zs → filter q (if b then x ∷ ys else ys) ≡ (if b && q x then x ∷ zs else zs)
kept_step q x ys zs true e = ap (λ ws. if q x then x ∷ ws else ws) e
kept_step q x ys zs false e = e

kept_twice : (p q : Held → Bool) (xs : List Held) → filter q (filter p xs) ≡ filter (λ x. p x && q x) xs
kept_twice p q [] = refl
kept_twice p q (x ∷ xs) = kept_step q x (filter p xs) (filter (λ y. p y && q y) xs) (p x) (kept_twice p q xs)

pub keeps_on : (a b c : List Held) → KeepsSome a b → KeepsSome b c → KeepsSome a c
keeps_on a b c h k = ((λ x. h.0 x && k.0 x), k.1 ∙ ap (filter k.0) h.1 ∙ kept_twice h.0 k.0 a)
