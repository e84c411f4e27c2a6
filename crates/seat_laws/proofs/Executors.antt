-- Held executors, as some are given back and one is granted.
use Rattle.std.proofs.Common.{◌≡◌, ◌∙◌, ap, sym, subst, refl, inl, inr, ℕ, Bool, true, false, List, [], ◌∷◌, Option, Some, None}
use Rattle.std.specs.Prelude.{nat_eq, nat_lt, not, ◌||◌, if◌then◌else◌}
use Rattle.std.proofs.lemmas.Bool.{eqb-true, eqb-false}
use Rattle.std.specs.List.{AllByRecursion as AllAre}
use Rattle.model_run.specs.declared.held.Held.{Held}
use Rattle.model_run.specs.declared.wait.Answer.TheVariants.{Begin, Granted as GrantedAnswer, Done, Decided as DecidedAnswer, Joined}
use Rattle.model_run.specs.declared.wait.Wait.{Wait}
use Rattle.model_run.specs.declared.wait.Wait.TheVariants.{Ready, Request as RequestWait, Branches as BranchesWait}
use Rattle.model_run.specs.declared.site.Site.{Site}
use Rattle.model_run.specs.Fitting.{Some_of, HeldFits, request_in, granted_request}
use Rattle.model_run.specs.Grants.{is_held, with_held, without_request}
use Rattle.model_run.specs.State.{Common}
use Rattle.model_run.specs.Steps.{held_for, held_by}
use Rattle.model_run.proofs.RequestLaws.{some_all, none_of}
use Rattle.run_laws.specs.Soundness.{without_all}
use Rattle.seat_laws.specs.Seats.{IsHeld}
use Rattle.seat_laws.proofs.Lists.{NotIn}

pub same_number : (n : ℕ) → nat_eq n n ≡ true
same_number n = one (nat_eq n n) refl
  where
    one : (b : Bool) → nat_eq n n ≡ b → b ≡ true
    one true e = refl
    one false e = absurd (eqb-false _ _ e refl)

firsts_of : (n : ℕ) (ns rs : List ℕ) → AllAre (λ r. NotIn r (n ∷ ns)) rs → AllAre (λ r. r ≡ n → ⊥) rs
firsts_of n ns [] h = tt
firsts_of n ns (r ∷ rs) h = ((h.0).0, firsts_of n ns rs h.1)

seconds_of : (n : ℕ) (ns rs : List ℕ) → AllAre (λ r. NotIn r (n ∷ ns)) rs → AllAre (λ r. NotIn r ns) rs
seconds_of n ns [] h = tt
seconds_of n ns (r ∷ rs) h = ((h.0).1, seconds_of n ns rs h.1)

with_in : (y : Held) (held : List Held) → Some_of (λ x. x.request ≡ y.request) (with_held y held)
with_in y [] = inl refl
with_in y (x ∷ held) = one (nat_lt y.executor x.executor) (with_in y held)
  where
    one : (b : Bool) → Some_of (λ z. z.request ≡ y.request) (with_held y held) → Some_of (λ z. z.request ≡ y.request) (if b then y ∷ x ∷ held else x ∷ with_held y held)
    one true more = inl refl
    one false more = inr more

some_held : (x : Held) → Some x ≡ None → ⊥
some_held x e = absurd (cc)

-- the executor of another request stays held
held_kept : (r n : ℕ) → (r ≡ n → ⊥) → (held : List Held) → IsHeld held r → IsHeld (without_request n held) r
held_kept r n other [] h = h
held_kept r n other (x ∷ held) h = one (nat_eq x.request r) (nat_eq x.request n) refl refl h (held_kept r n other held)
  where
    one : (a b : Bool) → nat_eq x.request r ≡ a → nat_eq x.request n ≡ b → ((if a then Some x else held_for r held) ≡ None → ⊥) → (IsHeld held r → IsHeld (without_request n held) r) → IsHeld (if not b then x ∷ without_request n held else without_request n held) r
    one true true ea eb h more = absurd (other (sym (eqb-true _ _ ea) ∙ eqb-true _ _ eb))
    one true false ea eb h more = subst (λ c. (if c then Some x else held_for r (without_request n held)) ≡ None → ⊥) (sym ea) (some_held x)
    one false true ea eb h more = more h
    one false false ea eb h more = subst (λ c. (if c then Some x else held_for r (without_request n held)) ≡ None → ⊥) (sym ea) (more h)

pub held_kept_all : (r : ℕ) (ns : List ℕ) → NotIn r ns → (held : List Held) → IsHeld held r → IsHeld (without_all ns held) r
held_kept_all r [] other held h = h
held_kept_all r (n ∷ ns) other held h = held_kept r n other.0 (without_all ns held) (held_kept_all r ns other.1 held h)

-- and beside one that is granted
pub held_with : (r : ℕ) (y : Held) (held : List Held) → IsHeld held r → IsHeld (with_held y held) r
held_with r y [] h = absurd (h refl)
held_with r y (x ∷ held) h = one (nat_lt y.executor x.executor) (nat_eq x.request r) refl h (held_with r y held)
  where
    two : (c : Bool) → IsHeld (x ∷ held) r → (if c then Some y else held_for r (x ∷ held)) ≡ None → ⊥
    two true h = some_held y
    two false h = h

    one : (a b : Bool) → nat_eq x.request r ≡ b → ((if b then Some x else held_for r held) ≡ None → ⊥) → (IsHeld held r → IsHeld (with_held y held) r) → IsHeld (if a then y ∷ x ∷ held else x ∷ with_held y held) r
    one true b e h more = two (nat_eq y.request r) (subst (λ d. (if d then Some x else held_for r held) ≡ None → ⊥) (sym e) h)
    one false true e h more = subst (λ c. (if c then Some x else held_for r (with_held y held)) ≡ None → ⊥) (sym e) (some_held x)
    one false false e h more = subst (λ c. (if c then Some x else held_for r (with_held y held)) ≡ None → ⊥) (sym e) (more h)

-- what is in the list is held
held_in : (r : ℕ) (held : List Held) → Some_of (λ x. x.request ≡ r) held → IsHeld held r
held_in r [] h = absurd h
held_in r (x ∷ held) h = one (nat_eq x.request r) refl h (held_in r held)
  where
    one : (b : Bool) → nat_eq x.request r ≡ b → Some_of (λ y. y.request ≡ r) (x ∷ held) → (Some_of (λ y. y.request ≡ r) held → IsHeld held r) → (if b then Some x else held_for r held) ≡ None → ⊥
    one true e is more = some_held x
    one false e (inl is) more = absurd (eqb-false _ _ e is)
    one false e (inr is) more = more is

-- and the other way round
in_held : (r : ℕ) (held : List Held) → IsHeld held r → Some_of (λ x. x.request ≡ r) held
in_held r [] h = absurd (h refl)
in_held r (x ∷ held) h = one (nat_eq x.request r) refl h (in_held r held)
  where
    one : (b : Bool) → nat_eq x.request r ≡ b → ((if b then Some x else held_for r held) ≡ None → ⊥) → (IsHeld held r → Some_of (λ y. y.request ≡ r) held) → Some_of (λ y. y.request ≡ r) (x ∷ held)
    one true e h more = inl (eqb-true _ _ e)
    one false e h more = inr (more h)

-- the executor of a number is held for its request
by_held : (x : ℕ) (held : List Held) → AllAre (λ r. Some_of (λ y. y.request ≡ r) held) (request_in (held_by x held))
by_held x [] = tt
by_held x (y ∷ held) = one (nat_eq y.executor x) (by_held x held)
  where
    deeper : (o : Option Held) → AllAre (λ r. Some_of (λ z. z.request ≡ r) held) (request_in o) → AllAre (λ r. Some_of (λ z. z.request ≡ r) (y ∷ held)) (request_in o)
    deeper None h = tt
    deeper (Some z) h = (inr h.0, tt)

    one : (b : Bool) → AllAre (λ r. Some_of (λ z. z.request ≡ r) held) (request_in (held_by x held)) → AllAre (λ r. Some_of (λ z. z.request ≡ r) (y ∷ held)) (request_in (if b then Some y else held_by x held))
    one true more = (inl refl, tt)
    one false more = deeper (held_by x held) more

some_are_held : (held : List Held) (rs : List ℕ) → AllAre (λ r. Some_of (λ y. y.request ≡ r) held) rs → AllAre (IsHeld held) rs
some_are_held held [] h = tt
some_are_held held (r ∷ rs) h = (held_in r held h.0, some_are_held held rs h.1)

pub granted_held : (held : List Held) (w : Wait) → AllAre (IsHeld held) (granted_request held w)
granted_held held (Ready (GrantedAnswer x)) = some_are_held held (request_in (held_by x held)) (by_held x held)
granted_held held (Ready Begin) = tt
granted_held held (Ready (Done code out)) = tt
granted_held held (Ready (DecidedAnswer proceed name)) = tt
granted_held held (Ready (Joined ends)) = tt
granted_held held (RequestWait r) = tt
granted_held held (BranchesWait js) = tt

-- a grant stays while the executors of other requests are given back
grant_kept : (x n : ℕ) (held : List Held) → AllAre (λ r. r ≡ n → ⊥) (request_in (held_by x held)) → request_in (held_by x (without_request n held)) ≡ request_in (held_by x held)
grant_kept x n [] other = refl
grant_kept x n (y ∷ held) other = one (nat_eq y.executor x) (nat_eq y.request n) refl refl other (grant_kept x n held)
  where
    one : (a b : Bool) → nat_eq y.executor x ≡ a → nat_eq y.request n ≡ b → AllAre (λ r. r ≡ n → ⊥) (request_in (if a then Some y else held_by x held)) → (AllAre (λ r. r ≡ n → ⊥) (request_in (held_by x held)) → request_in (held_by x (without_request n held)) ≡ request_in (held_by x held))
        → request_in (held_by x (if not b then y ∷ without_request n held else without_request n held)) ≡ request_in (if a then Some y else held_by x held)
    one true true ea eb other more = absurd (other.0 (eqb-true _ _ eb))
    one true false ea eb other more = ap (λ c. request_in (if c then Some y else held_by x (without_request n held))) ea
    one false true ea eb other more = more other
    one false false ea eb other more = ap (λ c. request_in (if c then Some y else held_by x (without_request n held))) ea ∙ more other

pub granted_kept : (ns : List ℕ) (held : List Held) (w : Wait) → AllAre (λ r. NotIn r ns) (granted_request held w) → granted_request (without_all ns held) w ≡ granted_request held w
granted_kept [] held w other = refl
granted_kept (n ∷ ns) held w other =
    let more : granted_request (without_all ns held) w ≡ granted_request held w = granted_kept ns held w (seconds_of n ns (granted_request held w) other) in
    one w (subst (AllAre (λ r. r ≡ n → ⊥)) (sym more) (firsts_of n ns (granted_request held w) other)) ∙ more
  where
    one : (w : Wait) → AllAre (λ r. r ≡ n → ⊥) (granted_request (without_all ns held) w) → granted_request (without_request n (without_all ns held)) w ≡ granted_request (without_all ns held) w
    one (Ready (GrantedAnswer x)) h = grant_kept x n (without_all ns held) h
    one (Ready Begin) h = refl
    one (Ready (Done code out)) h = refl
    one (Ready (DecidedAnswer proceed name)) h = refl
    one (Ready (Joined ends)) h = refl
    one (RequestWait r) h = refl
    one (BranchesWait js) h = refl

-- an executor that is free, and then granted
free_by : (x : ℕ) (held : List Held) → not (is_held held x) ≡ true → held_by x held ≡ None
free_by x [] e = refl
free_by x (y ∷ held) e = one (nat_eq y.executor x) e (free_by x held)
  where
    one : (b : Bool) → not (b || is_held held x) ≡ true → (not (is_held held x) ≡ true → held_by x held ≡ None) → (if b then Some y else held_by x held) ≡ None
    one true e more = absurd (cc)
    one false e more = more e

granted_by : (y : Held) (held : List Held) → held_by y.executor held ≡ None → held_by y.executor (with_held y held) ≡ Some y
granted_by y [] e = ap (λ c. if c then Some y else None) (same_number y.executor)
granted_by y (x ∷ held) e = one (nat_lt y.executor x.executor) (nat_eq x.executor y.executor) refl e (granted_by y held)
  where
    one : (a b : Bool) → nat_eq x.executor y.executor ≡ b → (if b then Some x else held_by y.executor held) ≡ None → (held_by y.executor held ≡ None → held_by y.executor (with_held y held) ≡ Some y) → held_by y.executor (if a then y ∷ x ∷ held else x ∷ with_held y held) ≡ Some y
    one a true eb e more = absurd (some_held x e)
    one true false eb e more = ap (λ c. if c then Some y else held_by y.executor (x ∷ held)) (same_number y.executor)
    one false false eb e more = ap (λ c. if c then Some x else held_by y.executor (with_held y held)) eb ∙ more e

pub grant_given : (y : Held) (held : List Held) → not (is_held held y.executor) ≡ true → granted_request (with_held y held) (Ready (GrantedAnswer y.executor)) ≡ y.request ∷ []
grant_given y held free = ap request_in (granted_by y held (free_by y.executor held free))

pub given_held : (y : Held) (held : List Held) → IsHeld (with_held y held) y.request
given_held y held = held_in y.request (with_held y held) (with_in y held)

-- what is held was asked for and is no longer open
pub open_free : (site : Site) (u : Common) → AllAre (HeldFits site u) u.held → (r : ℕ) → Some_of (λ q. q.number ≡ r) u.requests → IsHeld u.held r → ⊥
open_free site u fit r is h = some_all (HeldFits site u) (λ x. x.request ≡ r) ⊥ (λ x f same. some_all (λ q. q.number ≡ x.request → ⊥) (λ q. q.number ≡ r) ⊥ (λ q none at. none (at ∙ sym same)) u.requests (none_of x.request u.requests f.closed) is) u.held fit (in_held r u.held h)
