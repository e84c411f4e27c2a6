-- The executors of requests that differ stay held while those of others are given back.
use Rattle.std.proofs.Common.{◌≡◌, ◌∙◌, ℕ, Bool, true, false, List, [], ◌∷◌, ◌++◌, Option, Some, None, append_assoc, refl, sym, ap, subst}
use Rattle.std.specs.Prelude.{if◌then◌else◌, nat_eq, not}
use Rattle.std.specs.List.{AllByRecursion as AllAre}
use Rattle.std.proofs.lemmas.Bool.{eqb-true, eq-eqb}
use Rattle.model_run.specs.declared.ending.Ending.{Ending}
use Rattle.model_run.specs.declared.ending.Ending.TheVariants.{Answered}
use Rattle.model_run.specs.declared.frame.Frame.{Frame}
use Rattle.model_run.specs.declared.held.Held.{Held}
use Rattle.model_run.specs.declared.wait.Answer.TheVariants.{Begin, Granted, Done, Decided, Joined}
use Rattle.model_run.specs.Fitting.{Distinct, request_in}
use Rattle.model_run.specs.Grants.{without_request}
use Rattle.model_run.specs.State.{World}
use Rattle.model_run.specs.Steps.{held_by, held_for}
use Rattle.run_laws.specs.Soundness.{Open, Pausing, without_all}
use Rattle.cps_frames.specs.Places.{IsHeld, granted_by}
use Rattle.cps_frames.specs.declared.thread.Move.TheVariants.{Ends}

pub all_split : {A : Type 0} (P : A → Type 0) (xs ys : List A) → AllAre P (xs ++ ys) → AllAre P xs × AllAre P ys
all_split P [] ys h = (tt, h)
all_split P (x ∷ xs) ys h = let rest = all_split P xs ys h.1 in ((h.0, rest.0), rest.1)

some_held : (x : Held) → Some x ≡ None → ⊥
some_held x e = absurd (cc)

-- the executor of another request stays held
held_kept : (r n : ℕ) → (r ≡ n → ⊥) → (held : List Held) → IsHeld held r → IsHeld (without_request n held) r
held_kept r n other [] h = h
held_kept r n other (x ∷ held) h = one (nat_eq x.request r) (nat_eq x.request n) refl refl h (held_kept r n other held)
  where
    one : (a b : Bool) → nat_eq x.request r ≡ a → nat_eq x.request n ≡ b → ((if a then Some x else held_for r held) ≡ None → ⊥) → (IsHeld held r → IsHeld (without_request n held) r) → IsHeld (if not b then x ∷ without_request n held else without_request n held) r
    one true true ea eb h more = absurd (other (sym (eqb-true _ _ ea) ∙ eqb-true _ _ eb))
    one true false ea eb h more = subst (λ c. (if c then Some x else held_for r (without_request n held)) ≡ None → ⊥) (sym ea) (some_held x)
    one false true ea eb h more = more h
    one false false ea eb h more = subst (λ c. (if c then Some x else held_for r (without_request n held)) ≡ None → ⊥) (sym ea) (more h)

kept_all : (r : ℕ) (ns : List ℕ) → AllAre (λ n. r ≡ n → ⊥) ns → (held : List Held) → IsHeld held r → IsHeld (without_all ns held) r
kept_all r [] other held h = h
kept_all r (n ∷ ns) other held h = held_kept r n other.0 (without_all ns held) (kept_all r ns other.1 held h)

-- the front of a list that differs
pub distinct_front : (xs ys : List ℕ) → Distinct (xs ++ ys) → Distinct xs
distinct_front [] ys d = tt
distinct_front (x ∷ xs) ys d = ((all_split (λ m. x ≡ m → ⊥) xs ys d.0).0, distinct_front xs ys d.1)

front_held : (was : List Held) (front rest : List ℕ) → Distinct (front ++ rest) → AllAre (IsHeld was) (front ++ rest) → AllAre (IsHeld (without_all rest was)) front
front_held was [] rest d h = tt
front_held was (x ∷ front) rest d h = (kept_all x rest (all_split (λ m. x ≡ m → ⊥) front rest d.0).1 was h.0, front_held was front rest d.1 h.1)

-- Of requests that differ and are all held, those that stay in the context are held still.
pub still_held : (o : Open) (fs : List Frame) (w : World) → Pausing o fs w → Distinct (o.nodes ++ o.gone) → AllAre (IsHeld o.was) (o.nodes ++ o.gone) → AllAre (IsHeld w.shared.held) w.own.context.held × Distinct w.own.context.held
still_held o fs w p d h =
    let all : o.nodes ++ o.gone ≡ (o.nodes ++ p.own) ++ p.rest = ap (λ ns. o.nodes ++ ns) p.gone ∙ sym (append_assoc o.nodes p.own p.rest) in
    let differ : Distinct ((o.nodes ++ p.own) ++ p.rest) = subst Distinct all d in
    let held : AllAre (IsHeld (without_all p.rest o.was)) (o.nodes ++ p.own) = front_held o.was (o.nodes ++ p.own) p.rest differ (subst (AllAre (IsHeld o.was)) all h) in
    (subst (AllAre (IsHeld w.shared.held)) (sym p.nodes) (subst (λ x. AllAre (IsHeld x) (o.nodes ++ p.own)) (sym p.held) held), subst Distinct (sym p.nodes) (distinct_front (o.nodes ++ p.own) p.rest differ))

-- an executor that is held
first_held : (y : Held) (held : List Held) → IsHeld (y ∷ held) y.request
first_held y held = subst (λ c. (if c then Some y else held_for y.request held) ≡ None → ⊥) (sym (eq-eqb y.request y.request refl)) (some_held y)

held_more : (r : ℕ) (y : Held) (held : List Held) → IsHeld held r → IsHeld (y ∷ held) r
held_more r y held h = one (nat_eq y.request r)
  where
    one : (b : Bool) → (if b then Some y else held_for r held) ≡ None → ⊥
    one true = some_held y
    one false = h

by_held : (x : ℕ) (held : List Held) → AllAre (IsHeld held) (request_in (held_by x held))
by_held x [] = tt
by_held x (y ∷ held) = one (nat_eq y.executor x) (by_held x held)
  where
    deeper : (o : Option Held) → AllAre (IsHeld held) (request_in o) → AllAre (IsHeld (y ∷ held)) (request_in o)
    deeper None h = tt
    deeper (Some z) h = (held_more z.request y held h.0, tt)

    one : (b : Bool) → AllAre (IsHeld held) (request_in (held_by x held)) → AllAre (IsHeld (y ∷ held)) (request_in (if b then Some y else held_by x held))
    one true more = (first_held y held, tt)
    one false more = deeper (held_by x held) more

pub granted_held : (held : List Held) (e : Ending) → AllAre (IsHeld held) (granted_by held (Ends e))
granted_held held (Answered (Granted x)) = by_held x held
granted_held held (Answered Begin) = tt
granted_held held (Answered (Done code out)) = tt
granted_held held (Answered (Decided proceed name)) = tt
granted_held held (Answered (Joined ends)) = tt
granted_held held e = tt
