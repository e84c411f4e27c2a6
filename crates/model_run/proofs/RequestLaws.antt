-- Open requests and held executors through evaluations: numbers rise, no number is given twice, and each executor has its request.
use Rattle.std.proofs.Common.{arith, ◌≡◌, ◌≤◌, ◌<◌, ◌∙◌, ap, sym, subst, refl, inl, inr, ℕ, suc, Bool, true, false, List, [], ◌∷◌, map, filter, Some, None}
use Rattle.std.specs.Prelude.{nat_eq, nat_lt, not, find, if◌then◌else◌}
use Rattle.std.specs.List.{AllByRecursion as AllAre}
use Rattle.std.proofs.lemmas.Bool.{eqb-true, eqb-false, ltb-true, ltb-false}
use Rattle.model_values.proofs.CellGrowth.{all_append}
use Rattle.model_values.proofs.LaterLaws.{all_weaker}
use Rattle.model_run.specs.RunTypes.{Request, NodeRequest, TaskRequest, InputRequest, OpenRequest, Held, Site}
use Rattle.model_run.specs.Grants.{executor_of, with_held}
use Rattle.model_run.specs.State.{Common}
use Rattle.model_run.specs.Fitting.{Rise, Rises, Distinct, Some_of, HeldFits}
use Rattle.model_run.specs.Requests.{numbers_of, AsksMore, KeepsSome, RequestsFit, SameRequest, IsSame, WasOpen, RequestsGoOn}
use Rattle.model_run.specs.World.{change_if, with_taken, with_kept}
use Rattle.model_run.proofs.Asking.{rise_lower, rise_behind, numbers_behind}
use Rattle.model_run.proofs.Front.{front_itself, front_on}

-- lists
pub some_weaker : {A : Type 0} (P Q : A → Type 0) → ((x : A) → P x → Q x) → (xs : List A) → Some_of P xs → Some_of Q xs
some_weaker P Q up [] h = h
some_weaker P Q up (x ∷ xs) (inl h) = inl (up x h)
some_weaker P Q up (x ∷ xs) (inr h) = inr (some_weaker P Q up xs h)

pub some_all : {A : Type 0} (P Q : A → Type 0) (C : Type 0) → ((x : A) → P x → Q x → C) → (xs : List A) → AllAre P xs → Some_of Q xs → C
some_all P Q C up [] all h = absurd h
some_all P Q C up (x ∷ xs) all (inl h) = up x all.0 h
some_all P Q C up (x ∷ xs) all (inr h) = some_all P Q C up xs all.1 h

all_kept : {A : Type 0} (P : A → Type 0) (keep : A → Bool) (xs : List A) → AllAre P xs → AllAre P (filter keep xs)
all_kept P keep [] h = tt
all_kept P keep (x ∷ xs) h = one (keep x) (all_kept P keep xs h.1)
  where
    one : (b : Bool) → AllAre P (filter keep xs) → AllAre P (if b then x ∷ filter keep xs else filter keep xs)
    one true more = (h.0, more)
    one false more = more

-- the requests that a filter lets through satisfy its test
pub kept_pass : {A : Type 0} (keep : A → Bool) (xs : List A) → AllAre (λ x. keep x ≡ true) (filter keep xs)
kept_pass keep [] = tt
kept_pass keep (x ∷ xs) = one (keep x) refl (kept_pass keep xs)
  where
    one : (b : Bool) → keep x ≡ b → AllAre (λ y. keep y ≡ true) (filter keep xs) → AllAre (λ y. keep y ≡ true) (if b then x ∷ filter keep xs else filter keep xs)
    one true e more = (e, more)
    one false e more = more

-- no request of a number
abbrev pub NoneOf : ℕ → List OpenRequest → Type 0
NoneOf n rs = AllAre (λ r. r.number ≡ n → ⊥) rs

pub none_of : (n : ℕ) (rs : List OpenRequest) → find (λ r. nat_eq r.number n) rs ≡ None → NoneOf n rs
none_of n [] e = tt
none_of n (r ∷ rs) e = one (nat_eq r.number n) refl e (none_of n rs)
  where
    one : (b : Bool) → nat_eq r.number n ≡ b → (if b then Some r else find (λ q. nat_eq q.number n) rs) ≡ None → (find (λ q. nat_eq q.number n) rs ≡ None → NoneOf n rs) → NoneOf n (r ∷ rs)
    one true same e more = absurd (cc)
    one false other e more = (eqb-false _ _ other, more e)

pub found_none : (n : ℕ) (rs : List OpenRequest) → NoneOf n rs → find (λ r. nat_eq r.number n) rs ≡ None
found_none n [] h = refl
found_none n (r ∷ rs) h = one (nat_eq r.number n) refl (found_none n rs h.1)
  where
    one : (b : Bool) → nat_eq r.number n ≡ b → find (λ q. nat_eq q.number n) rs ≡ None → (if b then Some r else find (λ q. nat_eq q.number n) rs) ≡ None
    one true same more = absurd (h.0 (eqb-true _ _ same))
    one false other more = more

-- numbers that rise
pub rise_kept : (keep : OpenRequest → Bool) (n m : ℕ) (rs : List OpenRequest) → Rise n m (numbers_of rs) → Rise n m (numbers_of (filter keep rs))
rise_kept keep n m [] h = tt
rise_kept keep n m (r ∷ rs) h = one (keep r) (rise_kept keep (suc r.number) m rs h.2)
  where
    one : (b : Bool) → Rise (suc r.number) m (numbers_of (filter keep rs)) → Rise n m (numbers_of (if b then r ∷ filter keep rs else filter keep rs))
    one true more = (h.0, h.1, more)
    one false more = rise_lower n (suc r.number) m (numbers_of (filter keep rs)) (omega (arith, h.0)) more

pub rise_from : (n m : ℕ) (rs : List OpenRequest) → Rise n m (numbers_of rs) → AllAre (λ r. n ≤ r.number) rs
rise_from n m [] h = tt
rise_from n m (r ∷ rs) h = (h.0, all_weaker _ _ (λ q le. omega (arith, le, h.0)) rs (rise_from (suc r.number) m rs h.2))

pub rise_below : (n m : ℕ) (rs : List OpenRequest) → Rise n m (numbers_of rs) → AllAre (λ r. r.number < m) rs
rise_below n m [] h = tt
rise_below n m (r ∷ rs) h = (h.1, rise_below (suc r.number) m rs h.2)

rises_lower : (n m : ℕ) (ys : List ℕ) → n < m → Rises (m ∷ ys) → Rises (n ∷ ys)
rises_lower n m [] lt h = tt
rises_lower n m (y ∷ ys) lt h = (omega (arith, lt, h.0), h.1)

rises_rest : (m : ℕ) (ys : List ℕ) → Rises (m ∷ ys) → Rises ys
rises_rest m [] h = tt
rises_rest m (y ∷ ys) h = h.1

rises_kept_from : (keep : Held → Bool) (n : ℕ) (xs : List Held) → Rises (n ∷ map (λ x. x.executor) xs) → Rises (n ∷ map (λ x. x.executor) (filter keep xs))
rises_kept_from keep n [] h = tt
rises_kept_from keep n (x ∷ xs) h = one (keep x) (rises_kept_from keep x.executor xs h.1)
  where
    one : (b : Bool) → Rises (x.executor ∷ map (λ y. y.executor) (filter keep xs)) → Rises (n ∷ map (λ y. y.executor) (if b then x ∷ filter keep xs else filter keep xs))
    one true more = (h.0, more)
    one false more = rises_lower n x.executor _ h.0 more

rises_kept : (keep : Held → Bool) (xs : List Held) → Rises (map (λ x. x.executor) xs) → Rises (map (λ x. x.executor) (filter keep xs))
rises_kept keep [] h = tt
rises_kept keep (x ∷ xs) h = one (keep x) (rises_kept_from keep x.executor xs h)
  where
    one : (b : Bool) → Rises (x.executor ∷ map (λ y. y.executor) (filter keep xs)) → Rises (map (λ y. y.executor) (if b then x ∷ filter keep xs else filter keep xs))
    one true more = more
    one false more = rises_rest x.executor _ more

others_kept : (n : ℕ) (keep : Held → Bool) (xs : List Held) → AllAre (λ m. n ≡ m → ⊥) (map (λ x. x.request) xs) → AllAre (λ m. n ≡ m → ⊥) (map (λ x. x.request) (filter keep xs))
others_kept n keep [] h = tt
others_kept n keep (x ∷ xs) h = one (keep x) (others_kept n keep xs h.1)
  where
    one : (b : Bool) → AllAre (λ m. n ≡ m → ⊥) (map (λ y. y.request) (filter keep xs)) → AllAre (λ m. n ≡ m → ⊥) (map (λ y. y.request) (if b then x ∷ filter keep xs else filter keep xs))
    one true more = (h.0, more)
    one false more = more

differ_kept : (keep : Held → Bool) (xs : List Held) → Distinct (map (λ x. x.request) xs) → Distinct (map (λ x. x.request) (filter keep xs))
differ_kept keep [] h = tt
differ_kept keep (x ∷ xs) h = one (keep x) (others_kept x.request keep xs h.0) (differ_kept keep xs h.1)
  where
    one : (b : Bool) → AllAre (λ m. x.request ≡ m → ⊥) (map (λ y. y.request) (filter keep xs)) → Distinct (map (λ y. y.request) (filter keep xs)) → Distinct (map (λ y. y.request) (if b then x ∷ filter keep xs else filter keep xs))
    one true apart more = (apart, more)
    one false apart more = more

-- the same request
same_itself : (r : Request) → SameRequest r r
same_itself (NodeRequest l) = refl
same_itself (TaskRequest x w f e s st k t o) = (refl, refl, refl, refl, refl, refl, refl, front_itself o)
same_itself (InputRequest i) = refl

same_on : (a b c : Request) → SameRequest a b → SameRequest b c → SameRequest a c
same_on (NodeRequest a) (NodeRequest b) (NodeRequest c) h k = h ∙ k
same_on (NodeRequest a) (NodeRequest b) c h k = absurd k
same_on (NodeRequest a) b c h k = absurd h
same_on (TaskRequest x1 w1 f1 e1 s1 st1 k1 t1 o1) (TaskRequest x2 w2 f2 e2 s2 st2 k2 t2 o2) (TaskRequest x3 w3 f3 e3 s3 st3 k3 t3 o3) h k = (h.0 ∙ k.0, h.1 ∙ k.1, h.2 ∙ k.2, h.3 ∙ k.3, h.4 ∙ k.4, h.5 ∙ k.5, h.6 ∙ k.6, front_on o1 o2 o3 h.7 k.7)
same_on (TaskRequest x1 w1 f1 e1 s1 st1 k1 t1 o1) (TaskRequest x2 w2 f2 e2 s2 st2 k2 t2 o2) c h k = absurd k
same_on (TaskRequest x1 w1 f1 e1 s1 st1 k1 t1 o1) b c h k = absurd h
same_on (InputRequest a) (InputRequest b) (InputRequest c) h k = h ∙ k
same_on (InputRequest a) (InputRequest b) c h k = absurd k
same_on (InputRequest a) b c h k = absurd h

pub is_itself : (r : OpenRequest) → IsSame r r
is_itself r = record { number = refl; thread = refl; request = same_itself r.request }

is_on : (a b c : OpenRequest) → IsSame a b → IsSame b c → IsSame a c
is_on a b c h k = record { number = h.number ∙ k.number; thread = h.thread ∙ k.thread; request = same_on a.request b.request c.request h.request k.request }

pub all_open : (rs : List OpenRequest) → AllAre (λ r. Some_of (λ q. IsSame q r) rs) rs
all_open [] = tt
all_open (r ∷ rs) = (inl (is_itself r), all_weaker _ _ (λ q h. inr h) rs (all_open rs))

-- requests go on
pub goes_on_if : (u v : Common) → u.next_request ≤ v.next_request → AllAre (λ r. Some_of (λ q. IsSame q r) u.requests) v.requests → RequestsGoOn u v
goes_on_if u v le all = record { next = le; were = all_weaker _ _ (λ r h. inl h) v.requests all }

pub goes_on_itself : (u : Common) → RequestsGoOn u u
goes_on_itself u = goes_on_if u u (omega arith) (all_open u.requests)

was_open_by : (u : Common) (q r : OpenRequest) → WasOpen u q → IsSame q r → WasOpen u r
was_open_by u q r (inl h) same = inl (some_weaker _ _ (λ p is. is_on p q r is same) u.requests h)
was_open_by u q r (inr le) same = inr (omega (arith, le, same.number))

was_open_on : (u v : Common) → RequestsGoOn u v → (r : OpenRequest) → WasOpen v r → WasOpen u r
was_open_on u v h r (inl was) = some_all (WasOpen u) (λ q. IsSame q r) (WasOpen u r) (λ q a b. was_open_by u q r a b) v.requests h.were was
was_open_on u v h r (inr le) = inr (omega (arith, le, h.next))

pub goes_on_then : (u v w : Common) → RequestsGoOn u v → RequestsGoOn v w → RequestsGoOn u w
goes_on_then u v w h k = record { next = omega (arith, h.next, k.next); were = all_weaker _ _ (was_open_on u v h) w.requests k.were }

-- an evaluation
pub asks_go_on : (u v : Common) → AsksMore u v → RequestsGoOn u v
asks_go_on u v h = record {
  next = h.next;
  were = subst (λ rs. AllAre (WasOpen u) rs) (sym h.requests) (all_append (WasOpen u) u.requests h.new
      (all_weaker _ _ (λ r is. inl is) u.requests (all_open u.requests)) (all_weaker _ _ (λ r le. inr le) h.new (rise_from u.next_request v.next_request h.new h.numbers)));
}

held_on : (site : Site) (u v : Common) → AsksMore u v → (x : Held) → HeldFits site u x → HeldFits site v x
held_on site u v h x fit = record {
  executor = fit.executor;
  made = let lt : x.request < u.next_request = fit.made in omega (arith, lt, h.next);
  closed = found_none x.request v.requests (subst (NoneOf x.request) (sym h.requests) (all_append _ u.requests h.new (none_of x.request u.requests fit.closed)
      (all_weaker _ _ (λ r le e. (let lt : x.request < u.next_request = fit.made in omega (arith, le, lt, e))) h.new (rise_from u.next_request v.next_request h.new h.numbers))));
}

pub asks_fit : (site : Site) (u v : Common) → AsksMore u v → KeepsSome u.held v.held → RequestsFit site u → RequestsFit site v
asks_fit site u v h k fit = record {
  some = omega (arith, fit.some, h.next);
  requests = subst (λ rs. Rise 1 v.next_request (numbers_of rs)) (sym h.requests) (subst (Rise 1 v.next_request) (sym (numbers_behind u.requests h.new)) (rise_behind 1 u.next_request v.next_request (numbers_of u.requests) (numbers_of h.new) fit.some h.next fit.requests h.numbers));
  rising = subst (λ xs. Rises (map (λ x. x.executor) xs)) (sym k.1) (rises_kept k.0 u.held fit.rising);
  held = subst (λ xs. AllAre (HeldFits site v) xs) (sym k.1) (all_kept (HeldFits site v) k.0 u.held (all_weaker _ _ (held_on site u v h) u.held fit.held));
  differ = subst (λ xs. Distinct (map (λ x. x.request) xs)) (sym k.1) (differ_kept k.0 u.held fit.differ);
}

-- a request is closed, and an executor is held for it
held_as_open : (site : Site) (u v : Common) → u.next_request ≤ v.next_request → ((n : ℕ) → NoneOf n u.requests → NoneOf n v.requests) → (x : Held) → HeldFits site u x → HeldFits site v x
held_as_open site u v le none x fit = record {
  executor = fit.executor;
  made = let lt : x.request < u.next_request = fit.made in omega (arith, lt, le);
  closed = found_none x.request v.requests (none x.request (none_of x.request u.requests fit.closed));
}

abbrev pub other_than : ℕ → OpenRequest → Bool
other_than n r = not (nat_eq r.number n)

pub close_goes_on : (n : ℕ) (u : Common) → RequestsGoOn u (record u { requests = filter (other_than n) u.requests })
close_goes_on n u = goes_on_if u (record u { requests = filter (other_than n) u.requests }) (omega arith) (all_kept (λ r. Some_of (λ q. IsSame q r) u.requests) (other_than n) u.requests (all_open u.requests))

pub close_fits : (site : Site) (n : ℕ) (u : Common) → RequestsFit site u → RequestsFit site (record u { requests = filter (other_than n) u.requests })
close_fits site n u fit = record {
  some = fit.some;
  requests = rise_kept (other_than n) 1 u.next_request u.requests fit.requests;
  rising = fit.rising;
  held = all_weaker _ _ (held_as_open site u (record u { requests = filter (other_than n) u.requests }) (omega arith) (λ m h. all_kept (λ r. r.number ≡ m → ⊥) (other_than n) u.requests h)) u.held fit.held;
  differ = fit.differ;
}

other_number : (n m : ℕ) → not (nat_eq m n) ≡ true → m ≡ n → ⊥
other_number n m e = one (nat_eq m n) refl e
  where
    one : (b : Bool) → nat_eq m n ≡ b → not b ≡ true → m ≡ n → ⊥
    one true same e = absurd (cc)
    one false other e = eqb-false _ _ other

pub closed_now : (n : ℕ) (rs : List OpenRequest) → NoneOf n (filter (other_than n) rs)
closed_now n rs = all_weaker _ _ (λ r e. other_number n r.number e) (filter (other_than n) rs) (kept_pass (other_than n) rs)

all_with : (P : Held → Type 0) (y : Held) (xs : List Held) → P y → AllAre P xs → AllAre P (with_held y xs)
all_with P y [] p h = (p, tt)
all_with P y (x ∷ xs) p h = one (nat_lt y.executor x.executor) (all_with P y xs p h.1)
  where
    one : (b : Bool) → AllAre P (with_held y xs) → AllAre P (if b then y ∷ x ∷ xs else x ∷ with_held y xs)
    one true more = (p, h)
    one false more = (h.0, more)

abbrev OthersOf : ℕ → List Held → Type 0
OthersOf n xs = AllAre (λ x. x.executor ≡ n → ⊥) xs

above : (n m : ℕ) → nat_lt n m ≡ false → (m ≡ n → ⊥) → m < n
above n m e never = omega (arith, ltb-false n m e, never)

rises_with_from : (n : ℕ) (y : Held) (xs : List Held) → n < y.executor → OthersOf y.executor xs → Rises (n ∷ map (λ x. x.executor) xs) → Rises (n ∷ map (λ x. x.executor) (with_held y xs))
rises_with_from n y [] lt other h = (lt, tt)
rises_with_from n y (x ∷ xs) lt other h = one (nat_lt y.executor x.executor) refl (rises_with_from x.executor y xs)
  where
    one : (b : Bool) → nat_lt y.executor x.executor ≡ b → (x.executor < y.executor → OthersOf y.executor xs → Rises (x.executor ∷ map (λ z. z.executor) xs) → Rises (x.executor ∷ map (λ z. z.executor) (with_held y xs))) → Rises (n ∷ map (λ z. z.executor) (if b then y ∷ x ∷ xs else x ∷ with_held y xs))
    one true e more = (lt, (ltb-true _ _ e, h.1))
    one false e more = (h.0, more (above y.executor x.executor e other.0) other.1 h.1)

rises_with : (y : Held) (xs : List Held) → OthersOf y.executor xs → Rises (map (λ x. x.executor) xs) → Rises (map (λ x. x.executor) (with_held y xs))
rises_with y [] other h = tt
rises_with y (x ∷ xs) other h = one (nat_lt y.executor x.executor) refl
  where
    one : (b : Bool) → nat_lt y.executor x.executor ≡ b → Rises (map (λ z. z.executor) (if b then y ∷ x ∷ xs else x ∷ with_held y xs))
    one true e = (ltb-true _ _ e, h)
    one false e = rises_with_from x.executor y xs (above y.executor x.executor e other.0) other.1 h

others_with : (n : ℕ) (y : Held) (xs : List Held) → (n ≡ y.request → ⊥) → AllAre (λ m. n ≡ m → ⊥) (map (λ x. x.request) xs) → AllAre (λ m. n ≡ m → ⊥) (map (λ x. x.request) (with_held y xs))
others_with n y [] never h = (never, tt)
others_with n y (x ∷ xs) never h = one (nat_lt y.executor x.executor) (others_with n y xs never h.1)
  where
    one : (b : Bool) → AllAre (λ m. n ≡ m → ⊥) (map (λ z. z.request) (with_held y xs)) → AllAre (λ m. n ≡ m → ⊥) (map (λ z. z.request) (if b then y ∷ x ∷ xs else x ∷ with_held y xs))
    one true more = (never, h)
    one false more = (h.0, more)

-- the requests of held executors are others than this one
abbrev RequestsOther : ℕ → List Held → Type 0
RequestsOther n xs = AllAre (λ x. x.request ≡ n → ⊥) xs

as_numbers : (n : ℕ) (xs : List Held) → RequestsOther n xs → AllAre (λ m. n ≡ m → ⊥) (map (λ x. x.request) xs)
as_numbers n [] h = tt
as_numbers n (x ∷ xs) h = ((λ e. h.0 (sym e)), as_numbers n xs h.1)

differ_with : (y : Held) (xs : List Held) → RequestsOther y.request xs → Distinct (map (λ x. x.request) xs) → Distinct (map (λ x. x.request) (with_held y xs))
differ_with y [] other h = (tt, tt)
differ_with y (x ∷ xs) other h = one (nat_lt y.executor x.executor) (differ_with y xs other.1 h.1)
  where
    one : (b : Bool) → Distinct (map (λ z. z.request) (with_held y xs)) → Distinct (map (λ z. z.request) (if b then y ∷ x ∷ xs else x ∷ with_held y xs))
    one true more = (as_numbers y.request (x ∷ xs) other, h)
    one false more = (others_with x.request y xs other.0 h.0, more)

open_other : (n : ℕ) (rs : List OpenRequest) → Some_of (λ r. r.number ≡ n) rs → (m : ℕ) → NoneOf m rs → m ≡ n → ⊥
open_other n rs were m none e = some_all (λ r. r.number ≡ m → ⊥) (λ r. r.number ≡ n) ⊥ (λ r never at. never (at ∙ sym e)) rs none were

pub grant_fits : (site : Site) (y : Held) (u : Common) → (executor_of site y.executor ≡ None → ⊥) → Some_of (λ r. r.number ≡ y.request) u.requests → AllAre (λ x. x.executor ≡ y.executor → ⊥) u.held → RequestsFit site u
    → RequestsFit site (record u { held = with_held y u.held; requests = filter (other_than y.request) u.requests })
grant_fits site y u known were free fit =
    let below : y.request < u.next_request = some_all (λ r. r.number < u.next_request) (λ r. r.number ≡ y.request) (y.request < u.next_request) (λ r lt at. omega (arith, lt, at)) u.requests (rise_below 1 u.next_request u.requests fit.requests) were in
    let closed : RequestsFit site (record u { requests = filter (other_than y.request) u.requests }) = close_fits site y.request u fit in
    let new : HeldFits site (record u { held = with_held y u.held; requests = filter (other_than y.request) u.requests }) y = record { executor = known; made = below; closed = found_none y.request (filter (other_than y.request) u.requests) (closed_now y.request u.requests) } in
    record {
      some = fit.some;
      requests = closed.requests;
      rising = rises_with y u.held free fit.rising;
      held = all_with (HeldFits site (record u { held = with_held y u.held; requests = filter (other_than y.request) u.requests })) y u.held new (all_weaker _ _ (λ x h. record { executor = h.executor; made = h.made; closed = h.closed }) u.held closed.held);
      differ = differ_with y u.held (all_weaker _ _ (λ x h. open_other y.request u.requests were x.request (none_of x.request u.requests h.closed)) u.held fit.held) fit.differ;
    }

-- what is asked stays, and only what was taken of its output changes
pub numbers_changed : (g : Request → Request) (n : ℕ) (rs : List OpenRequest) → numbers_of (map (change_if g n) rs) ≡ numbers_of rs
numbers_changed g n [] = refl
numbers_changed g n (r ∷ rs) = one (nat_eq r.number n) (numbers_changed g n rs)
  where
    one : (b : Bool) → numbers_of (map (change_if g n) rs) ≡ numbers_of rs → (if b then record r { request = g r.request } else r).number ∷ numbers_of (map (change_if g n) rs) ≡ r.number ∷ numbers_of rs
    one true more = ap (λ ns. r.number ∷ ns) more
    one false more = ap (λ ns. r.number ∷ ns) more

none_changed : (g : Request → Request) (n m : ℕ) (rs : List OpenRequest) → NoneOf m rs → NoneOf m (map (change_if g n) rs)
none_changed g n m [] h = tt
none_changed g n m (r ∷ rs) h = (one (nat_eq r.number n), none_changed g n m rs h.1)
  where
    one : (b : Bool) → (if b then record r { request = g r.request } else r).number ≡ m → ⊥
    one true = h.0
    one false = h.0

changed_open : (g : Request → Request) → ((r : Request) → SameRequest r (g r)) → (n : ℕ) (rs : List OpenRequest) → AllAre (λ r. Some_of (λ q. IsSame q r) rs) (map (change_if g n) rs)
changed_open g same n [] = tt
changed_open g same n (r ∷ rs) = (inl (one (nat_eq r.number n)), all_weaker _ _ (λ q h. inr h) (map (change_if g n) rs) (changed_open g same n rs))
  where
    one : (b : Bool) → IsSame r (if b then record r { request = g r.request } else r)
    one true = record { number = refl; thread = refl; request = same r.request }
    one false = is_itself r

pub change_goes_on : (g : Request → Request) → ((r : Request) → SameRequest r (g r)) → (n : ℕ) (u v : Common) → v.next_request ≡ u.next_request → v.requests ≡ map (change_if g n) u.requests → RequestsGoOn u v
change_goes_on g same n u v next e = goes_on_if u v (omega (arith, next)) (subst (λ rs. AllAre (λ r. Some_of (λ q. IsSame q r) u.requests) rs) (sym e) (changed_open g same n u.requests))

pub change_fits : (g : Request → Request) (site : Site) (n : ℕ) (u v : Common) → v.next_request ≡ u.next_request → v.requests ≡ map (change_if g n) u.requests → v.held ≡ u.held → RequestsFit site u → RequestsFit site v
change_fits g site n u v next e same fit = record {
  some = omega (arith, fit.some, next);
  requests = subst (λ m. Rise 1 m (numbers_of v.requests)) (sym next) (subst (Rise 1 u.next_request) (sym (ap numbers_of e ∙ numbers_changed g n u.requests)) fit.requests);
  rising = subst (λ xs. Rises (map (λ x. x.executor) xs)) (sym same) fit.rising;
  held = subst (λ xs. AllAre (HeldFits site v) xs) (sym same) (all_weaker _ _ (held_as_open site u v (omega (arith, next)) (λ m h. subst (NoneOf m) (sym e) (none_changed g n m u.requests h))) u.held fit.held);
  differ = subst (λ xs. Distinct (map (λ x. x.request) xs)) (sym same) fit.differ;
}

pub taken_same : (n : ℕ) (r : Request) → SameRequest r (with_taken n r)
taken_same n (NodeRequest l) = refl
taken_same n (TaskRequest x w f e s st k t o) = (refl, refl, refl, refl, refl, refl, refl, front_itself o)
taken_same n (InputRequest i) = refl

pub kept_same : (bytes : List ℕ) (r : Request) → SameRequest r (with_kept bytes r)
kept_same bytes (NodeRequest l) = refl
kept_same bytes (TaskRequest x w f e s st k t o) = (refl, refl, refl, refl, refl, refl, refl, (bytes, refl))
kept_same bytes (InputRequest i) = refl
