-- Threads and open requests go on to agree through each change that a build makes: an answer, a new request, new branches, and the end
-- of a branch.
use Rattle.std.proofs.Common.{arith, ◌≡◌, ◌≤◌, ◌<◌, ◌+◌, ◌∙◌, ap, sym, subst, refl, inl, inr, ℕ, suc, Bool, true, false, List, [], ◌∷◌, ◌++◌, map, filter, length, Option, Some, None}
use Rattle.std.specs.Prelude.{nat_eq, not, if◌then◌else◌, option_map}
use Rattle.std.specs.List.{AllByRecursion as AllAre}
use Rattle.std.proofs.lemmas.Bool.{eqb-true, eqb-false}
use Rattle.model_values.proofs.CellGrowth.{all_append}
use Rattle.model_values.proofs.LaterLaws.{all_weaker}
use Rattle.model_run.specs.declared.wait.Answer.{Answer}
use Rattle.model_run.specs.declared.wait.Answer.TheVariants.{Begin}
use Rattle.model_run.specs.declared.wait.Wait.{Wait}
use Rattle.model_run.specs.declared.wait.Wait.TheVariants.{Ready, Request as RequestWait, Branches as BranchesWait}
use Rattle.model_run.specs.declared.wait.Join.{Join}
use Rattle.model_run.specs.declared.wait.JoinEnd.{JoinEnd}
use Rattle.model_run.specs.declared.wait.BranchEnd.{BranchEnd}
use Rattle.model_values.specs.declared.value.Outcome.{Outcome}
use Rattle.model_run.specs.declared.request.Request.{Request}
use Rattle.model_run.specs.declared.request.OpenRequest.{OpenRequest}
use Rattle.model_run.specs.State.{Own}
use Rattle.model_run.specs.declared.ending.Branch.{Branch}
use Rattle.model_run.specs.Fitting.{Rise, Distinct, Some_of, IsOpen, Waited}
use Rattle.model_run.specs.Requests.{numbers_of}
use Rattle.model_run.specs.Threads.{Thread}
use Rattle.model_run.specs.World.{branch_threads, joins_of, ends_before, join_end, branch_end, and_end, all_ended, joined_wait, join_wait, thread_of, change_if}
use Rattle.model_run.proofs.Asking.{rise_lower, rise_higher, rise_behind, numbers_behind}
use Rattle.model_run.proofs.RequestLaws.{some_weaker, some_all, rise_from, rise_kept, numbers_changed}
use Rattle.world_laws.specs.Agreement.{Place, place_of, places, place_numbers, HasPlace, IsThere, ParentAgrees, BranchAgrees, WaitAgrees, IsAwaited, PlacesAgree}

-- lists
pub some_front : {A : Type 0} (P : A → Type 0) (xs ys : List A) → Some_of P xs → Some_of P (xs ++ ys)
some_front P [] ys h = absurd h
some_front P (x ∷ xs) ys (inl h) = inl h
some_front P (x ∷ xs) ys (inr h) = inr (some_front P xs ys h)

pub some_behind : {A : Type 0} (P : A → Type 0) (xs ys : List A) → Some_of P ys → Some_of P (xs ++ ys)
some_behind P [] ys h = h
some_behind P (x ∷ xs) ys h = inr (some_behind P xs ys h)

-- all but those of number n
abbrev pub others : {A : Type 0} → (A → ℕ) → ℕ → List A → List A
others number n xs = filter (λ x. not (nat_eq (number x) n)) xs

pub all_others : {A : Type 0} (number : A → ℕ) (P Q : A → Type 0) (n : ℕ) → ((x : A) → (number x ≡ n → ⊥) → P x → Q x) → (xs : List A) → AllAre P xs → AllAre Q (others number n xs)
all_others number P Q n other [] h = tt
all_others number P Q n other (x ∷ xs) h = one (nat_eq (number x) n) refl (all_others number P Q n other xs h.1)
  where
    one : (b : Bool) → nat_eq (number x) n ≡ b → AllAre Q (others number n xs) → AllAre Q (if not b then x ∷ others number n xs else others number n xs)
    one true e more = more
    one false e more = (other x (eqb-false _ _ e) h.0, more)

pub some_others : {A : Type 0} (number : A → ℕ) (P : A → Type 0) (n : ℕ) (xs : List A) → AllAre (λ x. number x ≡ n → P x → ⊥) xs → Some_of P xs → Some_of P (others number n xs)
some_others number P n [] all h = absurd h
some_others number P n (x ∷ xs) all h = one (nat_eq (number x) n) refl h (some_others number P n xs all.1)
  where
    one : (b : Bool) → nat_eq (number x) n ≡ b → Some_of P (x ∷ xs) → (Some_of P xs → Some_of P (others number n xs)) → Some_of P (if not b then x ∷ others number n xs else others number n xs)
    one true e (inl p) more = absurd (all.0 (eqb-true _ _ e) p)
    one true e (inr p) more = more p
    one false e (inl p) more = inl p
    one false e (inr p) more = inr (more p)

abbrev open_others : (n : ℕ) → List OpenRequest → List OpenRequest
open_others n rs = others (λ r. r.number) n rs

-- requests of one number are of one thread
thread_one : (k m n : ℕ) (rs : List OpenRequest) → Rise k m (numbers_of rs) → AllAre (λ r. r.number ≡ n → r.thread ≡ thread_of n rs) rs
thread_one k m n [] h = tt
thread_one k m n (r ∷ rs) h = one (nat_eq r.number n) refl (thread_one (suc r.number) m n rs h.2)
  where
    one : (b : Bool) → nat_eq r.number n ≡ b → AllAre (λ q. q.number ≡ n → q.thread ≡ thread_of n rs) rs → AllAre (λ q. q.number ≡ n → q.thread ≡ (if b then r.thread else thread_of n rs)) (r ∷ rs)
    one true e more = ((λ same. refl), all_weaker _ _ (λ q le same. absurd (omega (arith, le, same, eqb-true _ _ e))) rs (rise_from (suc r.number) m rs h.2))
    one false e more = ((λ same. absurd (eqb-false _ _ e same)), more)

-- the thread of an open request waits for it
open_awaited : (ps : List Place) (n : ℕ) (rs : List OpenRequest) → AllAre (IsAwaited ps) rs → Some_of (λ r. r.number ≡ n) rs → HasPlace (λ p. p.wait ≡ RequestWait n) (thread_of n rs) ps
open_awaited ps n [] all h = absurd h
open_awaited ps n (r ∷ rs) all h = one (nat_eq r.number n) refl h (open_awaited ps n rs all.1)
  where
    one : (b : Bool) → nat_eq r.number n ≡ b → Some_of (λ q. q.number ≡ n) (r ∷ rs) → (Some_of (λ q. q.number ≡ n) rs → HasPlace (λ p. p.wait ≡ RequestWait n) (thread_of n rs) ps) → HasPlace (λ p. p.wait ≡ RequestWait n) (if b then r.thread else thread_of n rs) ps
    one true e is more = subst (λ k. HasPlace (λ p. p.wait ≡ RequestWait k) r.thread ps) (eqb-true _ _ e) all.0
    one false e (inl is) more = absurd (eqb-false _ _ e is)
    one false e (inr is) more = more is

-- places of one number are one place
places_from : (n m : ℕ) (ps : List Place) → Rise n m (place_numbers ps) → AllAre (λ p. n ≤ p.number) ps
places_from n m [] h = tt
places_from n m (p ∷ ps) h = (h.0, all_weaker _ _ (λ q le. omega (arith, le, h.0)) ps (places_from (suc p.number) m ps h.2))

pub only_place : (P : Place → Type 0) (n k m : ℕ) (ps : List Place) → Rise k m (place_numbers ps) → HasPlace P n ps → AllAre (λ p. p.number ≡ n → P p) ps
only_place P n k m [] rise h = absurd h
only_place P n k m (p ∷ ps) rise (inl h) = ((λ same. h.1), all_weaker _ _ (λ q le same. absurd (omega (arith, le, same, h.0))) ps (places_from (suc p.number) m ps rise.2))
only_place P n k m (p ∷ ps) rise (inr h) = (
  (λ same. some_all (λ q. suc p.number ≤ q.number) (λ q. (q.number ≡ n) × P q) (P p) (λ q le at. absurd (omega (arith, le, same, at.0))) ps (places_from (suc p.number) m ps rise.2) h),
  only_place P n (suc p.number) m ps rise.2 h,
)

-- Thread n waits for something else.
abbrev pub waiting : (Wait → Wait) → ℕ → Place → Place
waiting f n p = if nat_eq p.number n then record p { wait = f p.wait } else p

pub waiting_numbers : (f : Wait → Wait) (n : ℕ) (ps : List Place) → place_numbers (map (waiting f n) ps) ≡ place_numbers ps
waiting_numbers f n [] = refl
waiting_numbers f n (p ∷ ps) = one (nat_eq p.number n) (waiting_numbers f n ps)
  where
    one : (b : Bool) → place_numbers (map (waiting f n) ps) ≡ place_numbers ps → (if b then record p { wait = f p.wait } else p).number ∷ place_numbers (map (waiting f n) ps) ≡ p.number ∷ place_numbers ps
    one true more = ap (λ ns. p.number ∷ ns) more
    one false more = ap (λ ns. p.number ∷ ns) more

all_waiting : (f : Wait → Wait) (n : ℕ) (P Q : Place → Type 0) → ((p : Place) → p.number ≡ n → P p → Q (record p { wait = f p.wait })) → ((p : Place) → (p.number ≡ n → ⊥) → P p → Q p) → (ps : List Place) → AllAre P ps → AllAre Q (map (waiting f n) ps)
all_waiting f n P Q same other [] h = tt
all_waiting f n P Q same other (p ∷ ps) h = (one (nat_eq p.number n) refl, all_waiting f n P Q same other ps h.1)
  where
    one : (b : Bool) → nat_eq p.number n ≡ b → Q (if b then record p { wait = f p.wait } else p)
    one true e = same p (eqb-true _ _ e) h.0
    one false e = other p (eqb-false _ _ e) h.0

-- R is known of thread n
has_waiting : (f : Wait → Wait) (n m : ℕ) (R P Q : Place → Type 0) → ((p : Place) → p.number ≡ n → p.number ≡ m → R p → P p → Q (record p { wait = f p.wait })) → ((p : Place) → (p.number ≡ n → ⊥) → p.number ≡ m → P p → Q p) → (ps : List Place) → AllAre (λ p. p.number ≡ n → R p) ps → HasPlace P m ps → HasPlace Q m (map (waiting f n) ps)
has_waiting f n m R P Q same other [] all h = absurd h
has_waiting f n m R P Q same other (p ∷ ps) all (inl h) = inl (one (nat_eq p.number n) refl)
  where
    one : (b : Bool) → nat_eq p.number n ≡ b → ((if b then record p { wait = f p.wait } else p).number ≡ m) × Q (if b then record p { wait = f p.wait } else p)
    one true e = (h.0, same p (eqb-true _ _ e) h.0 (all.0 (eqb-true _ _ e)) h.1)
    one false e = (h.0, other p (eqb-false _ _ e) h.0 h.1)
has_waiting f n m R P Q same other (p ∷ ps) all (inr h) = inr (has_waiting f n m R P Q same other ps all.1 h)

module _ (f : Wait → Wait) (n : ℕ) (ps : List Place) where
  -- parents go on to wait where thread n does
  parents_waiting : (R : Place → Type 0) → AllAre (λ p. p.number ≡ n → R p) ps → ((p : Place) (m : ℕ) → R p → Waited m p.wait → Waited m (f p.wait)) → (m : ℕ) (parent : Option ℕ) → ParentAgrees ps m parent → ParentAgrees (map (waiting f n) ps) m parent
  parents_waiting R all on m None h = h
  parents_waiting R all on m (Some q) h = (h.0, has_waiting f n q R (λ p. Waited m p.wait) (λ p. Waited m p.wait) (λ p at is r w. on p m r w) (λ p never at w. w) ps all h.1)

  -- parents stay what they are
  nothing_known : (qs : List Place) → AllAre (λ p. p.number ≡ n → Unit {0}) qs
  nothing_known [] = tt
  nothing_known (q ∷ qs) = ((λ e. tt), nothing_known qs)

  branch_waiting : (m : ℕ) (j : Join) → BranchAgrees ps m j → BranchAgrees (map (waiting f n) ps) m j
  branch_waiting m j h left = has_waiting f n j.thread (λ p. Unit {0}) (λ p. p.parent ≡ Some m) (λ p. p.parent ≡ Some m) (λ p at is r e. e) (λ p never at e. e) ps (nothing_known ps) (h left)

  awaited_waiting : (R : Place → Type 0) → AllAre (λ p. p.number ≡ n → R p) ps → (q : OpenRequest) → ((p : Place) → p.number ≡ n → p.number ≡ q.thread → R p → p.wait ≡ RequestWait q.number → f p.wait ≡ RequestWait q.number) → IsAwaited ps q → IsAwaited (map (waiting f n) ps) q
  awaited_waiting R all q on h = has_waiting f n q.thread R (λ p. p.wait ≡ RequestWait q.number) (λ p. p.wait ≡ RequestWait q.number) on (λ p never at e. e) ps all h

  -- what another thread waits for
  wait_waiting : (rs qs : List OpenRequest) (m : ℕ) → ((r : ℕ) → Some_of (λ q. (q.number ≡ r) × (q.thread ≡ m)) rs → Some_of (λ q. (q.number ≡ r) × (q.thread ≡ m)) qs) → (w : Wait) → WaitAgrees rs ps m w → WaitAgrees qs (map (waiting f n) ps) m w
  wait_waiting rs qs m on (Ready x) h = tt
  wait_waiting rs qs m on (RequestWait r) h = on r h
  wait_waiting rs qs m on (BranchesWait js) h = (all_weaker _ _ (branch_waiting m) js h.0, h.1, h.2)

pub there_waiting : (f : Wait → Wait) (n m : ℕ) (ps : List Place) → IsThere m ps → IsThere m (map (waiting f n) ps)
there_waiting f n m ps h = has_waiting f n m (λ p. Unit {0}) (λ p. Unit {0}) (λ p. Unit {0}) (λ p at is known q. q) (λ p never at q. q) ps (nothing_known (λ w. w) n ps ps) h

-- A request is answered: it is closed, and its thread goes on.
same_request : (a b : ℕ) → RequestWait a ≡ RequestWait b → a ≡ b
same_request a b e = cc

pub answer_agrees : (n : ℕ) (x : Answer) (rs : List OpenRequest) (next_request next_thread : ℕ) (ps : List Place) → Some_of (λ r. r.number ≡ n) rs → PlacesAgree rs next_request next_thread ps
    → PlacesAgree (open_others n rs) next_request next_thread (map (waiting (λ w. Ready x) (thread_of n rs)) ps)
answer_agrees n x rs next_request next_thread ps were h =
    let t : ℕ = thread_of n rs in
    let its : AllAre (λ p. p.number ≡ thread_of n rs → p.wait ≡ RequestWait n) ps = only_place (λ p. p.wait ≡ RequestWait n) (thread_of n rs) 0 next_thread ps h.numbers (open_awaited ps n rs h.awaited were) in
    record {
      numbers = subst (Rise 0 next_thread) (sym (waiting_numbers (λ w. Ready x) (thread_of n rs) ps)) h.numbers;
      requests = rise_kept (λ r. not (nat_eq r.number n)) 0 next_request rs h.requests;
      parents = all_waiting (λ w. Ready x) (thread_of n rs) _ _ (λ p at q. on its p q) (λ p never q. on its p q) ps h.parents;
      waits = all_waiting (λ w. Ready x) (thread_of n rs) _ _ (λ p at q. tt) (λ p never q. wait_waiting (λ w. Ready x) (thread_of n rs) ps rs (open_others n rs) p.number (still p never) p.wait q) ps h.waits;
      awaited = all_others (λ r. r.number) (IsAwaited ps) (IsAwaited (map (waiting (λ w. Ready x) (thread_of n rs)) ps)) n
          (λ q other is. awaited_waiting (λ w. Ready x) (thread_of n rs) ps (λ p. p.wait ≡ RequestWait n) its q (λ p at also was e. absurd (other (same_request q.number n (sym e ∙ was)))) is) rs h.awaited;
    }
  where
    on : AllAre (λ p. p.number ≡ thread_of n rs → p.wait ≡ RequestWait n) ps → (p : Place) → ParentAgrees ps p.number p.parent → ParentAgrees (map (waiting (λ w. Ready x) (thread_of n rs)) ps) p.number p.parent
    on its p q = parents_waiting (λ w. Ready x) (thread_of n rs) ps (λ p. p.wait ≡ RequestWait n) its (λ p m was w. absurd (subst (Waited m) was w)) p.number p.parent q

    still : (p : Place) → (p.number ≡ thread_of n rs → ⊥) → (r : ℕ) → Some_of (λ q. (q.number ≡ r) × (q.thread ≡ p.number)) rs → Some_of (λ q. (q.number ≡ r) × (q.thread ≡ p.number)) (open_others n rs)
    still p never r is = some_others (λ q. q.number) (λ q. (q.number ≡ r) × (q.thread ≡ p.number)) n rs (all_weaker _ _ (λ q one at so. never (sym so.1 ∙ one at)) rs (thread_one 0 next_request n rs h.requests)) is

-- what is asked changes, and neither its number nor its thread
pub change_agrees : (g : Request → Request) (n : ℕ) (rs : List OpenRequest) (next_request next_thread : ℕ) (ps : List Place) → PlacesAgree rs next_request next_thread ps → PlacesAgree (map (change_if g n) rs) next_request next_thread ps
change_agrees g n rs next_request next_thread ps h = record {
  numbers = h.numbers;
  requests = subst (Rise 0 next_request) (sym (numbers_changed g n rs)) h.requests;
  parents = h.parents;
  waits = all_weaker _ _ (λ p q. waits_on p.number p.wait q) ps h.waits;
  awaited = awaited_on rs h.awaited;
}
  where
    some_on : (r m : ℕ) (qs : List OpenRequest) → Some_of (λ q. (q.number ≡ r) × (q.thread ≡ m)) qs → Some_of (λ q. (q.number ≡ r) × (q.thread ≡ m)) (map (change_if g n) qs)
    some_on r m [] is = absurd is
    some_on r m (q ∷ qs) (inr is) = inr (some_on r m qs is)
    some_on r m (q ∷ qs) (inl is) = inl (one (nat_eq q.number n))
      where
        one : (b : Bool) → ((if b then record q { request = g q.request } else q).number ≡ r) × ((if b then record q { request = g q.request } else q).thread ≡ m)
        one true = is
        one false = is

    waits_on : (m : ℕ) (w : Wait) → WaitAgrees rs ps m w → WaitAgrees (map (change_if g n) rs) ps m w
    waits_on m (Ready x) q = q
    waits_on m (RequestWait r) q = some_on r m rs q
    waits_on m (BranchesWait js) q = q

    awaited_on : (qs : List OpenRequest) → AllAre (IsAwaited ps) qs → AllAre (IsAwaited ps) (map (change_if g n) qs)
    awaited_on [] all = tt
    awaited_on (q ∷ qs) all = (one (nat_eq q.number n), awaited_on qs all.1)
      where
        one : (b : Bool) → IsAwaited ps (if b then record q { request = g q.request } else q)
        one true = all.0
        one false = all.0

-- Thread n, which goes on with an answer, stops.
module _ (n : ℕ) (x : Answer) (rs : List OpenRequest) (next_request next_thread : ℕ) (ps : List Place) (is : HasPlace (λ p. p.wait ≡ Ready x) n ps) (h : PlacesAgree rs next_request next_thread ps) where
  its : AllAre (λ p. p.number ≡ n → p.wait ≡ Ready x) ps
  its = only_place (λ p. p.wait ≡ Ready x) n 0 next_thread ps h.numbers is

  awaited_on : (f : Wait → Wait) (q : OpenRequest) → IsAwaited ps q → IsAwaited (map (waiting f n) ps) q
  awaited_on f q there = awaited_waiting f n ps (λ p. p.wait ≡ Ready x) its q (λ p at also was e. (let bad : Ready x ≡ RequestWait q.number = sym was ∙ e in absurd (cc))) there

  parent_on : (f : Wait → Wait) (m : ℕ) (parent : Option ℕ) → ParentAgrees ps m parent → ParentAgrees (map (waiting f n) ps) m parent
  parent_on f m parent q = parents_waiting f n ps (λ p. p.wait ≡ Ready x) its (λ p k was w. absurd (subst (Waited k) was w)) m parent q

  -- at a request of its own
  pub ask_agrees : (r : Request) → PlacesAgree (rs ++ (record { number = next_request; thread = n; request = r }) ∷ []) (next_request + 1) next_thread (map (waiting (λ w. RequestWait next_request) n) ps)
  ask_agrees r =
      let new : List OpenRequest = (record { number = next_request; thread = n; request = r }) ∷ [] in
      record {
        numbers = subst (Rise 0 next_thread) (sym (waiting_numbers (λ w. RequestWait next_request) n ps)) h.numbers;
        requests = subst (Rise 0 (next_request + 1)) (sym (numbers_behind rs ((record { number = next_request; thread = n; request = r }) ∷ []))) (rise_behind 0 next_request (next_request + 1) (numbers_of rs) (next_request ∷ []) (omega arith) (omega arith) h.requests (omega arith, omega arith, tt));
        parents = all_waiting (λ w. RequestWait next_request) n _ _ (λ p at q. parent_on (λ w. RequestWait next_request) p.number p.parent q) (λ p never q. parent_on (λ w. RequestWait next_request) p.number p.parent q) ps h.parents;
        waits = all_waiting (λ w. RequestWait next_request) n _ _
            (λ p at q. some_behind _ rs ((record { number = next_request; thread = n; request = r }) ∷ []) (inl (refl, sym at)))
            (λ p never q. wait_waiting (λ w. RequestWait next_request) n ps rs (rs ++ (record { number = next_request; thread = n; request = r }) ∷ []) p.number (λ k there. some_front _ rs ((record { number = next_request; thread = n; request = r }) ∷ []) there) p.wait q) ps h.waits;
        awaited = all_append _ rs ((record { number = next_request; thread = n; request = r }) ∷ []) (all_weaker _ _ (λ q there. awaited_on (λ w. RequestWait next_request) q there) rs h.awaited)
            (has_waiting (λ w. RequestWait next_request) n n (λ p. Unit {0}) (λ p. p.wait ≡ Ready x) (λ p. p.wait ≡ RequestWait next_request) (λ p at also known e. refl) (λ p never at e. absurd (never at)) ps (nothing_known (λ w. w) n ps ps) is, tt);
      }

-- numbers that rise differ
pub rise_distinct : (n m : ℕ) (xs : List ℕ) → Rise n m xs → Distinct xs
rise_distinct n m [] h = tt
rise_distinct n m (x ∷ xs) h = (apart x (suc x) m xs (omega arith) h.2, rise_distinct (suc x) m xs h.2)
  where
    apart : (n k m : ℕ) (ys : List ℕ) → n < k → Rise k m ys → AllAre (λ y. n ≡ y → ⊥) ys
    apart n k m [] lt h = tt
    apart n k m (y ∷ ys) lt h = ((λ e. omega (arith, lt, h.0, e)), apart n (suc y) m ys (omega (arith, lt, h.0)) h.2)

pub places_append : (ts us : List Thread) → places (ts ++ us) ≡ places ts ++ places us
places_append [] us = refl
places_append (t ∷ ts) us = ap (λ ps. place_of t ∷ ps) (places_append ts us)

pub numbers_append : (ps qs : List Place) → place_numbers (ps ++ qs) ≡ place_numbers ps ++ place_numbers qs
numbers_append [] qs = refl
numbers_append (p ∷ ps) qs = ap (λ ns. p.number ∷ ns) (numbers_append ps qs)

-- New branches of thread n, from number k on.
module _ (n : ℕ) (own : Own) where
  abbrev pub new_places : ℕ → List Branch → List Place
  new_places k bs = places (branch_threads n own k bs)

  new_numbers : (k : ℕ) (bs : List Branch) → Rise k (k + length bs) (place_numbers (new_places k bs))
  new_numbers k [] = tt
  new_numbers k (b ∷ bs) = (omega arith, omega arith, rise_higher (suc k) (suc k + length bs) (k + length (b ∷ bs)) (place_numbers (new_places (suc k) bs)) (omega arith) (new_numbers (suc k) bs))

  join_numbers : (k : ℕ) (bs : List Branch) → Rise k (k + length bs) (map (λ j. j.thread) (joins_of k bs))
  join_numbers k [] = tt
  join_numbers k (b ∷ bs) = (omega arith, omega arith, rise_higher (suc k) (suc k + length bs) (k + length (b ∷ bs)) (map (λ j. j.thread) (joins_of (suc k) bs)) (omega arith) (join_numbers (suc k) bs))

  -- each is one that thread n waits for, and has this parent
  record NewFits (k : ℕ) (js : List Join) (p : Place) : Type 0 where
    above : k ≤ p.number
    parent : p.parent ≡ Some n
    waited : Some_of (λ j. (j.thread ≡ p.number) × (j.ended ≡ None)) js
    ready : p.wait ≡ Ready Begin

  new_fit : (k : ℕ) (bs : List Branch) → AllAre (NewFits k (joins_of k bs)) (new_places k bs)
  new_fit k [] = tt
  new_fit k (b ∷ bs) = (
    record { above = omega arith; parent = refl; waited = inl (refl, refl); ready = refl },
    all_weaker _ _ (λ p h. record { above = omega (arith, h.above); parent = h.parent; waited = inr h.waited; ready = h.ready }) (new_places (suc k) bs) (new_fit (suc k) bs),
  )

  joins_there : (k : ℕ) (bs : List Branch) → AllAre (λ j. HasPlace (λ p. p.parent ≡ Some n) j.thread (new_places k bs)) (joins_of k bs)
  joins_there k [] = tt
  joins_there k (b ∷ bs) = (inl (refl, refl), all_weaker _ _ (λ j h. inr h) (joins_of (suc k) bs) (joins_there (suc k) bs))

  one_open : (k : ℕ) (bs : List Branch) → (bs ≡ [] → ⊥) → Some_of IsOpen (joins_of k bs)
  one_open k [] some = absurd (some refl)
  one_open k (b ∷ bs) some = inl refl

module _ (rs : List OpenRequest) (ps qs : List Place) where
  parent_front : (m : ℕ) (parent : Option ℕ) → ParentAgrees ps m parent → ParentAgrees (ps ++ qs) m parent
  parent_front m None h = h
  parent_front m (Some k) h = (h.0, some_front _ ps qs h.1)

  wait_front : (m : ℕ) (w : Wait) → WaitAgrees rs ps m w → WaitAgrees rs (ps ++ qs) m w
  wait_front m (Ready x) h = h
  wait_front m (RequestWait r) h = h
  wait_front m (BranchesWait js) h = (all_weaker _ _ (λ j b left. some_front _ ps qs (b left)) js h.0, h.1, h.2)

-- Thread n stops at branches.
module _ (n : ℕ) (x : Answer) (rs : List OpenRequest) (next_request next_thread : ℕ) (ps : List Place) (is : HasPlace (λ p. p.wait ≡ Ready x) n ps) (h : PlacesAgree rs next_request next_thread ps) (own : Own) (bs : List Branch) (some : bs ≡ [] → ⊥) where
  its_number : n < next_thread
  its_number = some_all (λ p. p.number < next_thread) (λ p. (p.number ≡ n) × (p.wait ≡ Ready x)) (n < next_thread) (λ p lt at. omega (arith, lt, at.0)) ps (below 0 ps h.numbers) is
    where
      below : (k : ℕ) (qs : List Place) → Rise k next_thread (place_numbers qs) → AllAre (λ p. p.number < next_thread) qs
      below k [] r = tt
      below k (q ∷ qs) r = (r.1, below (suc q.number) qs r.2)

  abbrev joined : Wait → Wait
  joined w = BranchesWait (joins_of next_thread bs)

  abbrev forked_places : List Place
  forked_places = map (waiting joined n) ps ++ new_places n own next_thread bs

  parent_forked : (m : ℕ) (parent : Option ℕ) → ParentAgrees ps m parent → ParentAgrees forked_places m parent
  parent_forked m parent q = parent_front rs (map (waiting joined n) ps) (new_places n own next_thread bs) m parent (parent_on n x rs next_request next_thread ps is h joined m parent q)

  new_parent : (p : Place) → NewFits n own next_thread (joins_of next_thread bs) p → ParentAgrees forked_places p.number p.parent
  new_parent p fit = subst (ParentAgrees forked_places p.number) (sym fit.parent) (
    omega (arith, its_number, fit.above),
    some_front _ (map (waiting joined n) ps) (new_places n own next_thread bs)
        (has_waiting joined n n (λ q. Unit {0}) (λ q. q.wait ≡ Ready x) (λ q. Waited p.number q.wait) (λ q at also known e. fit.waited) (λ q never at e. absurd (never at)) ps (nothing_known joined n ps ps) is),
  )

  pub fork_agrees : PlacesAgree rs next_request (next_thread + length bs) forked_places
  fork_agrees = record {
    numbers = subst (Rise 0 (next_thread + length bs)) (sym (numbers_append (map (waiting joined n) ps) (new_places n own next_thread bs)))
        (rise_behind 0 next_thread (next_thread + length bs) (place_numbers (map (waiting joined n) ps)) (place_numbers (new_places n own next_thread bs)) (omega arith) (omega arith) (subst (Rise 0 next_thread) (sym (waiting_numbers joined n ps)) h.numbers) (new_numbers n own next_thread bs));
    requests = h.requests;
    parents = all_append _ (map (waiting joined n) ps) (new_places n own next_thread bs)
        (all_waiting joined n _ _ (λ p at q. parent_forked p.number p.parent q) (λ p never q. parent_forked p.number p.parent q) ps h.parents)
        (all_weaker _ _ new_parent (new_places n own next_thread bs) (new_fit n own next_thread bs));
    waits = all_append _ (map (waiting joined n) ps) (new_places n own next_thread bs)
        (all_waiting joined n _ _
        (λ p at q. (all_weaker _ _ (λ j there still_open. subst (λ m. HasPlace (λ c. c.parent ≡ Some m) j.thread forked_places) (sym at) (some_behind _ (map (waiting joined n) ps) (new_places n own next_thread bs) there)) (joins_of next_thread bs) (joins_there n own next_thread bs), one_open n own next_thread bs some, rise_distinct next_thread (next_thread + length bs) _ (join_numbers n own next_thread bs)))
        (λ p never q. wait_front rs (map (waiting joined n) ps) (new_places n own next_thread bs) p.number p.wait (wait_waiting joined n ps rs rs p.number (λ k there. there) p.wait q)) ps h.waits)
        (all_weaker _ _ (λ p fit. subst (WaitAgrees rs forked_places p.number) (sym fit.ready) tt) (new_places n own next_thread bs) (new_fit n own next_thread bs));
    awaited = all_weaker _ _ (λ q there. some_front _ (map (waiting joined n) ps) (new_places n own next_thread bs) (awaited_on n x rs next_request next_thread ps is h joined q there)) rs h.awaited;
  }

-- A branch has ended.
open_left : (js : List Join) → Some_of IsOpen js → all_ended js ≡ None
open_left [] h = absurd h
open_left (j ∷ js) (inl e) = ap (λ o. and_end (option_map (branch_end j.name) o) (all_ended js)) e
open_left (j ∷ js) (inr h) = one (option_map (branch_end j.name) j.ended) (open_left js h)
  where
    one : (o : Option BranchEnd) → all_ended js ≡ None → and_end o (all_ended js) ≡ None
    one None e = refl
    one (Some x) e = ap (and_end (Some x)) e

some_left : (js : List Join) → all_ended js ≡ None → Some_of IsOpen js
some_left [] e = absurd (cc)
some_left (j ∷ js) e = one j.ended refl (all_ended js) refl (some_left js)
  where
    one : (o : Option JoinEnd) → j.ended ≡ o → (more : Option (List BranchEnd)) → all_ended js ≡ more → (all_ended js ≡ None → Some_of IsOpen js) → Some_of IsOpen (j ∷ js)
    one None is more rest some = inl is
    one (Some x) is None rest some = inr (some rest)
    one (Some x) is (Some es) rest some =
        let bad : and_end (option_map (branch_end j.name) (Some x)) (Some es) ≡ None = ap (λ o. and_end (option_map (branch_end j.name) (Some x)) o) (sym rest) ∙ ap (λ o. and_end (option_map (branch_end j.name) o) (all_ended js)) (sym is) ∙ e in
        absurd (cc)

module _ (n : ℕ) (e : JoinEnd) where
  still_waited : (k : ℕ) → (k ≡ n → ⊥) → (js : List Join) → Some_of (λ j. (j.thread ≡ k) × (j.ended ≡ None)) js → Some_of (λ j. (j.thread ≡ k) × (j.ended ≡ None)) (map (join_end n e) js)
  still_waited k other [] h = absurd h
  still_waited k other (j ∷ js) (inr h) = inr (still_waited k other js h)
  still_waited k other (j ∷ js) (inl h) = inl (one (nat_eq j.thread n) refl)
    where
      one : (b : Bool) → nat_eq j.thread n ≡ b → ((if b then record j { ended = Some e } else j).thread ≡ k) × ((if b then record j { ended = Some e } else j).ended ≡ None)
      one true same = absurd (other (sym h.0 ∙ eqb-true _ _ same))
      one false never = h

  same_threads : (js : List Join) → map (λ j. j.thread) (map (join_end n e) js) ≡ map (λ j. j.thread) js
  same_threads [] = refl
  same_threads (j ∷ js) = one (nat_eq j.thread n) (same_threads js)
    where
      one : (b : Bool) → map (λ i. i.thread) (map (join_end n e) js) ≡ map (λ i. i.thread) js → (if b then record j { ended = Some e } else j).thread ∷ map (λ i. i.thread) (map (join_end n e) js) ≡ j.thread ∷ map (λ i. i.thread) js
      one true more = ap (λ ns. j.thread ∷ ns) more
      one false more = ap (λ ns. j.thread ∷ ns) more

  all_joined : (P Q : Join → Type 0) → ((j : Join) → (j.thread ≡ n → ⊥) → P j → Q j) → ((j : Join) → Q (record j { ended = Some e })) → (js : List Join) → AllAre P js → AllAre Q (map (join_end n e) js)
  all_joined P Q other same [] h = tt
  all_joined P Q other same (j ∷ js) h = (one (nat_eq j.thread n) refl, all_joined P Q other same js h.1)
    where
      one : (b : Bool) → nat_eq j.thread n ≡ b → Q (if b then record j { ended = Some e } else j)
      one true is = same j
      one false never = other j (eqb-false _ _ never) h.0

waited_joined : (k n head : ℕ) (o : Outcome) → (k ≡ n → ⊥) → (w : Wait) → Waited k w → Waited k (join_wait n head o w)
waited_joined k n head o other (Ready x) h = absurd h
waited_joined k n head o other (RequestWait r) h = absurd h
waited_joined k n head o other (BranchesWait js) h =
    let e : JoinEnd = record { node = head; outcome = o; place = ends_before js } in
    let left : Some_of (λ j. (j.thread ≡ k) × (j.ended ≡ None)) (map (join_end n (record { node = head; outcome = o; place = ends_before js })) js) = still_waited n (record { node = head; outcome = o; place = ends_before js }) k other js h in
    subst (λ a. Waited k (joined_wait (map (join_end n (record { node = head; outcome = o; place = ends_before js })) js) a)) (sym (open_left (map (join_end n (record { node = head; outcome = o; place = ends_before js })) js) (some_weaker _ _ (λ j both. both.1) (map (join_end n (record { node = head; outcome = o; place = ends_before js })) js) left))) left

-- Thread n ends, which is a branch of thread m.
module _ (n m : ℕ) (x : Answer) (rs : List OpenRequest) (next_request next_thread : ℕ) (ps : List Place) (is : HasPlace (λ p. p.wait ≡ Ready x) n ps) (under : HasPlace (λ p. p.parent ≡ Some m) n ps) (h : PlacesAgree rs next_request next_thread ps) (head : ℕ) (o : Outcome) where
  abbrev left_places : List Place
  left_places = others (λ p. p.number) n ps

  abbrev ended_places : List Place
  ended_places = map (waiting (join_wait n head o) m) left_places

  -- what another thread is it goes on to be
  stays : (P Q : Place → Type 0) (k : ℕ) → (k ≡ n → ⊥) → ((p : Place) → P p → Q (record p { wait = join_wait n head o p.wait })) → ((p : Place) → P p → Q p) → HasPlace P k ps → HasPlace Q k ended_places
  stays P Q k other on same there =
      has_waiting (join_wait n head o) m k (λ p. Unit {0}) P Q (λ p at also known q. on p q) (λ p never at q. same p q) left_places (nothing_known (λ w. w) m ps left_places)
      (some_others (λ p. p.number) (λ p. (p.number ≡ k) × P p) n ps (all_same ps) there)
    where
      all_same : (qs : List Place) → AllAre (λ p. p.number ≡ n → (p.number ≡ k) × P p → ⊥) qs
      all_same [] = tt
      all_same (q ∷ qs) = ((λ at both. other (sym both.0 ∙ at)), all_same qs)

  not_waiting : (P : Place → Type 0) → ((p : Place) → p.wait ≡ Ready x → P p → ⊥) → (k : ℕ) → HasPlace P k ps → k ≡ n → ⊥
  not_waiting P never k there same = some_all (λ p. p.number ≡ n → p.wait ≡ Ready x) (λ p. (p.number ≡ k) × P p) ⊥ (λ p ready at. never p (ready (at.0 ∙ same)) at.1) ps (only_place (λ p. p.wait ≡ Ready x) n 0 next_thread ps h.numbers is) there

  parent_left : (k : ℕ) → (k ≡ n → ⊥) → (parent : Option ℕ) → ParentAgrees ps k parent → ParentAgrees ended_places k parent
  parent_left k other None q = q
  parent_left k other (Some p) q =
      (q.0, stays (λ t. Waited k t.wait) (λ t. Waited k t.wait) p (not_waiting (λ t. Waited k t.wait) (λ t ready w. absurd (subst (Waited k) ready w)) p q.1) (λ t w. waited_joined k n head o other t.wait w) (λ t w. w) q.1)

  branch_left : (k : ℕ) (j : Join) → (j.thread ≡ n → ⊥) → BranchAgrees ps k j → BranchAgrees ended_places k j
  branch_left k j other b left = stays (λ p. p.parent ≡ Some k) (λ p. p.parent ≡ Some k) j.thread other (λ p e. e) (λ p e. e) (b left)

  joined_left : (k : ℕ) (js : List Join) → AllAre (BranchAgrees ended_places k) js → Distinct (map (λ j. j.thread) js) → (a : Option (List BranchEnd)) → all_ended js ≡ a → WaitAgrees rs ended_places k (joined_wait js a)
  joined_left k js all apart None e = (all, some_left js e, apart)
  joined_left k js all apart (Some ends) e = tt

  -- the parent
  parent_waits : (k : ℕ) (w : Wait) → WaitAgrees rs ps k w → WaitAgrees rs ended_places k (join_wait n head o w)
  parent_waits k (Ready y) q = tt
  parent_waits k (RequestWait r) q = q
  parent_waits k (BranchesWait js) q =
      let e : JoinEnd = record { node = head; outcome = o; place = ends_before js } in
      joined_left k (map (join_end n (record { node = head; outcome = o; place = ends_before js })) js)
      (all_joined n (record { node = head; outcome = o; place = ends_before js }) (BranchAgrees ps k) (BranchAgrees ended_places k) (λ j other b. branch_left k j other b) (λ j left. absurd (cc)) js q.0)
      (subst Distinct (sym (same_threads n (record { node = head; outcome = o; place = ends_before js }) js)) q.2)
      (all_ended (map (join_end n (record { node = head; outcome = o; place = ends_before js })) js)) refl

  -- any other thread
  branch_other : (k : ℕ) → (k ≡ m → ⊥) → (j : Join) → BranchAgrees ps k j → BranchAgrees ended_places k j
  branch_other k other j b left =
      branch_left k j (λ same. some_all (λ p. p.number ≡ n → p.parent ≡ Some m) (λ p. (p.number ≡ j.thread) × (p.parent ≡ Some k)) ⊥ (λ p its at. (let both : Some k ≡ Some m = sym at.1 ∙ its (at.0 ∙ same) in let bad : k ≡ m = cc in other bad)) ps (only_place (λ p. p.parent ≡ Some m) n 0 next_thread ps h.numbers under) (b left)) b left

  other_waits : (k : ℕ) → (k ≡ m → ⊥) → (w : Wait) → WaitAgrees rs ps k w → WaitAgrees rs ended_places k w
  other_waits k other (Ready y) q = tt
  other_waits k other (RequestWait r) q = q
  other_waits k other (BranchesWait js) q = (all_weaker _ _ (branch_other k other) js q.0, q.1, q.2)

  rise_left : (k : ℕ) (qs : List Place) → Rise k next_thread (place_numbers qs) → Rise k next_thread (place_numbers (others (λ p. p.number) n qs))
  rise_left k [] r = tt
  rise_left k (q ∷ qs) r = one (nat_eq q.number n) (rise_left (suc q.number) qs r.2)
    where
      one : (b : Bool) → Rise (suc q.number) next_thread (place_numbers (others (λ p. p.number) n qs)) → Rise k next_thread (place_numbers (if not b then q ∷ others (λ p. p.number) n qs else others (λ p. p.number) n qs))
      one true more = rise_lower k (suc q.number) next_thread _ (omega (arith, r.0)) more
      one false more = (r.0, r.1, more)

  awaited_left : (q : OpenRequest) → IsAwaited ps q → IsAwaited ended_places q
  awaited_left q there =
      stays (λ p. p.wait ≡ RequestWait q.number) (λ p. p.wait ≡ RequestWait q.number) q.thread (not_waiting (λ p. p.wait ≡ RequestWait q.number) (λ p ready e. (let bad : Ready x ≡ RequestWait q.number = sym ready ∙ e in absurd (cc))) q.thread there) (λ p e. ap (join_wait n head o) e) (λ p e. e) there

  pub there_ended : (k : ℕ) → (k ≡ n → ⊥) → IsThere k ps → IsThere k ended_places
  there_ended k other there = stays (λ p. Unit {0}) (λ p. Unit {0}) k other (λ p q. q) (λ p q. q) there

  -- a branch is not the main thread
  pub not_main : 0 ≡ n → ⊥
  not_main zero_is = some_all (λ p. (p.number ≡ n → p.parent ≡ Some m)) (λ p. (p.number ≡ n) × ParentAgrees ps p.number p.parent) ⊥ (λ p its at. (let low : m < p.number = parent_low p.number p.parent (its at.0) at.1 in omega (arith, zero_is, low, at.0))) ps
      (only_place (λ p. p.parent ≡ Some m) n 0 next_thread ps h.numbers under) (both ps h.parents under)
    where
      parent_low : (k : ℕ) (parent : Option ℕ) → parent ≡ Some m → ParentAgrees ps k parent → m < k
      parent_low k None e q = absurd (cc)
      parent_low k (Some j) e q = let same : j ≡ m = cc in omega (arith, same, q.0)

      both : (qs : List Place) → AllAre (λ p. ParentAgrees ps p.number p.parent) qs → HasPlace (λ p. p.parent ≡ Some m) n qs → Some_of (λ p. (p.number ≡ n) × ParentAgrees ps p.number p.parent) qs
      both [] all is = absurd is
      both (q ∷ qs) all (inl is) = inl (is.0, all.0)
      both (q ∷ qs) all (inr is) = inr (both qs all.1 is)

  pub end_agrees : PlacesAgree rs next_request next_thread ended_places
  end_agrees = record {
    numbers = subst (Rise 0 next_thread) (sym (waiting_numbers (join_wait n head o) m left_places)) (rise_left 0 ps h.numbers);
    requests = h.requests;
    parents = all_waiting (join_wait n head o) m _ _ (λ p at q. q) (λ p never q. q) left_places (all_others (λ p. p.number) _ _ n (λ p other q. parent_left p.number other p.parent q) ps h.parents);
    waits = all_waiting (join_wait n head o) m (λ p. WaitAgrees rs ps p.number p.wait) (λ p. WaitAgrees rs ended_places p.number p.wait) (λ p at q. parent_waits p.number p.wait q) (λ p never q. other_waits p.number never p.wait q) left_places (all_others (λ p. p.number) _ _ n (λ p other q. q) ps h.waits);
    awaited = all_weaker _ _ awaited_left rs h.awaited;
  }
