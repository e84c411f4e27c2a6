-- In every world the threads, as a sound build has them, agree with each other and with the open requests.
use Rattle.std.proofs.Common.{arith, ◌≡◌, ◌≤◌, ◌∙◌, ap, sym, subst, refl, inl, inr, ℕ, suc, Bool, true, false, List, [], ◌∷◌, map, Option, Some, None}
use Rattle.std.specs.Prelude.{nat_eq, find, if◌then◌else◌}
use Rattle.std.specs.List.{AllByRecursion as AllAre}
use Rattle.std.proofs.lemmas.Bool.{eqb-true, eqb-false}
use Rattle.model_syntax.specs.Nodes.{Node}
use Rattle.model_values.proofs.LaterLaws.{all_weaker}
use Rattle.model_run.specs.declared.event.Event.{Event}
use Rattle.model_run.specs.declared.wait.Wait.{Wait}
use Rattle.model_run.specs.declared.wait.Wait.TheVariants.{Ready, Request as RequestWait, Branches as BranchesWait}
use Rattle.model_run.specs.declared.request.OpenRequest.{OpenRequest}
use Rattle.model_run.specs.State.{Setting, Env, Result, Ended, Waits, Limited, Unfinished}
use Rattle.model_run.specs.Below.{Small}
use Rattle.model_run.specs.Fitting.{Rise, Some_of, Seat, seat_at, seats_of, seat_of, outermost, Asks, ForRequest, Waited, Above, ParentIs, ParentFits, WaitsFor}
use Rattle.model_run.specs.Requests.{numbers_of}
use Rattle.model_run.specs.Terms.{Term, term}
use Rattle.model_run.specs.Threads.{Thread, stands}
use Rattle.model_run.specs.World.{Build, world_in}
use Rattle.model_run.proofs.RequestLaws.{some_weaker, some_all, rise_from}
use Rattle.world_laws.specs.Agreement.{Place, place_of, places, place_numbers, HasPlace, IsThere, ParentAgrees, WaitAgrees, FrameAsks, LastAsks, KindAgrees, ThreadKind, ThreadsAgree, WaitsAgree, SeatAgrees, SeatsAgree}
use Rattle.model_run.specs.declared.frame.FrameKind.{FrameKind}
use Rattle.model_run.specs.declared.frame.FrameKind.TheVariants as kind
use Rattle.model_run.specs.declared.frame.Frame.{Frame}
use Rattle.model_run.specs.declared.request.Request.{Request}
use Rattle.model_run.specs.declared.request.Request.TheVariants.{Node as NodeRequest, Task as TaskRequest, Input as InputRequest}
use Rattle.model_run.specs.Around.{Shape}
use Rattle.model_run.specs.FrameTable.{frame_row}
use Rattle.model_run.specs.Nesting.{Spot, spot, spot_in, shape_at, innermost}
use Rattle.model_run.specs.Waiting.{Stood, IsReady}
use Rattle.model_run.proofs.WaitingLaws.{world_stood}
use Rattle.world_laws.proofs.Agreement.{world_agrees}
use Rattle.world_laws.proofs.Opening.{turns_open}
use Rattle.world_laws.proofs.Places.{only_place}

abbrev seat_place : Seat → Place
seat_place s = record { number = s.number; parent = s.parent; wait = s.wait }

same_place : (t : Thread) (r : Result) → place_of t ≡ seat_place (seat_at t r)
same_place t (Ended e s) = refl
same_place t (Waits asked path s) = refl
same_place t (Limited k s) = refl
same_place t Unfinished = refl

-- the innermost frame tells what it waits for
frame_asks : (d : FrameKind) (root : Term) (k : ℕ) (sh : Shape) (left : ℕ) (env : Env) (q : Request) → FrameAsks d q → Asks (spot root k (frame_row d sh left env).inside) q
frame_asks kind.NodeWait root k sh left env (NodeRequest label) h = tt
frame_asks kind.NodeWait root k sh left env (TaskRequest x w f e c st kp t o) h = absurd h
frame_asks kind.NodeWait root k sh left env (InputRequest id) h = absurd h
frame_asks kind.ShWait root k sh left env (TaskRequest x w f e c st kp t o) h = tt
frame_asks kind.ShWait root k sh left env (NodeRequest label) h = absurd h
frame_asks kind.ShWait root k sh left env (InputRequest id) h = absurd h
frame_asks kind.InputWait root k sh left env (InputRequest id) h = tt
frame_asks kind.InputWait root k sh left env (NodeRequest label) h = absurd h
frame_asks kind.InputWait root k sh left env (TaskRequest x w f e c st kp t o) h = absurd h
frame_asks d root k sh left env q h = absurd h

last_asks : (root : Term) (at : Spot) (path : List Frame) (q : Request) → LastAsks path q → Asks (innermost root at path) q
last_asks root at [] q h = absurd h
last_asks root at (f ∷ []) q h = frame_asks f.kind root f.node (shape_at root f.node) f.left f.env q h
last_asks root at (f ∷ g ∷ fs) q h = last_asks root (spot_in root f) (g ∷ fs) q h

-- the open request of a number
found_request : (at : Spot) (n : ℕ) (rs : List OpenRequest) (k m r : ℕ) → Rise k m (numbers_of rs) → AllAre (λ q. q.number ≡ r → Asks at q.request) rs → Some_of (λ q. (q.number ≡ r) × (q.thread ≡ n)) rs → ForRequest at (find (λ q. nat_eq q.number r) rs) n
found_request at n [] k m r rise kinds is = absurd is
found_request at n (q ∷ rs) k m r rise kinds is = one (nat_eq q.number r) refl is (found_request at n rs (suc q.number) m r rise.2 kinds.1)
  where
    one : (b : Bool) → nat_eq q.number r ≡ b → Some_of (λ x. (x.number ≡ r) × (x.thread ≡ n)) (q ∷ rs) → (Some_of (λ x. (x.number ≡ r) × (x.thread ≡ n)) rs → ForRequest at (find (λ x. nat_eq x.number r) rs) n) → ForRequest at (if b then Some q else find (λ x. nat_eq x.number r) rs) n
    one true e (inl here) more = (here.1, kinds.0 here.0)
    one true e (inr later) more = absurd (some_all (λ x. suc q.number ≤ x.number) (λ x. (x.number ≡ r) × (x.thread ≡ n)) ⊥ (λ x le so. omega (arith, le, so.0, eqb-true _ _ e)) rs (rise_from (suc q.number) m rs rise.2) later)
    one false e (inl here) more = absurd (eqb-false _ _ e here.0)
    one false e (inr later) more = more later

module _ (setting : Setting) where
  seat_numbers : (ts : List Thread) → map (λ s. s.number) (seats_of setting ts) ≡ place_numbers (places ts)
  seat_numbers [] = refl
  seat_numbers (t ∷ ts) = ap (λ (p : Place). p.number ∷ map (λ s. s.number) (seats_of setting ts)) (sym (same_place t (stands setting t))) ∙ ap (λ ns. t.own.number ∷ ns) (seat_numbers ts)

  -- what is known of the thread of a number is known of the one that is found
  found_seat : (P : Place → Type 0) (Q : Option Seat → Type 0) → ((s : Seat) → P (seat_place s) → Q (Some s)) → (n : ℕ) (ts : List Thread) → AllAre (λ p. p.number ≡ n → P p) (places ts) → IsThere n (places ts) → Q (seat_of (seats_of setting ts) n)
  found_seat P Q on n [] all is = absurd is
  found_seat P Q on n (t ∷ ts) all is = one (nat_eq (seat_at t (stands setting t)).number n) refl is (found_seat P Q on n ts all.1)
    where
      its : t.own.number ≡ (seat_at t (stands setting t)).number
      its = ap (λ (p : Place). p.number) (same_place t (stands setting t))

      one : (b : Bool) → nat_eq (seat_at t (stands setting t)).number n ≡ b → IsThere n (places (t ∷ ts)) → (IsThere n (places ts) → Q (seat_of (seats_of setting ts) n)) → Q (if b then Some (seat_at t (stands setting t)) else seat_of (seats_of setting ts) n)
      one true e there more = on (seat_at t (stands setting t)) (subst P (same_place t (stands setting t)) (all.0 (its ∙ eqb-true _ _ e)))
      one false e (inl at) more = absurd (eqb-false _ _ e (sym its ∙ at.0))
      one false e (inr at) more = more at

  module _ (b : Build) (h : ThreadsAgree setting b) where
    has_seat : (P : Place → Type 0) (Q : Option Seat → Type 0) → ((s : Seat) → P (seat_place s) → Q (Some s)) → (n : ℕ) → HasPlace P n (places b.threads) → Q (seat_of (seats_of setting b.threads) n)
    has_seat P Q on n is = found_seat P Q on n b.threads (only_place P n 0 b.next_thread (places b.threads) (h.agree).numbers is) (some_weaker _ _ (λ p at. (at.0, tt)) (places b.threads) is)

    parent_fits : (n : ℕ) (parent : Option ℕ) → ParentAgrees (places b.threads) n parent → ParentFits (seats_of setting b.threads) n parent
    parent_fits n None q = q
    parent_fits n (Some m) q = (q.0, has_seat (λ p. Waited n p.wait) (Above n) (λ s w. w) m q.1)

    -- what a thread waits for, with its frames
    wait_agrees : (n : ℕ) (parent : Option ℕ) (path : List Frame) (w : Wait) → WaitAgrees b.shared.requests (places b.threads) n w → ((r : ℕ) → w ≡ RequestWait r → AllAre (λ q. q.number ≡ r → LastAsks path q.request) b.shared.requests) → WaitsAgree setting.script b.shared (seats_of setting b.threads) n parent path w
    wait_agrees n parent path (Ready x) q kinds = tt
    wait_agrees n parent path (RequestWait r) q kinds =
        found_request (innermost setting.script (outermost parent) path) n b.shared.requests 0 b.shared.next_request r (h.agree).requests (all_weaker _ _ (λ x asks same. last_asks setting.script (outermost parent) path x.request (asks same)) b.shared.requests (kinds r refl)) q
    wait_agrees n parent path (BranchesWait js) q kinds = (all_weaker _ _ (λ j agrees left. has_seat (λ p. p.parent ≡ Some n) (ParentIs n) (λ s e. e) j.thread (agrees left)) js q.0, q.1, q.2)

    -- what is known of a thread
    record Known (t : Thread) : Type 0 where
      parent : ParentAgrees (places b.threads) t.own.number t.parent
      waits : WaitAgrees b.shared.requests (places b.threads) t.own.number t.wait
      kind : ThreadKind setting b.shared.requests t
      stood : Stood setting t

    all_known : (ts : List Thread) → AllAre (λ p. ParentAgrees (places b.threads) p.number p.parent) (places ts) → AllAre (λ p. WaitAgrees b.shared.requests (places b.threads) p.number p.wait) (places ts) → AllAre (ThreadKind setting b.shared.requests) ts → AllAre (Stood setting) ts → AllAre Known ts
    all_known [] p w k s = tt
    all_known (t ∷ ts) p w k s = (record { parent = p.0; waits = w.0; kind = k.0; stood = s.0 }, all_known ts p.1 w.1 k.1 s.1)

    -- a thread that waits for a request is at its frames
    frames_of : (t : Thread) → Stood setting t → (r : ℕ) → t.wait ≡ RequestWait r → (x : Result) → stands setting t ≡ x → KindAgrees b.shared.requests t.wait x → AllAre (λ q. q.number ≡ r → LastAsks (seat_at t x).stack q.request) b.shared.requests
    frames_of t st r e (Waits asked path s) at k = subst (λ w. KindAgrees b.shared.requests w (Waits asked path s)) e k
    frames_of t st r e (Ended y s) at k = elim st.is [ inl new ↦ absurd (subst IsReady e new.ready) | inr w ↦ (let bad : Waits w.asked w.path w.state ≡ Ended y s = sym w.stands_so ∙ at in absurd (cc)) ]
    frames_of t st r e (Limited y s) at k = elim st.is [ inl new ↦ absurd (subst IsReady e new.ready) | inr w ↦ (let bad : Waits w.asked w.path w.state ≡ Limited y s = sym w.stands_so ∙ at in absurd (cc)) ]
    frames_of t st r e Unfinished at k = elim st.is [ inl new ↦ absurd (subst IsReady e new.ready) | inr w ↦ (let bad : Waits w.asked w.path w.state ≡ Unfinished = sym w.stands_so ∙ at in absurd (cc)) ]

    seat_agrees : (t : Thread) → Known t → (x : Result) → stands setting t ≡ x → SeatAgrees setting.script b.shared (seats_of setting b.threads) (seat_at t x)
    seat_agrees t k (Ended e s) at = record { parent = parent_fits t.own.number t.parent k.parent; waits = wait_agrees t.own.number t.parent [] t.wait k.waits (λ r is. frames_of t k.stood r is (Ended e s) at (subst (KindAgrees b.shared.requests t.wait) at k.kind)) }
    seat_agrees t k (Waits asked path s) at = record { parent = parent_fits t.own.number t.parent k.parent; waits = wait_agrees t.own.number t.parent path t.wait k.waits (λ r is. frames_of t k.stood r is (Waits asked path s) at (subst (KindAgrees b.shared.requests t.wait) at k.kind)) }
    seat_agrees t k (Limited y s) at = record { parent = parent_fits t.own.number t.parent k.parent; waits = wait_agrees t.own.number t.parent [] t.wait k.waits (λ r is. frames_of t k.stood r is (Limited y s) at (subst (KindAgrees b.shared.requests t.wait) at k.kind)) }
    seat_agrees t k Unfinished at = record { parent = parent_fits t.own.number t.parent k.parent; waits = wait_agrees t.own.number t.parent [] t.wait k.waits (λ r is. frames_of t k.stood r is Unfinished at (subst (KindAgrees b.shared.requests t.wait) at k.kind)) }

    threads_agree : (ts : List Thread) → AllAre Known ts → AllAre (SeatAgrees setting.script b.shared (seats_of setting b.threads)) (seats_of setting ts)
    threads_agree [] all = tt
    threads_agree (t ∷ ts) all = (seat_agrees t all.0 (stands setting t) refl, threads_agree ts all.1)

    seats_agree : AllAre (Stood setting) b.threads → SeatsAgree setting b
    seats_agree stood = record {
      numbers = subst (Rise 0 b.next_thread) (sym (seat_numbers b.threads)) (h.agree).numbers;
      main = λ started going. has_seat (λ p. Unit {0}) (λ o. o ≡ None → ⊥) (λ s known none. absurd (cc)) 0 (h.main started going);
      threads = threads_agree b.threads (all_known b.threads (h.agree).parents (h.agree).waits h.kinds stood);
      waited_for = all_weaker _ _ (λ q awaited. has_seat (λ p. p.wait ≡ RequestWait q.number) (WaitsFor q.number) (λ s e. e) q.thread awaited) b.shared.requests (h.agree).awaited;
    }

module _ (setting : Setting) (p : Node) (e : setting.script ≡ term 0 p) (small : Small setting) where
  pub world_threads : (events : List Event) → ThreadsAgree setting (world_in setting events)
  world_threads events = world_agrees setting small (turns_open setting p e small) events

  -- In every world: thread numbers rise below the next one; a build that has begun and not ended has its main thread; each other thread is
  -- a branch, not yet ended, that its parent waits for; the branches of a wait differ, one has not ended, and each that has not is a thread
  -- of this parent; each open request is waited for by its thread, and what a thread waits for is open, its own, and of the kind that its
  -- innermost frame waits for.
  pub world_seats : (events : List Event) → SeatsAgree setting (world_in setting events)
  world_seats events = seats_agree setting (world_in setting events) (world_threads events) (world_stood setting events)
