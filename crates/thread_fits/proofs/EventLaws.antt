-- An event that ends no build keeps the fit of its threads, where none is ready.
use Rattle.std.proofs.Common.{arith, ◌≡◌, ◌∙◌, ℕ, Bool, true, false, List, [], ◌∷◌, map, filter, length, Option, Some, None, refl, ap, subst, sym}
use Rattle.std.specs.Prelude.{ℤ, find, if◌then◌else◌, is_some, nat_eq, not, option_map}
use Rattle.std.specs.List.{AllByRecursion as AllAre}
use Rattle.std.proofs.lemmas.Bool.{eqb-true, ne_eqb}
use Rattle.model_values.proofs.LaterLaws.{all_weaker}
use Rattle.model_run.specs.declared.context.Context.{Context}
use Rattle.model_run.specs.declared.event.Event.{Event}
use Rattle.model_run.specs.declared.event.Event.TheVariants.{Start as StartEvent, Granted as GrantedEvent, Output as OutputEvent, Exited as ExitedEvent, Lost as LostEvent, Decided as DecidedEvent}
use Rattle.model_run.specs.declared.event.Stream.TheVariants.{Log as LogStream, Out as OutStream}
use Rattle.model_run.specs.declared.ending.Ending.TheVariants.{Answered}
use Rattle.model_run.specs.declared.held.Held.{Held}
use Rattle.model_run.specs.declared.request.OpenRequest.{OpenRequest}
use Rattle.model_run.specs.declared.request.Request.{Request}
use Rattle.model_run.specs.declared.request.Request.TheVariants.{Node as NodeRequest, Task as TaskRequest, Input as InputRequest}
use Rattle.model_run.specs.declared.site.Executor.{Executor}
use Rattle.model_run.specs.declared.taken.Taken.TheVariants.{Accepted}
use Rattle.model_run.specs.declared.wait.Answer.{Answer}
use Rattle.model_run.specs.declared.wait.Answer.TheVariants.{Granted, Done, Decided}
use Rattle.model_run.specs.declared.wait.Wait.{Wait}
use Rattle.model_run.specs.declared.wait.Wait.TheVariants.{Ready, Request as RequestWait, Branches as BranchesWait}
use Rattle.model_run.specs.Fitting.{Asks, Distinct, ForRequest as IsForRequest, IsWaitedFor, Later, SharedFits, WaitsFor, granted_request, outermost}
use Rattle.model_run.specs.Grants.{executor_of, is_held, with_held, workspace_number}
use Rattle.model_run.specs.LogText.{raw}
use Rattle.model_run.specs.Nesting.{For_executor, For_person, For_task, Spot, innermost}
use Rattle.model_run.specs.State.{Common}
use Rattle.model_run.specs.Steps.{held_by}
use Rattle.model_run.specs.Taking.{answered, is_input, is_task, may_get, request_of}
use Rattle.model_run.specs.Terms.{Term}
use Rattle.model_run.specs.Threads.{Runs}
use Rattle.model_run.specs.World.{change_if, held_as, kept_output, lost_code, thread_of, with_kept, with_taken, without_request}
use Rattle.model_run.proofs.LaterWorlds.{accepted_grant, if_accepted, open_of}
use Rattle.model_run.proofs.RequestLaws.{NoneOf, closed_now, other_than}
use Rattle.model_run.proofs.Under.{first_of_both}
use Rattle.run_laws.proofs.Flow.{later_self}
use Rattle.seat_laws.specs.Seats.{Holding, IsHeld}
use Rattle.seat_laws.proofs.Executors.{grant_given, held_with, open_free}
use Rattle.seat_laws.proofs.Lists.{all_mapped}
use Rattle.seat_laws.proofs.Rooms.{given_holds}
use Rattle.build_requests.specs.Standings.{standing_of}
use Rattle.green_threads.specs.declared.runner.Seated.{Seated}
use Rattle.green_threads.specs.Grouping.{one_ready, ready_count}
use Rattle.green_threads.specs.Threads.{waits_as, waits_for_request, with_seat}
use Rattle.settle_laws.specs.Stances.{Stance}
use Rattle.script_thread.specs.Events.{EndsNot, seats_after, shared_after}
use Rattle.cps_code.specs.Script.{script_of}
use Rattle.cps_frames.specs.Places.{EndsAt, MoveFits}
use Rattle.cps_frames.specs.Standing.{common_of, setting_of}
use Rattle.cps_frames.specs.declared.shared.Shared.{Shared}
use Rattle.cps_frames.specs.declared.thread.Move.TheVariants as move
use Rattle.thread_fits.specs.Seats.{Fits, HasBegun, IsAlone, IsGranted, IsReady, SeatStands, WaitStands, as_seat, first_of, waiting_move}
use Rattle.thread_fits.proofs.HeldLaws.{all_kept, granted_there, none_of_it, number_of_it}
use Rattle.thread_fits.proofs.SeatLaws.{joins_then, poised_on, stands_on}
use Rattle.thread_fits.proofs.FamilyLaws.{changed_family, same_family}
use Rattle.thread_fits.proofs.SeatRows.{IsAwaited, all_both, awaited_above, found_with, awaits_one, differ_with, each_waits, waits_there, with_all}
use Rattle.thread_fits.proofs.RoomLaws.{above, above_with, differ_still, holding, room_in, rooms, rooms_differ, rooms_hold, rooms_numbers, rooms_same, rooms_waiting, seats_under, splits}
use Rattle.thread_fits.proofs.SharedLaws.{closed_shared, granted_shared, kept_shared, sound_of, taken_shared}

-- the same of what threads share, but for requests, held executors, the log and the count
abbrev pub changed : Shared → List OpenRequest → List Held → List ℕ → Shared
changed u rs held log = record u { requests = rs; held = held; log = log; count = 0 }

-- Open requests by their numbers.
request_here : (o : Option OpenRequest) (q : Request) → option_map (λ (r : OpenRequest). r.request) o ≡ Some q → (r : OpenRequest) × (o ≡ Some r) × (r.request ≡ q)
request_here None q e = absurd (cc e)
request_here (Some r) q e = (r, refl, cc e)

request_some : (o : Option OpenRequest) → is_some (option_map (λ (r : OpenRequest). r.request) o) ≡ true → (r : OpenRequest) × (o ≡ Some r)
request_some None e = absurd (cc e)
request_some (Some r) e = (r, refl)

-- an open request of a number, with what holds of all
record Is_open (P : OpenRequest → Type 0) (n : ℕ) (rs : List OpenRequest) (r : OpenRequest) : Type 0 where
  number : r.number ≡ n
  thread : thread_of n rs ≡ r.thread
  holds : P r

is_open : (P : OpenRequest → Type 0) (n : ℕ) (rs : List OpenRequest) (r : OpenRequest) → AllAre P rs → find (λ q. nat_eq q.number n) rs ≡ Some r → Is_open P n rs r
is_open P n [] r h e = absurd (cc e)
is_open P n (q ∷ rs) r h e = one (nat_eq q.number n) refl e (is_open P n rs r h.1)
  where
    one : (b : Bool) → nat_eq q.number n ≡ b → (if b then Some q else find (λ x. nat_eq x.number n) rs) ≡ Some r → (find (λ x. nat_eq x.number n) rs ≡ Some r → Is_open P n rs r) → Is_open P n (q ∷ rs) r
    one true is e more = (let same : q ≡ r = cc e in record { number = ap (λ (x : OpenRequest). x.number) (sym same) ∙ eqb-true _ _ is; thread = ap (λ b. if b then q.thread else thread_of n rs) is ∙ ap (λ (x : OpenRequest). x.thread) same; holds = subst P same h.0 })
    one false is e more = (let rest : Is_open P n rs r = more e in record { number = rest.number; thread = ap (λ b. if b then q.thread else thread_of n rs) is ∙ rest.thread; holds = rest.holds })

-- where another is closed
found_other : (n r : ℕ) (rs : List OpenRequest) → (r ≡ n → ⊥) → find (λ q. nat_eq q.number r) (filter (other_than n) rs) ≡ find (λ q. nat_eq q.number r) rs
found_other n r [] other = refl
found_other n r (q ∷ rs) other = one (nat_eq q.number n) refl (found_other n r rs other)
  where
    one : (b : Bool) → nat_eq q.number n ≡ b → find (λ x. nat_eq x.number r) (filter (other_than n) rs) ≡ find (λ x. nat_eq x.number r) rs → find (λ x. nat_eq x.number r) (if not b then q ∷ filter (other_than n) rs else filter (other_than n) rs) ≡ (if nat_eq q.number r then Some q else find (λ x. nat_eq x.number r) rs)
    one true is more = more ∙ sym (ap (λ b. if b then Some q else find (λ x. nat_eq x.number r) rs) (ne_eqb q.number r (λ e. other (sym e ∙ eqb-true _ _ is))))
    one false is more = ap (λ o. if nat_eq q.number r then Some q else o) more

-- where what is asked stays, and only what was taken of its output changes
found_changed : (f : Request → Request) → ((at : Spot) (q : Request) → Asks at q → Asks at (f q)) → (at : Spot) (n k r : ℕ) (rs : List OpenRequest) → IsForRequest at (find (λ q. nat_eq q.number r) rs) k → IsForRequest at (find (λ q. nat_eq q.number r) (map (change_if f n) rs)) k
found_changed f asks at n k r [] h = h
found_changed f asks at n k r (q ∷ rs) h = one (nat_eq q.number n) (nat_eq q.number r) refl h (found_changed f asks at n k r rs)
  where
    changed_one : (b c : Bool) → IsForRequest at (if c then Some q else find (λ x. nat_eq x.number r) rs) k → (IsForRequest at (find (λ x. nat_eq x.number r) rs) k → IsForRequest at (find (λ x. nat_eq x.number r) (map (change_if f n) rs)) k) → IsForRequest at (if c then Some (if b then record q { request = f q.request } else q) else find (λ x. nat_eq x.number r) (map (change_if f n) rs)) k
    changed_one true true h more = (h.0, asks at q.request h.1)
    changed_one false true h more = h
    changed_one b false h more = more h

    one : (b c : Bool) → nat_eq q.number r ≡ c → IsForRequest at (if nat_eq q.number r then Some q else find (λ x. nat_eq x.number r) rs) k → (IsForRequest at (find (λ x. nat_eq x.number r) rs) k → IsForRequest at (find (λ x. nat_eq x.number r) (map (change_if f n) rs)) k) → IsForRequest at (find (λ x. nat_eq x.number r) ((if b then record q { request = f q.request } else q) ∷ map (change_if f n) rs)) k
    one true c is h more = changed_one true (nat_eq q.number r) h more
    one false c is h more = changed_one false (nat_eq q.number r) h more

taken_asks : (n : ℕ) (at : Spot) (q : Request) → Asks at q → Asks at (with_taken n q)
taken_asks n For_task (TaskRequest x w f e s st k t o) h = tt
taken_asks n at (TaskRequest x w f e s st k t o) h = absurd h
taken_asks n at (NodeRequest l) h = h
taken_asks n at (InputRequest i) h = h

kept_asks : (bytes : List ℕ) (at : Spot) (q : Request) → Asks at q → Asks at (with_kept bytes q)
kept_asks bytes For_task (TaskRequest x w f e s st k t o) h = tt
kept_asks bytes at (TaskRequest x w f e s st k t o) h = absurd h
kept_asks bytes at (NodeRequest l) h = h
kept_asks bytes at (InputRequest i) h = h

-- The answer to a request is one to the wait for it.
executor_answer : (root : Term) (v : Common) (x : ℕ) → (held_by x v.held ≡ None → ⊥) → (at : Spot) (q : Request) (label : Option (List ℕ)) → q ≡ NodeRequest label → Asks at q → EndsAt root v at (Answered (Granted x))
executor_answer root v x there at q label e h = by at (subst (Asks at) e h)
  where
    by : (at : Spot) → Asks at (NodeRequest label) → EndsAt root v at (Answered (Granted x))
    by For_executor h = there
    by at h = absurd h

task_answer : (root : Term) (v : Common) (code : ℤ) (out : List ℕ) (at : Spot) (q : Request) → is_task (Some q) ≡ true → Asks at q → EndsAt root v at (Answered (Done code out))
task_answer root v code out For_task (TaskRequest x w f e s st k t o) is h = tt
task_answer root v code out at (TaskRequest x w f e s st k t o) is h = absurd h
task_answer root v code out at (NodeRequest l) is h = absurd (cc is)
task_answer root v code out at (InputRequest i) is h = absurd (cc is)

person_answer : (root : Term) (v : Common) (proceed : Bool) (name : List ℕ) (at : Spot) (q : Request) → is_input (Some q) ≡ true → Asks at q → EndsAt root v at (Answered (Decided proceed name))
person_answer root v proceed name For_person (InputRequest i) is h = tt
person_answer root v proceed name at (InputRequest i) is h = absurd h
person_answer root v proceed name at (NodeRequest l) is h = absurd (cc is)
person_answer root v proceed name at (TaskRequest x w f e s st k t o) is h = absurd (cc is)

granted_ready : (w : Wait) → IsGranted w → IsReady w
granted_ready (Ready x) h = tt
granted_ready (RequestWait r) h = absurd h
granted_ready (BranchesWait js) h = absurd h

-- a request of a kind is open
kind_open : (kind : Option Request → Bool) → (kind None ≡ true → ⊥) → (o : Option OpenRequest) → kind (option_map (λ (r : OpenRequest). r.request) o) ≡ true → (r : OpenRequest) × (o ≡ Some r) × (kind (Some r.request) ≡ true)
kind_open kind never None e = absurd (never e)
kind_open kind never (Some r) e = (r, refl, e)

no_task : is_task None ≡ true → ⊥
no_task e = absurd (cc e)

no_input : is_input None ≡ true → ⊥
no_input e = absurd (cc e)

-- An answer gives a thread these requests, whose executors are held from now on and were not before.
record IsGiven (old held : List Held) (x : Answer) : Type 0 where
  new : List ℕ
  gives : granted_request held (Ready x) ≡ new
  differ : Distinct new
  keeps : (r : ℕ) → IsHeld old r → IsHeld held r
  free : AllAre (λ r. IsHeld old r → ⊥) new

nothing_granted : (zs : List Held) (w : Wait) → (IsReady w → ⊥) → granted_request zs w ≡ []
nothing_granted zs (Ready x) never = absurd (never tt)
nothing_granted zs (RequestWait r) never = refl
nothing_granted zs (BranchesWait js) never = refl

each : {A : Type 0} {P : A → Type 0} → ((x : A) → P x) → (xs : List A) → AllAre P xs
each h [] = tt
each h (x ∷ xs) = (h x, each h xs)

module _ {T : Type 0} (stance : T → Stance) where
  awaited_changed : (f : Request → Request) (n : ℕ) (xs : List (Seated T)) (rs : List OpenRequest) → AllAre (IsWaitedFor (map (as_seat stance) xs)) rs → AllAre (IsWaitedFor (map (as_seat stance) xs)) (map (change_if f n) rs)
  awaited_changed f n xs [] h = tt
  awaited_changed f n xs (r ∷ rs) h = (one (nat_eq r.number n), awaited_changed f n xs rs h.1)
    where
      one : (b : Bool) → IsWaitedFor (map (as_seat stance) xs) (if b then record r { request = f r.request } else r)
      one true = h.0
      one false = h.0

  -- no thread is ready
  abbrev Waits : Seated T → Type 0
  Waits y = IsReady y.wait → ⊥

  none_ready : (xs : List (Seated T)) → ready_count xs ≡ 0 → AllAre Waits xs
  none_ready [] e = tt
  none_ready (x ∷ xs) e = (one x.wait refl, none_ready xs (omega (arith, e)))
    where
      one : (w : Wait) → x.wait ≡ w → IsReady w → ⊥
      one (Ready a) is h = (let n : one_ready x.wait ≡ 1 = ap one_ready is in absurd (omega (arith, e, n)))
      one (RequestWait r) is h = h
      one (BranchesWait js) is h = h

  module _ (xs : List (Seated T)) (u : Shared) (fits : Fits stance xs u) (none : ready_count xs ≡ 0) (rs : List OpenRequest) (held : List Held) (log : List ℕ) (shared : SharedFits (setting_of u) false (common_of (changed u rs held log))) where
    later : Later (common_of u) (common_of (changed u rs held log))
    later = record { cells = (later_self (common_of u)).cells; nodes = (later_self (common_of u)).nodes }

    -- a thread goes on to wait
    stays : (c : Context) (y : Seated T) → Waits y → WaitStands (common_of (changed u rs held log)) (innermost (script_of u.code) (outermost y.parent) (stance y.thread).frames) y.number y.wait → SeatStands stance u c y → SeatStands stance (changed u rs held log) c y
    stays c y never wait h = stands_on stance u (changed u rs held log) refl later (sound_of (changed u rs held log) shared) c y (λ g. never (granted_ready y.wait g)) wait h

    -- No thread is answered: what is asked stays, and so does what is held.
    module _ (f : Request → Request) (asks : (at : Spot) (q : Request) → Asks at q → Asks at (f q)) (n : ℕ) (is : rs ≡ map (change_if f n) u.requests) (same_held : held ≡ u.held) where
      wait_stays : (at : Spot) (k : ℕ) (w : Wait) → WaitStands (common_of u) at k w → WaitStands (common_of (changed u rs held log)) at k w
      wait_stays at k (Ready x) h = tt
      wait_stays at k (RequestWait r) h = subst (λ qs. IsForRequest at (find (λ q. nat_eq q.number r) qs) k) (sym is) (found_changed f asks at n k r u.requests h)
      wait_stays at k (BranchesWait js) h = joins_then (common_of u) (common_of (changed u rs held log)) later js h

      all_stay : (ys : List (Seated T)) → AllAre (λ y. SeatStands stance u (above stance xs y.parent) y) ys → AllAre Waits ys → AllAre (λ y. SeatStands stance (changed u rs held log) (above stance xs y.parent) y) ys
      all_stay [] h w = tt
      all_stay (y ∷ ys) h w = (stays (above stance xs y.parent) y w.0 (wait_stays (innermost (script_of u.code) (outermost y.parent) (stance y.thread).frames) y.number y.wait (h.0).wait) h.0, all_stay ys h.1 w.1)

      unanswered : Fits stance xs (changed u rs held log)
      unanswered = record {
        script = fits.script;
        shared = shared;
        numbers = fits.numbers;
        family = same_family stance (common_of u) (common_of (changed u rs held log)) later xs fits.family;
        seats = all_stay xs fits.seats (none_ready xs none);
        holds = subst (λ hs. AllAre (λ y. AllAre (IsHeld hs) (stance y.thread).own.context.held) xs) (sym same_held) fits.holds;
        differ = differ_still stance u (changed u rs held log) xs same_held fits.differ;
        alone = fits.alone;
        waited_for = subst (AllAre (IsWaitedFor (map (as_seat stance) xs))) (sym is) (awaited_changed f n xs u.requests fits.waited_for);
      }

    -- One thread is answered, whose request is closed; where it is given an executor, nobody held that of this request.
    module _ (n : ℕ) (is : rs ≡ filter (other_than n) u.requests) (r : OpenRequest) (opens : find (λ q. nat_eq q.number n) u.requests ≡ Some r) (x : Answer) (answer : (at : Spot) → Asks at r.request → EndsAt (script_of u.code) (common_of (changed u rs held log)) at (Answered x)) (given : IsGiven u.held held x) where
      abbrev p : ℕ
      p = thread_of n u.requests

      opened : Is_open (IsWaitedFor (map (as_seat stance) xs)) n u.requests r
      opened = is_open (IsWaitedFor (map (as_seat stance) xs)) n u.requests r fits.waited_for opens

      awaits : IsAwaited stance n p xs
      awaits = subst (λ k. IsAwaited stance k p xs) opened.number (subst (λ k. IsAwaited stance r.number k xs) (sym opened.thread) opened.holds)

      -- what holds of each thread
      abbrev Known : Seated T → Type 0
      Known y = (SeatStands stance u (above stance xs y.parent) y × Waits y) × (y.number ≡ p → y.wait ≡ RequestWait n)

      known : AllAre Known xs
      known = all_both _ _ xs (all_both (λ y. SeatStands stance u (above stance xs y.parent) y) Waits xs fits.seats (none_ready xs none)) (each_waits stance n p xs fits.numbers awaits)

      begun_answer : (s : Option Runs) (w : Wait) → w ≡ RequestWait n → HasBegun w s → first_of s x ≡ move.Ends (Answered x)
      begun_answer s w e h = ap (λ o. first_of o x) (subst (λ v. HasBegun v s) e h)

      -- the thread that is answered
      answered_stands : (y : Seated T) → y.number ≡ p → Known y → SeatStands stance (changed u rs held log) (above stance xs y.parent) (waits_as (Ready x) y)
      answered_stands y at k =
          let h : SeatStands stance u (above stance xs y.parent) y = (k.0).0 in
          let wait : y.wait ≡ RequestWait n = k.1 at in
          let asked : IsForRequest (innermost (script_of u.code) (outermost y.parent) (stance y.thread).frames) (find (λ q. nat_eq q.number n) u.requests) y.number =
          subst (WaitStands (common_of u) (innermost (script_of u.code) (outermost y.parent) (stance y.thread).frames) y.number) wait h.wait in
          let asks : Asks (innermost (script_of u.code) (outermost y.parent) (stance y.thread).frames) r.request =
          (subst (λ o. IsForRequest (innermost (script_of u.code) (outermost y.parent) (stance y.thread).frames) o y.number) opens asked).1 in
          record {
            poised = poised_on stance u (changed u rs held log) refl later (sound_of (changed u rs held log) shared) (stance y.thread) (above stance xs y.parent) (outermost y.parent) (waiting_move y.wait (stance y.thread)) (first_of (stance y.thread).runs x)
                (subst (MoveFits (script_of u.code) (common_of (changed u rs held log)) (innermost (script_of u.code) (outermost y.parent) (stance y.thread).frames))
                (sym (begun_answer (stance y.thread).runs y.wait wait h.begun)) (answer (innermost (script_of u.code) (outermost y.parent) (stance y.thread).frames) asks)) h.poised;
            closures = h.closures;
            begun = subst (HasBegun (Ready x)) (sym (subst (λ v. HasBegun v (stance y.thread).runs) wait h.begun)) tt;
            start = h.start;
            number = h.number;
            parent = h.parent;
            wait = tt;
          }

      -- and each other
      wait_other : (at : Spot) (k : ℕ) (w : Wait) → (k ≡ p → ⊥) → WaitStands (common_of u) at k w → WaitStands (common_of (changed u rs held log)) at k w
      wait_other at k (Ready a) other h = tt
      wait_other at k (BranchesWait js) other h = joins_then (common_of u) (common_of (changed u rs held log)) later js h
      wait_other at k (RequestWait q) other h =
          subst (λ qs. IsForRequest at (find (λ y. nat_eq y.number q) qs) k) (sym is)
          (subst (λ o. IsForRequest at o k) (sym (found_other n q u.requests (λ e. other (sym (subst (λ o. IsForRequest at o k) opens (subst (λ j. IsForRequest at (find (λ y. nat_eq y.number j) u.requests) k) e h)).0 ∙ sym opened.thread)))) h)

      other_stands : (y : Seated T) → (y.number ≡ p → ⊥) → Known y → SeatStands stance (changed u rs held log) (above stance xs y.parent) y
      other_stands y other k = stays (above stance xs y.parent) y (k.0).1 (wait_other (innermost (script_of u.code) (outermost y.parent) (stance y.thread).frames) y.number y.wait other ((k.0).0).wait) (k.0).0

      abbrev now : List (Seated T)
      now = with_seat (waits_as (Ready x)) p xs

      -- it alone is ready
      ready_is : AllAre (λ y. IsReady y.wait → y.number ≡ p) now
      ready_is = with_all Known (λ y. IsReady y.wait → y.number ≡ p) (waits_as (Ready x)) p (λ y at k ready. at) (λ y other k ready. absurd ((k.0).1 ready)) xs known

      alone_now : AllAre (IsAlone now) now
      alone_now = all_weaker (λ y. IsReady y.wait → y.number ≡ p) (IsAlone now) (λ y h given. all_weaker _ _ (λ z other ready. other ready ∙ sym (h (granted_ready y.wait given))) now ready_is) now ready_is

      still_awaited : (q : OpenRequest) → (q.number ≡ n → ⊥) → IsWaitedFor (map (as_seat stance) xs) q → IsWaitedFor (map (as_seat stance) now) q
      still_awaited q other h = found_with stance (WaitsFor q.number) (waits_as (Ready x)) (λ y. refl) p q.thread (λ y e w. absurd (other (awaits_one stance xs p q.number n (subst (λ k. IsAwaited stance q.number k xs) e h) awaits))) xs h

      all_awaited : (qs : List OpenRequest) → NoneOf n qs → AllAre (IsWaitedFor (map (as_seat stance) xs)) qs → AllAre (IsWaitedFor (map (as_seat stance) now)) qs
      all_awaited [] a b = tt
      all_awaited (q ∷ qs) a b = (still_awaited q a.0 b.0, all_awaited qs a.1 b.1)

      -- contexts stay as they are
      contexts : AllAre (λ y. above stance xs y.parent ≡ above stance now y.parent) now
      contexts = each (λ y. sym (above_with stance (waits_as (Ready x)) (λ z. refl) p y.parent (λ z e. refl) xs)) now

      holding_now : Holding held (rooms stance (above stance now) now)
      holding_now =
          subst (Holding held) (sym (rooms_waiting stance (above stance xs) (waits_as (Ready x)) p (λ v. Ready x) (λ y. refl) xs) ∙ rooms_same stance (above stance xs) (above stance now) now contexts)
          (given_holds u.held held (Ready x) p given.new given.gives given.differ (rooms stance (above stance xs) xs)
          (all_mapped (λ q. (zs : List Held) → granted_request zs q.wait ≡ []) (room_in stance (above stance xs)) xs (all_weaker Waits _ (λ y never zs. nothing_granted zs y.wait never) xs (none_ready xs none)))
          (subst Distinct (sym (rooms_numbers stance (above stance xs) xs)) fits.numbers) given.keeps given.free (splits stance u xs fits) (holding stance u xs fits))

      answered_fits : Fits stance (with_seat (waits_as (Ready x)) (thread_of n u.requests) xs) (changed u rs held log)
      answered_fits = record {
        script = fits.script;
        shared = shared;
        numbers = differ_with (waits_as (Ready x)) (λ y. refl) p xs fits.numbers;
        family = changed_family stance (common_of u) (common_of (changed u rs held log)) later xs fits.family p (λ m. awaited_above stance xs p n m awaits) (λ y. Ready x) (λ y. y.thread) (λ y e. tt);
        seats = seats_under stance (changed u rs held log) (above stance xs) (above stance now) now contexts
            (with_all Known (λ y. SeatStands stance (changed u rs held log) (above stance xs y.parent) y) (waits_as (Ready x)) p answered_stands other_stands xs known);
        holds = rooms_hold stance (changed u rs held log) now holding_now;
        differ = rooms_differ stance (changed u rs held log) now holding_now;
        alone = alone_now;
        waited_for = subst (AllAre (IsWaitedFor (map (as_seat stance) now))) (sym is) (all_awaited (filter (other_than n) u.requests) (closed_now n u.requests) (all_kept _ (other_than n) u.requests fits.waited_for));
      }

  -- An executor is granted.
  granted_fits : (xs : List (Seated T)) (u : Shared) → Fits stance xs u → ready_count xs ≡ 0 → (n ex : ℕ) (r : OpenRequest) (label : Option (List ℕ)) → find (λ q. nat_eq q.number n) u.requests ≡ Some r → r.request ≡ NodeRequest label → (o : Option Executor) → executor_of u.site ex ≡ o → may_get label u.held o ≡ true
      → Fits stance (with_seat (waits_as (Ready (Granted ex))) (thread_of n u.requests) xs) (changed u (without_request n (held_as u.site n ex o (common_of u))).requests (without_request n (held_as u.site n ex o (common_of u))).held (without_request n (held_as u.site n ex o (common_of u))).log)
  granted_fits xs u fits none n ex r label opens kind None known may = absurd (cc may)
  granted_fits xs u fits none n ex r label opens kind (Some x) known may =
      let y : Held = record { executor = ex; request = n; workspace = workspace_number u.site u.held x } in
      let free : not (is_held u.held ex) ≡ true = subst (λ k. not (is_held u.held k) ≡ true) (number_of_it ex u.site.executors x known) (first_of_both _ _ may) in
      let shared : SharedFits (setting_of u) false (common_of (changed u (filter (other_than n) u.requests) (with_held (record { executor = ex; request = n; workspace = workspace_number u.site u.held x }) u.held) u.log)) =
      granted_shared (setting_of u) (record { executor = ex; request = n; workspace = workspace_number u.site u.held x }) (common_of u) (λ e. (let no : None ≡ Some x = sym e ∙ known in absurd (cc no)))
      (open_of n u.requests r.request (ap (λ z. option_map (λ (q : OpenRequest). q.request) z) opens)) (none_of_it ex u.held free) fits.shared in
      answered_fits xs u fits none (filter (other_than n) u.requests) (with_held (record { executor = ex; request = n; workspace = workspace_number u.site u.held x }) u.held) u.log shared n refl r opens (Granted ex)
      (λ at h. executor_answer (script_of u.code) (common_of (changed u (filter (other_than n) u.requests) (with_held (record { executor = ex; request = n; workspace = workspace_number u.site u.held x }) u.held) u.log)) ex
      (granted_there ex (record { executor = ex; request = n; workspace = workspace_number u.site u.held x }) u.held refl) at r.request label kind h)
      (record {
        new = n ∷ [];
        gives = grant_given (record { executor = ex; request = n; workspace = workspace_number u.site u.held x }) u.held free;
        differ = (tt, tt);
        keeps = λ m h. held_with m (record { executor = ex; request = n; workspace = workspace_number u.site u.held x }) u.held h;
        free = ((λ h. open_free u.site (common_of u) (fits.shared).held n (open_of n u.requests r.request (ap (λ z. option_map (λ (q : OpenRequest). q.request) z) opens)) h), tt);
      })

  -- A request is answered, and nothing is granted.
  closed_fits : (xs : List (Seated T)) (u : Shared) → Fits stance xs u → ready_count xs ≡ 0 → (n : ℕ) (r : OpenRequest) → find (λ q. nat_eq q.number n) u.requests ≡ Some r → (x : Answer) → ((at : Spot) → Asks at r.request → EndsAt (script_of u.code) (common_of (changed u (filter (other_than n) u.requests) u.held u.log)) at (Answered x)) → granted_request u.held (Ready x) ≡ []
      → Fits stance (with_seat (waits_as (Ready x)) (thread_of n u.requests) xs) (changed u (filter (other_than n) u.requests) u.held u.log)
  closed_fits xs u fits none n r opens x answer nothing =
      answered_fits xs u fits none (filter (other_than n) u.requests) u.held u.log (closed_shared (setting_of u) n (common_of u) fits.shared) n refl r opens x answer
      (record { new = []; gives = nothing; differ = tt; keeps = λ m h. h; free = tt })

  -- Each accepted event.
  pub event_fits : (xs : List (Seated T)) (u : Shared) (event : Event) → Fits stance xs u → ready_count xs ≡ 0 → answered (standing_of u.site u.requests u.held) event ≡ Accepted → EndsNot u event → Fits stance (seats_after event u.requests xs) (shared_after event u)
  event_fits xs u (StartEvent script agents) fits none accepted ends = absurd (cc accepted)
  event_fits xs u (GrantedEvent request executor) fits none accepted ends =
      let g = accepted_grant (standing_of u.site u.requests u.held) executor (request_of u.requests request) accepted in
      let o = request_here (find (λ (q : OpenRequest). nat_eq q.number request) u.requests) (NodeRequest g.0) g.1 in
      granted_fits xs u fits none request executor o.0 g.0 o.1 o.2 (executor_of u.site executor) refl g.2
  event_fits xs u (OutputEvent task LogStream from bytes) fits none accepted ends =
      unanswered xs u fits none (map (change_if (with_taken (length bytes)) task) u.requests) u.held (raw bytes u.log) (taken_shared (setting_of u) task bytes (common_of u) fits.shared) (with_taken (length bytes)) (taken_asks (length bytes)) task refl refl
  event_fits xs u (OutputEvent task OutStream from bytes) fits none accepted ends =
      unanswered xs u fits none (map (change_if (with_kept bytes) task) u.requests) u.held u.log (kept_shared (setting_of u) task bytes (common_of u) fits.shared) (with_kept bytes) (kept_asks bytes) task refl refl
  event_fits xs u (ExitedEvent task code) fits none accepted ends =
      let o = kind_open is_task no_task (find (λ (q : OpenRequest). nat_eq q.number task) u.requests) (if_accepted _ accepted) in
      closed_fits xs u fits none task o.0 o.1 (Done code (kept_output (request_of u.requests task)))
      (λ at h. task_answer (script_of u.code) (common_of (changed u (filter (other_than task) u.requests) u.held u.log)) code (kept_output (request_of u.requests task)) at (o.0).request o.2 h) refl
  event_fits xs u (LostEvent task why) fits none accepted ends =
      let o = kind_open is_task no_task (find (λ (q : OpenRequest). nat_eq q.number task) u.requests) (if_accepted _ accepted) in
      closed_fits xs u fits none task o.0 o.1 (Done (lost_code why) (kept_output (request_of u.requests task)))
      (λ at h. task_answer (script_of u.code) (common_of (changed u (filter (other_than task) u.requests) u.held u.log)) (lost_code why) (kept_output (request_of u.requests task)) at (o.0).request o.2 h) refl
  event_fits xs u (DecidedEvent request proceed name) fits none accepted ends =
      let o = kind_open is_input no_input (find (λ (q : OpenRequest). nat_eq q.number request) u.requests) (if_accepted _ accepted) in
      closed_fits xs u fits none request o.0 o.1 (Decided proceed name)
      (λ at h. person_answer (script_of u.code) (common_of (changed u (filter (other_than request) u.requests) u.held u.log)) proceed name at (o.0).request o.2 h) refl

  -- The thread of an open request waits for its answer.
  pub awaited_there : (xs : List (Seated T)) (u : Shared) (n : ℕ) → Fits stance xs u → is_some (request_of u.requests n) ≡ true → waits_for_request (thread_of n u.requests) xs ≡ true
  awaited_there xs u n fits there =
      let o = request_some (find (λ (q : OpenRequest). nat_eq q.number n) u.requests) there in
      let opens : Is_open (IsWaitedFor (map (as_seat stance) xs)) n u.requests o.0 = is_open (IsWaitedFor (map (as_seat stance) xs)) n u.requests o.0 fits.waited_for o.1 in
      waits_there stance (thread_of n u.requests) (o.0).number xs (subst (λ k. IsAwaited stance (o.0).number k xs) (sym opens.thread) opens.holds)
