-- An accepted event that answers a thread: it may be given the answer, and what the threads then come to is what the definitions say.
use Rattle.std.proofs.Common.{◌≡◌, ◌≤◌, ℕ, List, [], ◌∷◌, Bool, true, refl, sym, ap, subst, ◌∙◌, Option, Some, None, arith}
use Rattle.std.specs.Prelude.{is_some, not, nat_eq, Result, Ok, Err, IfOk}
use Rattle.std.specs.List.{filter}
use Rattle.model_values.specs.declared.limit.LimitKind.{LimitKind}
use Rattle.model_values.specs.Limits.{limit_line}
use Rattle.model_run.specs.declared.result.BuildResult.TheVariants.{Failure}
use Rattle.model_run.specs.Results.{worse}
use Rattle.model_run.specs.Grants.{executor_of}
use Rattle.model_run.specs.Taking.{answered, request_of}
use Rattle.model_run.specs.State.{Common}
use Rattle.model_run.specs.World as W
use Rattle.green_threads.specs.declared.runner.Seated.{Seated}
use Rattle.green_threads.specs.Grouping.{ready_count}
use Rattle.green_threads.specs.Threads as G
use Rattle.cps_frames.specs.declared.shared.Shared.{Shared}
use Rattle.cps_frames.specs.Standing.{setting_of, common_of}
use Rattle.settle_laws.specs.Stances.{Stance}
use Rattle.settle_laws.specs.Standing.{Stand, over, heads}
use Rattle.build_requests.specs.Standings.{standing_of}
use Rattle.build_requests.specs.Workspaces.{row_held}
use Rattle.script_thread.specs.Names.{Event, GrantedEvent, ExitedEvent, DecidedEvent, Accepted, Answer, Done, GrantedAnswer, DecidedAnswer, Executor, Held, OpenRequest}
use Rattle.build_core.specs.declared.phase.Phase.{Phase}
use Rattle.build_core.specs.declared.phase.Phase.TheVariants.{Running}
use Rattle.script_thread.specs.Events.{shared_after, EndsNot, answer_by, seats_answered, seats_after}
use Rattle.build_core.specs.Phases.{StandsIn, GoOn, recounted}
use Rattle.build_core.specs.Taking.{MayAnswer, GoesOn, answered_group}
use Rattle.build_core.specs.Endings.{IsOver}
use Rattle.build_core.proofs.Changes.{anew, uncounted_stand, changed_stand, decided_stand, ended_stand, granted_stand}
use Rattle.build_core.proofs.Rests.{waits_on, stays_over, over_stands}

-- the open requests without this one
abbrev pub others : ℕ → List OpenRequest → List OpenRequest
others n rs = filter (λ r. not (nat_eq r.number n)) rs

-- what threads share behind each of these events
granted_shared : (u : Shared) (n ex : ℕ) → record u { requests = others n u.requests; held = row_held u.site n ex (executor_of u.site ex) u.held; count = 0 } ≡ shared_after (GrantedEvent n ex) u
granted_shared u n ex = go (executor_of u.site ex)
  where
    after : Option Executor → Common
    after o = W.without_request n (W.held_as u.site n ex o (common_of u))

    go : (o : Option Executor) → record u { requests = others n u.requests; held = row_held u.site n ex o u.held; count = 0 } ≡ record u { requests = (after o).requests; held = (after o).held; log = (after o).log; count = 0 }
    go None = refl
    go (Some x) = refl

-- by the requests and the held executors that the calls give
pub granted_same : (u : Shared) (n ex : ℕ) (rs : List OpenRequest) (hs : List Held) → rs ≡ others n u.requests → hs ≡ row_held u.site n ex (executor_of u.site ex) u.held → record u { requests = rs; held = hs; count = 0 } ≡ shared_after (GrantedEvent n ex) u
granted_same u n ex rs hs r h =
    ap (λ qs. record u { requests = qs; held = hs; count = 0 }) r
    ∙ ap (λ ks. record u { requests = others n u.requests; held = ks; count = 0 }) h
    ∙ granted_shared u n ex

granted_common : (u : Shared) (n ex : ℕ) → W.without_request n (W.held_as u.site n ex (executor_of u.site ex) (anew (common_of u))) ≡ common_of (shared_after (GrantedEvent n ex) u)
granted_common u n ex = go (executor_of u.site ex)
  where
    after : Option Executor → Common
    after o = W.without_request n (W.held_as u.site n ex o (common_of u))

    go : (o : Option Executor) → W.without_request n (W.held_as u.site n ex o (anew (common_of u))) ≡ common_of (record u { requests = (after o).requests; held = (after o).held; log = (after o).log; count = 0 })
    go None = refl
    go (Some x) = refl

module _ {T : Type 0} (number : T → ℕ) (parent : T → Option ℕ) (branch : T → Bool) (fits : List (Seated T) → Shared → Type 0)
    (awaited : (xs : List (Seated T)) (u : Shared) (n : ℕ) → fits xs u → is_some (request_of u.requests n) ≡ true → G.waits_for_request (W.thread_of n u.requests) xs ≡ true)
    (event_fits : (xs : List (Seated T)) (u : Shared) (event : Event) → fits xs u → ready_count xs ≡ 0 → answered (standing_of u.site u.requests u.held) event ≡ Accepted → EndsNot u event → fits (seats_after event u.requests xs) (shared_after event u))
    (g : G.Threads T) (u : Shared) (go : GoOn number parent branch fits 0 g u) (event : Event) (accepted : answered (standing_of u.site u.requests u.held) event ≡ Accepted) (ends_not : EndsNot u event) where
  none_ready : ready_count g.seats ≡ 0
  none_ready = omega (arith, go.few)

  -- an event that answers none
  pub rests_after : answer_by event u.requests ≡ None → (u' : Shared) → u' ≡ shared_after event u → GoOn number parent branch fits 0 g u'
  rests_after e u' same =
      subst (λ v. GoOn number parent branch fits 0 g v) (sym same)
      (record {
        grouped = go.grouped;
        fit = subst (λ o. fits (seats_answered u.requests o g.seats) (shared_after event u)) e (event_fits g.seats u event go.fit none_ready accepted ends_not);
        few_threads = go.few_threads;
        few = go.few;
      })

  -- one that answers a request
  pub may_answer : (n : ℕ) (x : Answer) → answer_by event u.requests ≡ Some (n, x) → is_some (request_of u.requests n) ≡ true → (t : ℕ) → W.thread_of n u.requests ≡ t → (y : Answer) → x ≡ y → (u' : Shared) → u' ≡ shared_after event u → MayAnswer number parent branch fits t y g u'
  may_answer n x e there t at y is u' same =
      subst (λ v. MayAnswer number parent branch fits t y g v) (sym same)
      (subst (λ z. MayAnswer number parent branch fits t z g (shared_after event u)) is
      (subst (λ m. MayAnswer number parent branch fits m x g (shared_after event u)) at
      (record {
        waits = awaited g.seats u n go.fit there;
        go = record {
          grouped = go.grouped;
          fit = subst (λ o. fits (seats_answered u.requests o g.seats) (shared_after event u)) e (event_fits g.seats u event go.fit none_ready accepted ends_not);
          few_threads = go.few_threads;
          few = go.few;
        };
      })))

module _ {T : Type 0} (stance : T → Stance) (g : G.Threads T) (u : Shared) where
  -- what a build of the definitions that is answered so stands for, before any thread goes on
  abbrev pub Answered : Event → ℕ → Answer → Type 0
  Answered event t x = (w : W.Build) → StandsIn stance Running g u (recounted u.count w) → StandsIn stance Running (answered_group t x g) (shared_after event u) (W.changed_by (setting_of u) event (W.uncounted w))

  pub decided : (n : ℕ) (proceed : Bool) (name : List ℕ) → Answered (DecidedEvent n proceed name) (W.thread_of n u.requests) (DecidedAnswer proceed name)
  decided n proceed name w st = record {
    started = st.started;
    ended = st.ended;
    stand = decided_stand stance (setting_of u) g (anew (common_of u)) (W.uncounted w) n (DecidedAnswer proceed name) (uncounted_stand stance g u w st);
  }

  pub ended : (n : ℕ) (code : _) → Answered (ExitedEvent n code) (W.thread_of n u.requests) (Done code (W.kept_output (request_of u.requests n)))
  ended n code w st = record {
    started = st.started;
    ended = st.ended;
    stand = ended_stand stance (setting_of u) g (anew (common_of u)) (W.uncounted w) n code (uncounted_stand stance g u w st);
  }

  pub granted : (n ex : ℕ) → Answered (GrantedEvent n ex) (W.thread_of n u.requests) (GrantedAnswer ex)
  granted n ex w st = record {
    started = st.started;
    ended = st.ended;
    stand = subst (λ c. Stand stance (setting_of u) (answered_group (W.thread_of n u.requests) (GrantedAnswer ex) g) c (W.changed_by (setting_of u) (GrantedEvent n ex) (W.uncounted w))) (granted_common u n ex)
        (granted_stand stance (setting_of u) g (anew (common_of u)) (W.uncounted w) n ex (uncounted_stand stance g u w st));
  }

  -- and what the threads come to then
  pub goes_on : (event : Event) (t : ℕ) (x : Answer) (t' : ℕ) → t ≡ t' → (y : Answer) → x ≡ y → (u' : Shared) → u' ≡ shared_after event u → Answered event t x → (p : Phase) (g2 : G.Threads T) (u2 : Shared) → ((w : W.Build) → StandsIn stance Running (answered_group t' y g) u' w → StandsIn stance p g2 u2 (W.settle (W.turn_bound W.run_limits) (setting_of u') w)) → GoesOn stance event g u p g2 u2
  goes_on event t x t' at y is u' same one p g2 u2 further =
      let Further : ℕ → Answer → Shared → Type 0 = λ m z v. (w : W.Build) → StandsIn stance Running (answered_group m z g) v w → StandsIn stance p g2 u2 (W.settle (W.turn_bound W.run_limits) (setting_of v) w) in
      let k : Further t x (shared_after event u) = subst (λ v. Further t x v) same (subst (λ z. Further t z u') (sym is) (subst (λ m. Further m y u') (sym at) further)) in
      λ w st. k (W.changed_by (setting_of u) event (W.uncounted w)) (one w st)

  -- output answers no thread
  pub rests_on : (event : Event) → ready_count g.seats ≤ 0 → (u' : Shared) → u' ≡ shared_after event u → ((w : W.Build) → StandsIn stance Running g u (recounted u.count w) → W.changed_by (setting_of u) event (W.uncounted w) ≡ record (W.uncounted w) { shared = common_of (shared_after event u) }) → GoesOn stance event g u Running g u'
  rests_on event few u' same one w st =
      let b : W.Build = record (W.uncounted w) { shared = common_of (shared_after event u) } in
      let k : StandsIn stance Running g (shared_after event u) b = record { started = st.started; ended = st.ended; stand = changed_stand stance (setting_of u) g (anew (common_of u)) (common_of (shared_after event u)) (W.uncounted w) (uncounted_stand stance g u w st) } in
      subst (λ v. StandsIn stance Running g v (W.settle (W.turn_bound W.run_limits) (setting_of u) (W.changed_by (setting_of u) event (W.uncounted w)))) (sym same)
      (subst (λ c. StandsIn stance Running g (shared_after event u) (W.settle (W.turn_bound W.run_limits) (setting_of u) c)) (sym (one w st))
      (subst (λ c. StandsIn stance Running g (shared_after event u) c) (sym (waits_on stance (W.turn_bound W.run_limits) Running g (shared_after event u) b (setting_of u) k few)) k))

  -- output beyond a limit ends the build
  pub is_limited : (event : Event) (k : LimitKind) (u0 : Shared) → common_of u0 ≡ anew (common_of u) →
      ((w : W.Build) → StandsIn stance Running g u (recounted u.count w) → W.changed_by (setting_of u) event (W.uncounted w) ≡ over (W.uncounted w) g.next (W.finished (heads stance g.seats) (limit_line k ∷ []) (worse (anew (common_of u)).result Failure) (anew (common_of u)))) →
      (p : Phase) (g2 : G.Threads T) (u2 : Shared) → IsOver p g u0 (W.finished (heads stance g.seats) (limit_line k ∷ []) (worse (common_of u0).result Failure) (common_of u0)) g2 u2 → GoesOn stance event g u p g2 u2
  is_limited event k u0 same one p g2 u2 o w st =
      let d : Common = W.finished (heads stance g.seats) (limit_line k ∷ []) (worse (common_of u0).result Failure) (common_of u0) in
      let q : StandsIn stance p g2 u2 (over (W.uncounted w) g.next d) = over_stands stance p g u0 d g2 u2 (W.uncounted w) o st.started in
      let is : over (W.uncounted w) g.next d ≡ W.changed_by (setting_of u) event (W.uncounted w) = ap (λ (v : Common). over (W.uncounted w) g.next (W.finished (heads stance g.seats) (limit_line k ∷ []) (worse v.result Failure) v)) same ∙ sym (one w st) in
      subst (λ c. StandsIn stance p g2 u2 (W.settle (W.turn_bound W.run_limits) (setting_of u) c)) is
      (subst (λ c. StandsIn stance p g2 u2 c) (sym (stays_over stance (W.turn_bound W.run_limits) p g2 u2 (over (W.uncounted w) g.next d) (setting_of u) q (ap (λ (z : G.Threads T). z.seats) o.threads))) q)

-- what holds where a call has answered Ok
pub map_ok : {A E : Type 0} {P Q : A → Type 0} (r : Result A E) → IfOk r P → ((x : A) → P x → Q x) → IfOk r Q
map_ok (Ok x) p f = f x p
map_ok (Err e) p f = tt
