-- In every world threads and open requests agree.
use Rattle.std.proofs.Common.{arith, ◌≡◌, ◌<◌, ◌+◌, ◌∙◌, ap, sym, subst, refl, inl, ℕ, zero, suc, Bool, true, false, fold, List, [], ◌∷◌, ◌++◌, map, length, Option, Some, None}
use Rattle.std.specs.Prelude.{nat_eq, nat_lt, if◌then◌else◌}
use Rattle.std.specs.List.{AllByRecursion as AllAre}
use Rattle.model_values.specs.declared.limit.LimitKind.{LimitKind}
use Rattle.model_values.specs.declared.limit.LimitKind.TheVariants.{TextLength, LogSize, GreenThreads}
use Rattle.model_run.specs.declared.wait.Answer.{Answer}
use Rattle.model_run.specs.declared.wait.Answer.TheVariants.{Granted as GrantedAnswer, Done, Decided as DecidedAnswer}
use Rattle.model_run.specs.declared.wait.Wait.{Wait}
use Rattle.model_values.specs.declared.value.Outcome.{Outcome}
use Rattle.model_run.specs.declared.wait.Wait.TheVariants.{Ready, Request as RequestWait, Branches as BranchesWait}
use Rattle.model_run.specs.declared.event.Event.{Event}
use Rattle.model_run.specs.declared.event.Event.TheVariants.{Start as StartEvent, Granted as GrantedEvent, Output as OutputEvent, Exited as ExitedEvent, Lost as LostEvent, Decided as DecidedEvent}
use Rattle.model_run.specs.declared.event.Stream.{Stream}
use Rattle.model_run.specs.declared.event.Stream.TheVariants.{Log as LogStream, Out as OutStream}
use Rattle.model_run.specs.declared.taken.Taken.{Taken}
use Rattle.model_run.specs.declared.taken.Taken.TheVariants.{Accepted, NotOpen, WrongPlace, Finished}
use Rattle.model_run.specs.declared.site.Executor.{Executor}
use Rattle.model_run.specs.declared.request.Request.{Request}
use Rattle.model_run.specs.declared.request.Request.TheVariants.{Node as NodeRequest, Task as TaskRequest, Input as InputRequest}
use Rattle.model_run.specs.declared.request.OpenRequest.{OpenRequest}
use Rattle.model_run.specs.State.{RunLimits, Setting, Common, Own, State, Result, Ended, Waits, Limited, Unfinished}
use Rattle.model_run.specs.declared.ending.Ending.{Ending}
use Rattle.model_run.specs.declared.ending.Ending.TheVariants.{Normal, Thrown, Returned, Broke, Continued, Declared, Answered}
use Rattle.model_run.specs.declared.ending.Asked.TheVariants.{ForRequest as For_request, ForBranches as For_branches}
use Rattle.model_run.specs.declared.ending.Branch.{Branch}
use Rattle.model_run.specs.Below.{IsFinished, Small}
use Rattle.model_run.specs.Fitting.{Some_of}
use Rattle.model_run.specs.Grants.{executor_of}
use Rattle.model_run.specs.LogText.{raw}
use Rattle.model_run.specs.Opened.{calls_of, Owns, OwnIs}
use Rattle.model_run.specs.Requests.{IsOpenRequest}
use Rattle.model_run.specs.Taking.{request_of, granted, accepted_if, is_task, is_input}
use Rattle.model_run.specs.Threads.{Thread, stands}
use Rattle.model_run.specs.Waiting.{Stood}
use Rattle.model_run.specs.World.{Build, with_head, change_if, join_end, joined_wait, all_ended, ends_before, unbegun, standing, script_ended, limit_met, waits_as, with_thread, without_thread, joins, join_wait, joins_of, branch_threads, outcome_of, forked, forks, thread_ended, stopped_at, asked_by, stopped, given_answer, resumed, Turn, first_ready, take_turn, settle, turn_bound, uncounted, changed_by, answer_request, held_as, thread_of, kept_output, lost_code, with_taken, with_kept, change_request, output, after_event, after_one, answer_to, world_in}
use Rattle.model_run.proofs.LaterWorlds.{accepted_answer, if_accepted, accepted_grant, open_of}
use Rattle.model_run.proofs.RequestLaws.{some_weaker, some_all, rise_below}
use Rattle.model_values.proofs.LaterLaws.{all_weaker}
use Rattle.model_values.proofs.CellGrowth.{all_append}
use Rattle.model_run.specs.declared.frame.FrameKind.{FrameKind}
use Rattle.model_run.specs.declared.frame.FrameKind.TheVariants as kind
use Rattle.model_run.specs.declared.frame.Frame.{Frame}
use Rattle.model_run.specs.declared.wait.BranchEnd.{BranchEnd}
use Rattle.model_run.specs.declared.wait.Join.{Join}
use Rattle.model_run.proofs.WaitingLaws.{with_all, given_stood, changed_stood, event_stood}
use Rattle.world_laws.specs.Agreement.{Place, place_of, places, HasPlace, IsThere, PlacesAgree, WaitAgrees, FrameAsks, LastAsks, KindAgrees, ThreadKind, ThreadsAgree, OpensNone, OpensOne, Opens, TurnsOpen}
use Rattle.world_laws.proofs.Places.{some_front, all_others, only_place, others, waiting, there_waiting, answer_agrees, change_agrees, ask_agrees, places_append, fork_agrees, there_ended, not_main, end_agrees}
use Rattle.world_laws.proofs.Turns.{places_head, places_waiting, places_without, places_given, IsTurn, IfTurn, first_is, turn_owns, turn_finishes}

agree_as : (rs qs : List OpenRequest) (n m next : ℕ) (ps us : List Place) → qs ≡ rs → m ≡ n → us ≡ ps → PlacesAgree rs n next ps → PlacesAgree qs m next us
agree_as rs qs n m next ps us r e u h = subst (λ xs. PlacesAgree xs m next us) (sym r) (subst (λ k. PlacesAgree rs k next us) (sym e) (subst (PlacesAgree rs n next) (sym u) h))

-- Kinds of requests, through each change of a build.
last_taken : (n : ℕ) (path : List Frame) (r : Request) → LastAsks path r → LastAsks path (with_taken n r)
last_taken n [] r h = absurd h
last_taken n (f ∷ []) r h = one f.kind r h
  where
    one : (k : FrameKind) (q : Request) → FrameAsks k q → FrameAsks k (with_taken n q)
    one k (NodeRequest label) h = h
    one k (InputRequest id) h = h
    one kind.ShWait (TaskRequest x w f e c st kp t o) h = tt
    one k (TaskRequest x w f e c st kp t o) h = absurd h
last_taken n (f ∷ g ∷ fs) r h = last_taken n (g ∷ fs) r h

last_kept : (bytes : List ℕ) (path : List Frame) (r : Request) → LastAsks path r → LastAsks path (with_kept bytes r)
last_kept bytes [] r h = absurd h
last_kept bytes (f ∷ []) r h = one f.kind r h
  where
    one : (k : FrameKind) (q : Request) → FrameAsks k q → FrameAsks k (with_kept bytes q)
    one k (NodeRequest label) h = h
    one k (InputRequest id) h = h
    one kind.ShWait (TaskRequest x w f e c st kp t o) h = tt
    one k (TaskRequest x w f e c st kp t o) h = absurd h
last_kept bytes (f ∷ g ∷ fs) r h = last_kept bytes (g ∷ fs) r h

-- other requests
kind_on : (rs qs : List OpenRequest) (w : Wait) → ((r : ℕ) (path : List Frame) → w ≡ RequestWait r → AllAre (λ q. q.number ≡ r → LastAsks path q.request) rs → AllAre (λ q. q.number ≡ r → LastAsks path q.request) qs) → (x : Result) → KindAgrees rs w x → KindAgrees qs w x
kind_on rs qs (RequestWait r) on (Waits asked path s) h = on r path refl h
kind_on rs qs (RequestWait r) on (Ended e s) h = tt
kind_on rs qs (RequestWait r) on (Limited k s) h = tt
kind_on rs qs (RequestWait r) on Unfinished h = tt
kind_on rs qs (Ready x) on y h = tt
kind_on rs qs (BranchesWait js) on y h = tt

kind_changed : (g : Request → Request) → ((path : List Frame) (r : Request) → LastAsks path r → LastAsks path (g r)) → (n r : ℕ) (path : List Frame) (rs : List OpenRequest) → AllAre (λ q. q.number ≡ r → LastAsks path q.request) rs → AllAre (λ q. q.number ≡ r → LastAsks path q.request) (map (change_if g n) rs)
kind_changed g keeps n r path [] h = tt
kind_changed g keeps n r path (q ∷ rs) h = (one (nat_eq q.number n), kind_changed g keeps n r path rs h.1)
  where
    one : (b : Bool) → (if b then record q { request = g q.request } else q).number ≡ r → LastAsks path (if b then record q { request = g q.request } else q).request
    one true at = keeps path q.request (h.0 at)
    one false at = h.0 at

kind_joined : (rs : List OpenRequest) (n head : ℕ) (o : Outcome) (w : Wait) (x : Result) → KindAgrees rs w x → KindAgrees rs (join_wait n head o w) x
kind_joined rs n head o (Ready y) x h = tt
kind_joined rs n head o (RequestWait r) x h = h
kind_joined rs n head o (BranchesWait js) x h = one (map (join_end n (record { node = head; outcome = o; place = ends_before js })) js) (all_ended (map (join_end n (record { node = head; outcome = o; place = ends_before js })) js))
  where
    one : (is : List Join) (a : Option (List BranchEnd)) → KindAgrees rs (joined_wait is a) x
    one is None = tt
    one is (Some ends) = tt

-- what holds of places holds of their threads
of_threads : (P : Place → Type 0) (ts : List Thread) → AllAre P (places ts) → AllAre (λ t. P (place_of t)) ts
of_threads P [] h = tt
of_threads P (t ∷ ts) h = (h.0, of_threads P ts h.1)

both_all : (P Q R : Thread → Type 0) → ((t : Thread) → P t → Q t → R t) → (ts : List Thread) → AllAre P ts → AllAre Q ts → AllAre R ts
both_all P Q R on [] h k = tt
both_all P Q R on (t ∷ ts) h k = (on t h.0 k.0, both_all P Q R on ts h.1 k.1)

-- a build that has ended has no threads and no requests
ended_agrees : (setting : Setting) (b : Build) → b.threads ≡ [] → b.shared.requests ≡ [] → b.ended ≡ true → ThreadsAgree setting b
ended_agrees setting b none closed over = record {
  agree = agree_as [] b.shared.requests b.shared.next_request b.shared.next_request b.next_thread [] (places b.threads) closed refl (ap places none) (record { numbers = tt; requests = tt; parents = tt; waits = tt; awaited = tt });
  kinds = subst (AllAre (ThreadKind setting b.shared.requests)) (sym none) tt;
  main = λ started going. (let bad : true ≡ false = sym over ∙ going in absurd (cc));
}

limit_agrees : (setting : Setting) (k : LimitKind) (u : Common) (b : Build) → ThreadsAgree setting (limit_met k u b)
limit_agrees setting k u b = ended_agrees setting (limit_met k u b) refl refl refl

script_agrees : (setting : Setting) (e : Ending) (head : ℕ) (u : Common) (b : Build) → ThreadsAgree setting (script_ended e head u b)
script_agrees setting (Normal v) head u b = ended_agrees setting (script_ended (Normal v) head u b) refl refl refl
script_agrees setting (Thrown c) head u b = ended_agrees setting (script_ended (Thrown c) head u b) refl refl refl
script_agrees setting (Returned v) head u b = ended_agrees setting (script_ended (Returned v) head u b) refl refl refl
script_agrees setting Broke head u b = ended_agrees setting (script_ended Broke head u b) refl refl refl
script_agrees setting Continued head u b = ended_agrees setting (script_ended Continued head u b) refl refl refl
script_agrees setting (Declared x) head u b = ended_agrees setting (script_ended (Declared x) head u b) refl refl refl
script_agrees setting (Answered x) head u b = ended_agrees setting (script_ended (Answered x) head u b) refl refl refl

-- Thread n, which went on with an answer, has stopped.
module _ (g : Setting) (n : ℕ) (x : Answer) (b : Build) (is : HasPlace (λ p. p.wait ≡ Ready x) n (places b.threads)) (h : ThreadsAgree g b) where
  heads_kind : (s : State) → OpensNone b.shared s.world.shared → AllAre (ThreadKind g s.world.shared.requests) (stopped_at s.world b).threads
  heads_kind s none = with_all (ThreadKind g b.shared.requests) (ThreadKind g s.world.shared.requests) (with_head s.world.own.head) s.world.own.number (λ t at k. subst (λ qs. KindAgrees qs t.wait (stands g t)) (sym none.requests) k) (λ t never k. subst (λ qs. KindAgrees qs t.wait (stands g t)) (sym none.requests) k) b.threads h.kinds

  end_stops : (parent : Option ℕ) → HasPlace (λ p. p.parent ≡ parent) n (places b.threads) → (e : Ending) (s : State) → OpensNone b.shared s.world.shared → ThreadsAgree g (thread_ended parent n e s.world.own.head s.world.shared (stopped_at s.world b))
  end_stops None under e s none = script_agrees g e s.world.own.head s.world.shared (stopped_at s.world b)
  end_stops (Some m) under e s none =
      let same : places (thread_ended (Some m) n e s.world.own.head s.world.shared (stopped_at s.world b)).threads ≡ map (waiting (join_wait n s.world.own.head (outcome_of e)) m) (others (λ p. p.number) n (places b.threads)) =
      places_waiting (joins n s.world.own.head (outcome_of e)) (join_wait n s.world.own.head (outcome_of e)) (λ t. refl) m (without_thread n (stopped_at s.world b).threads)
      ∙ ap (map (waiting (join_wait n s.world.own.head (outcome_of e)) m)) (places_without n (stopped_at s.world b).threads ∙ ap (others (λ p. p.number) n) (places_head s.world.own.head s.world.own.number b.threads)) in
      record {
        agree = agree_as b.shared.requests s.world.shared.requests b.shared.next_request s.world.shared.next_request b.next_thread _ _ none.requests none.next same
            (end_agrees n m x b.shared.requests b.shared.next_request b.next_thread (places b.threads) is under h.agree s.world.own.head (outcome_of e));
        kinds = with_all (ThreadKind g s.world.shared.requests) (ThreadKind g s.world.shared.requests) (joins n s.world.own.head (outcome_of e)) m (λ t at k. kind_joined s.world.shared.requests n s.world.own.head (outcome_of e) t.wait (stands g t) k) (λ t never k. k) (without_thread n (stopped_at s.world b).threads)
            (all_others (λ (t : Thread). t.own.number) (ThreadKind g s.world.shared.requests) (ThreadKind g s.world.shared.requests) n (λ t other k. k) (stopped_at s.world b).threads (heads_kind s none));
        main = λ started going. subst (IsThere 0) (sym same)
            (there_ended n m x b.shared.requests b.shared.next_request b.next_thread (places b.threads) is under h.agree s.world.own.head (outcome_of e) 0 (not_main n m x b.shared.requests b.shared.next_request b.next_thread (places b.threads) is under h.agree s.world.own.head (outcome_of e)) (h.main started going));
      }

  record WaitKind (t : Thread) : Type 0 where
    waits : WaitAgrees b.shared.requests (places b.threads) t.own.number t.wait
    kind : ThreadKind g b.shared.requests t

  -- thread n waits for the new request, and any other for one that was open before
  record Known (r : ℕ) (path : List Frame) (s : State) (t : Thread) : Type 0 where
    stops : t.own.number ≡ n → stands g t ≡ Waits (For_request r) path s
    waits : WaitAgrees b.shared.requests (places b.threads) t.own.number t.wait
    kind : ThreadKind g b.shared.requests t

  module _ (r : ℕ) (path : List Frame) (s : State) (at : s.world.own.number ≡ n) (one : OpensOne b.shared n r (LastAsks path) s.world.shared) (its : AllAre (λ t. t.own.number ≡ n → stands g t ≡ Waits (For_request r) path s) b.threads) where
    abbrev asked : List OpenRequest
    asked = b.shared.requests ++ (record { number = r; thread = n; request = one.request }) ∷ []

    all_known : AllAre (Known r path s) b.threads
    all_known = both_all (λ t. t.own.number ≡ n → stands g t ≡ Waits (For_request r) path s) (λ t. WaitKind t) (Known r path s) (λ t stops k. record { stops = stops; waits = k.waits; kind = k.kind }) b.threads its
        (both_all (λ t. WaitAgrees b.shared.requests (places b.threads) t.own.number t.wait) (ThreadKind g b.shared.requests) WaitKind (λ t w k. record { waits = w; kind = k }) b.threads (of_threads (λ p. WaitAgrees b.shared.requests (places b.threads) p.number p.wait) b.threads (h.agree).waits) h.kinds)

    kind_new : (t : Thread) → t.own.number ≡ s.world.own.number → Known r path s t → ThreadKind g asked (waits_as (RequestWait r) t)
    kind_new t same k = subst (KindAgrees asked (RequestWait r)) (sym (k.stops (same ∙ at)))
        (all_append (λ q. q.number ≡ r → LastAsks path q.request) b.shared.requests ((record { number = r; thread = n; request = one.request }) ∷ [])
        (all_weaker _ _ (λ q lt e. absurd (omega (arith, lt, e, one.number))) b.shared.requests (rise_below 0 b.shared.next_request b.shared.requests (h.agree).requests)) ((λ e. one.kind), tt))

    below_next : (k m : ℕ) (w : Wait) → w ≡ RequestWait k → WaitAgrees b.shared.requests (places b.threads) m w → k < b.shared.next_request
    below_next k m w e q = some_all (λ x. x.number < b.shared.next_request) (λ x. (x.number ≡ k) × (x.thread ≡ m)) (k < b.shared.next_request) (λ x lt so. omega (arith, lt, so.0)) b.shared.requests (rise_below 0 b.shared.next_request b.shared.requests (h.agree).requests) (subst (WaitAgrees b.shared.requests (places b.threads) m) e q)

    kind_old : (t : Thread) → Known r path s t → ThreadKind g asked t
    kind_old t k = kind_on b.shared.requests asked t.wait
        (λ r' path' e all. all_append (λ q. q.number ≡ r' → LastAsks path' q.request) b.shared.requests ((record { number = r; thread = n; request = one.request }) ∷ []) all
        ((λ same. (let lt : r' < b.shared.next_request = below_next r' t.own.number t.wait e k.waits in absurd (omega (arith, lt, same, one.number)))), tt)) (stands g t) k.kind

    kinds_asked : AllAre (ThreadKind g asked) (with_thread (waits_as (RequestWait r)) s.world.own.number (stopped_at s.world b).threads)
    kinds_asked = with_all (Known r path s) (ThreadKind g asked) (waits_as (RequestWait r)) s.world.own.number kind_new (λ t never k. kind_old t k) (stopped_at s.world b).threads
        (with_all (Known r path s) (Known r path s) (with_head s.world.own.head) s.world.own.number (λ t same k. record { stops = k.stops; waits = k.waits; kind = k.kind }) (λ t never k. k) b.threads all_known)

  ask_stops : (limits : RunLimits) (r : ℕ) (path : List Frame) (s : State) → s.world.own.number ≡ n → OpensOne b.shared n r (LastAsks path) s.world.shared → AllAre (λ t. t.own.number ≡ n → stands g t ≡ Waits (For_request r) path s) b.threads → ThreadsAgree g (asked_by limits s.world (For_request r) (stopped_at s.world b))
  ask_stops limits r path s at one its =
      let same : places (asked_by limits s.world (For_request r) (stopped_at s.world b)).threads ≡ map (waiting (λ w. RequestWait r) n) (places b.threads) =
      places_waiting (waits_as (RequestWait r)) (λ w. RequestWait r) (λ t. refl) s.world.own.number (stopped_at s.world b).threads
      ∙ ap (map (waiting (λ w. RequestWait r) s.world.own.number)) (places_head s.world.own.head s.world.own.number b.threads)
      ∙ ap (λ k. map (waiting (λ w. RequestWait r) k) (places b.threads)) at in
      record {
        agree = agree_as _ s.world.shared.requests (b.shared.next_request + 1) s.world.shared.next_request b.next_thread _ _ one.requests one.next same
            (subst (λ k. PlacesAgree (b.shared.requests ++ (record { number = k; thread = n; request = one.request }) ∷ []) (b.shared.next_request + 1) b.next_thread (map (waiting (λ w. RequestWait k) n) (places b.threads))) (sym one.number)
            (ask_agrees n x b.shared.requests b.shared.next_request b.next_thread (places b.threads) is h.agree one.request));
        kinds = subst (λ qs. AllAre (ThreadKind g qs) (asked_by limits s.world (For_request r) (stopped_at s.world b)).threads) (sym one.requests) (kinds_asked r path s at one its);
        main = λ started going. subst (IsThere 0) (sym same) (there_waiting (λ w. RequestWait r) n 0 (places b.threads) (h.main started going));
      }

  new_kinds : (rs : List OpenRequest) (parent : ℕ) (own : Own) (k : ℕ) (bs : List Branch) → AllAre (ThreadKind g rs) (branch_threads parent own k bs)
  new_kinds rs parent own k [] = tt
  new_kinds rs parent own k (x ∷ bs) = (tt, new_kinds rs parent own (suc k) bs)

  fork_stops : (bs : List Branch) (s : State) → s.world.own.number ≡ n → OpensNone b.shared s.world.shared → (bs ≡ [] → ⊥) → ThreadsAgree g (forked s.world.own.number s.world.own bs (stopped_at s.world b))
  fork_stops bs s at none some =
      let same : places (forked s.world.own.number s.world.own bs (stopped_at s.world b)).threads ≡ map (waiting (λ w. BranchesWait (joins_of b.next_thread bs)) s.world.own.number) (places b.threads) ++ places (branch_threads s.world.own.number s.world.own b.next_thread bs) =
      places_append (with_thread (waits_as (BranchesWait (joins_of b.next_thread bs))) s.world.own.number (stopped_at s.world b).threads) (branch_threads s.world.own.number s.world.own b.next_thread bs)
      ∙ ap (λ ps. ps ++ places (branch_threads s.world.own.number s.world.own b.next_thread bs)) (places_waiting (waits_as (BranchesWait (joins_of b.next_thread bs))) (λ w. BranchesWait (joins_of b.next_thread bs)) (λ t. refl) s.world.own.number (stopped_at s.world b).threads
      ∙ ap (map (waiting (λ w. BranchesWait (joins_of b.next_thread bs)) s.world.own.number)) (places_head s.world.own.head s.world.own.number b.threads)) in
      let here : HasPlace (λ p. p.wait ≡ Ready x) s.world.own.number (places b.threads) = subst (λ k. HasPlace (λ p. p.wait ≡ Ready x) k (places b.threads)) (sym at) is in
      record {
        agree = agree_as b.shared.requests s.world.shared.requests b.shared.next_request s.world.shared.next_request (b.next_thread + length bs) _ _ none.requests none.next same
            (fork_agrees s.world.own.number x b.shared.requests b.shared.next_request b.next_thread (places b.threads) here h.agree s.world.own bs some);
        kinds = all_append (ThreadKind g s.world.shared.requests) (with_thread (waits_as (BranchesWait (joins_of b.next_thread bs))) s.world.own.number (stopped_at s.world b).threads) (branch_threads s.world.own.number s.world.own b.next_thread bs)
            (with_all (ThreadKind g s.world.shared.requests) (ThreadKind g s.world.shared.requests) (waits_as (BranchesWait (joins_of b.next_thread bs))) s.world.own.number (λ t same k. tt) (λ t never k. k) (stopped_at s.world b).threads (heads_kind s none))
            (new_kinds s.world.shared.requests s.world.own.number s.world.own b.next_thread bs);
        main = λ started going. subst (IsThere 0) (sym same) (some_front _ _ _ (there_waiting (λ w. BranchesWait (joins_of b.next_thread bs)) s.world.own.number 0 (places b.threads) (h.main started going)));
      }

  forks_stop : (limits : RunLimits) (bs : List Branch) (s : State) → s.world.own.number ≡ n → OpensNone b.shared s.world.shared → (bs ≡ [] → ⊥) → ThreadsAgree g (forks limits s.world.own.number s.world.own bs (stopped_at s.world b))
  forks_stop limits bs s at none some = one (nat_lt limits.threads (length (stopped_at s.world b).threads + length bs))
    where
      one : (past : Bool) → ThreadsAgree g (if past then limit_met GreenThreads (stopped_at s.world b).shared (stopped_at s.world b) else forked s.world.own.number s.world.own bs (stopped_at s.world b))
      one true = limit_agrees g GreenThreads (stopped_at s.world b).shared (stopped_at s.world b)
      one false = fork_stops bs s at none some

  stops_agree : (calls : ℕ) (parent : Option ℕ) → HasPlace (λ p. p.parent ≡ parent) n (places b.threads) → (r : Result) → IsFinished r → Owns g n calls r → Opens b.shared n r → AllAre (λ t. t.own.number ≡ n → stands g t ≡ r) b.threads → ThreadsAgree g (stopped g.limits parent n r b)
  stops_agree calls parent under (Ended e s) fin owns opens its = end_stops parent under e s opens
  stops_agree calls parent under (Waits (For_request r) path s) fin owns opens its = ask_stops g.limits r path s (let o : OwnIs g n (calls + calls_of path) s = owns in o.number) opens its
  stops_agree calls parent under (Waits (For_branches bs) path s) fin owns opens its = forks_stop g.limits bs s (let o : OwnIs g n (calls + calls_of path) s = owns in o.number) opens.0 opens.1
  stops_agree calls parent under (Limited k s) fin owns opens its = limit_agrees g k s.world.shared (stopped_at s.world b)
  stops_agree calls parent under Unfinished fin owns opens its = absurd fin

-- A request is answered.
answered_agrees : (setting : Setting) (n : ℕ) (x : Answer) (b : Build) → IsOpenRequest n b.shared → ThreadsAgree setting b → ThreadsAgree setting (answer_request n x b)
answered_agrees setting n x b were h =
    let same : places (answer_request n x b).threads ≡ map (waiting (λ w. Ready x) (thread_of n b.shared.requests)) (places b.threads) = places_waiting (waits_as (Ready x)) (λ w. Ready x) (λ t. refl) (thread_of n b.shared.requests) b.threads in
    record {
      agree = subst (PlacesAgree _ b.shared.next_request b.next_thread) (sym same) (answer_agrees n x b.shared.requests b.shared.next_request b.next_thread (places b.threads) were h.agree);
      kinds = with_all (ThreadKind setting b.shared.requests) (ThreadKind setting (others (λ q. q.number) n b.shared.requests)) (waits_as (Ready x)) (thread_of n b.shared.requests) (λ t at k. tt)
          (λ t never k. kind_on b.shared.requests (others (λ q. q.number) n b.shared.requests) t.wait (λ r path e all. all_others (λ q. q.number) (λ q. q.number ≡ r → LastAsks path q.request) (λ q. q.number ≡ r → LastAsks path q.request) n (λ q other k. k) b.shared.requests all) (stands setting t) k) b.threads h.kinds;
      main = λ started going. subst (IsThere 0) (sym same) (there_waiting (λ w. Ready x) (thread_of n b.shared.requests) 0 (places b.threads) (h.main started going));
    }

changed_request : (setting : Setting) (g : Request → Request) → ((path : List Frame) (r : Request) → LastAsks path r → LastAsks path (g r)) → (n : ℕ) (u : Common) (b : Build) → u.requests ≡ b.shared.requests → u.next_request ≡ b.shared.next_request → ThreadsAgree setting b → ThreadsAgree setting (record b { shared = change_request g n u })
changed_request setting g keeps n u b same next h = record {
  agree = change_agrees g n u.requests u.next_request b.next_thread (places b.threads) (agree_as b.shared.requests u.requests b.shared.next_request u.next_request b.next_thread (places b.threads) (places b.threads) same next refl h.agree);
  kinds = threads_weaker (λ t k. kind_on u.requests (map (change_if g n) u.requests) t.wait (λ r path e all. kind_changed g keeps n r path u.requests all) (stands setting t) (subst (λ qs. KindAgrees qs t.wait (stands setting t)) (sym same) k)) b.threads h.kinds;
  main = h.main;
}
  where
    threads_weaker : ((t : Thread) → ThreadKind setting b.shared.requests t → ThreadKind setting (map (change_if g n) u.requests) t) → (ts : List Thread) → AllAre (ThreadKind setting b.shared.requests) ts → AllAre (ThreadKind setting (map (change_if g n) u.requests)) ts
    threads_weaker on ts all = all_weaker _ _ on ts all

module _ (setting : Setting) where
  output_agrees : (task : ℕ) (stream : Stream) (bytes : List ℕ) (b : Build) → ThreadsAgree setting b → ThreadsAgree setting (output setting.limits task stream bytes b)
  output_agrees task LogStream bytes b h = one (nat_lt setting.limits.log (length b.shared.log + length bytes))
    where
      one : (past : Bool) → ThreadsAgree setting (if past then limit_met LogSize b.shared b else record b { shared = change_request (with_taken (length bytes)) task (record b.shared { log = raw bytes b.shared.log }) })
      one true = limit_agrees setting LogSize b.shared b
      one false = changed_request setting (with_taken (length bytes)) (last_taken (length bytes)) task (record b.shared { log = raw bytes b.shared.log }) b refl refl h
  output_agrees task OutStream bytes b h = one (nat_lt setting.limits.values.text (length (kept_output (request_of b.shared.requests task)) + length bytes))
    where
      one : (past : Bool) → ThreadsAgree setting (if past then limit_met TextLength b.shared b else record b { shared = change_request (with_kept bytes) task b.shared })
      one true = limit_agrees setting TextLength b.shared b
      one false = changed_request setting (with_kept bytes) (last_kept bytes) task b.shared b refl refl h

  grant_agrees : (request executor : ℕ) (o : Option Executor) (b : Build) → IsOpenRequest request b.shared → ThreadsAgree setting b → ThreadsAgree setting (answer_request request (GrantedAnswer executor) (record b { shared = held_as setting.site request executor o b.shared }))
  grant_agrees request executor None b were h = answered_agrees setting request (GrantedAnswer executor) b were h
  grant_agrees request executor (Some x) b were h = answered_agrees setting request (GrantedAnswer executor) (record b { shared = held_as setting.site request executor (Some x) b.shared }) were (record { agree = h.agree; kinds = h.kinds; main = h.main })

  -- what an accepted event answers is open
  open_if : (n : ℕ) (rs : List OpenRequest) (test : Option Request → Bool) → test None ≡ false → (o : Option Request) → request_of rs n ≡ o → test o ≡ true → Some_of (λ r. r.number ≡ n) rs
  open_if n rs test fails None found t = (let bad : false ≡ true = sym fails ∙ t in absurd (cc))
  open_if n rs test fails (Some q) found t = open_of n rs q found

  answer_is : (b : Build) (a : Taken) → (if b.ended then Finished else if b.started then a else NotOpen) ≡ Accepted → a ≡ Accepted
  answer_is b a e = accepted_answer b.ended b.started a NotOpen (λ none. absurd (cc)) e

  task_open : (b : Build) (task : ℕ) → (if b.ended then Finished else if b.started then accepted_if (is_task (request_of b.shared.requests task)) else NotOpen) ≡ Accepted → IsOpenRequest task b.shared
  task_open b task e = open_if task b.shared.requests is_task refl (request_of b.shared.requests task) refl (if_accepted _ (answer_is b (accepted_if (is_task (request_of b.shared.requests task))) e))

  pub changed_agrees : (x : Event) (b : Build) → answer_to setting b x ≡ Accepted → ThreadsAgree setting b → ThreadsAgree setting (changed_by setting x b)
  changed_agrees (StartEvent script agents) b e h = record { agree = record { numbers = (omega arith, omega arith, tt); requests = tt; parents = (refl, tt); waits = (tt, tt); awaited = tt }; kinds = (tt, tt); main = λ started going. inl (refl, tt) }
  changed_agrees (GrantedEvent request executor) b e h =
      let w = accepted_grant (standing setting b) executor (request_of b.shared.requests request) (answer_is b (granted (standing setting b) executor (request_of b.shared.requests request)) e) in
      grant_agrees request executor (executor_of setting.site executor) b (open_of request b.shared.requests (NodeRequest w.0) w.1) h
  changed_agrees (OutputEvent task stream from bytes) b e h = output_agrees task stream bytes b h
  changed_agrees (ExitedEvent task code) b e h = answered_agrees setting task (Done code (kept_output (request_of b.shared.requests task))) b (task_open b task e) h
  changed_agrees (LostEvent task why) b e h = answered_agrees setting task (Done (lost_code why) (kept_output (request_of b.shared.requests task))) b (task_open b task e) h
  changed_agrees (DecidedEvent request proceed name) b e h =
      answered_agrees setting request (DecidedAnswer proceed name) b (open_if request b.shared.requests is_input refl (request_of b.shared.requests request) refl (if_accepted _ (answer_is b (accepted_if (is_input (request_of b.shared.requests request))) e))) h

  module _ (small : Small setting) (opens : TurnsOpen setting) where
    -- a thread that is given an answer waits for no request
    given_kinds : (b : Build) (turn : Turn) → IsTurn setting (places b.threads) turn → ThreadsAgree setting b → AllAre (ThreadKind setting b.shared.requests) (with_thread (λ old. given_answer b.shared turn.answer turn.thread) turn.thread.own.number b.threads)
    given_kinds b turn is h = with_all (ThreadKind setting b.shared.requests) (ThreadKind setting b.shared.requests) (λ old. given_answer b.shared turn.answer turn.thread) turn.thread.own.number
        (λ t at k. subst (λ w. KindAgrees b.shared.requests w (stands setting (given_answer b.shared turn.answer turn.thread))) (sym is.ready) tt) (λ t never k. k) b.threads h.kinds

    pub turn_agrees : (b : Build) (turn : Turn) → IsTurn setting (places b.threads) turn → ThreadsAgree setting b → ThreadsAgree setting (resumed setting (given_answer b.shared turn.answer turn.thread) b)
    turn_agrees b turn is h =
        let t : Thread = given_answer b.shared turn.answer turn.thread in
        let same : places (with_thread (λ old. given_answer b.shared turn.answer turn.thread) turn.thread.own.number b.threads) ≡ places b.threads =
        places_given (given_answer b.shared turn.answer turn.thread) turn.thread.own.number b.threads (only_place (λ p. p ≡ place_of turn.thread) turn.thread.own.number 0 b.next_thread (places b.threads) (h.agree).numbers is.there) in
        let here : HasPlace (λ p. p ≡ place_of turn.thread) turn.thread.own.number (places (with_thread (λ old. given_answer b.shared turn.answer turn.thread) turn.thread.own.number b.threads)) = subst (HasPlace (λ p. p ≡ place_of turn.thread) turn.thread.own.number) (sym same) is.there in
        stops_agree setting turn.thread.own.number turn.answer (record b { threads = with_thread (λ old. given_answer b.shared turn.answer turn.thread) turn.thread.own.number b.threads })
        (some_weaker _ _ (λ p at. (at.0, ap (λ (q : Place). q.wait) at.1 ∙ is.ready)) _ here)
        (record { agree = subst (PlacesAgree b.shared.requests b.shared.next_request b.next_thread) (sym same) h.agree; kinds = given_kinds b turn is h; main = λ started going. subst (IsThere 0) (sym same) (h.main started going) })
        turn.thread.own.calls turn.thread.parent (some_weaker _ _ (λ p at. (at.0, ap (λ (q : Place). q.parent) at.1)) _ here)
        (stands setting (given_answer b.shared turn.answer turn.thread)) (turn_finishes setting small turn.thread b.shared turn.answer) (turn_owns setting turn.thread b.shared turn.answer) (opens turn.thread is.stood b.shared turn.answer)
        (with_all (ThreadKind setting b.shared.requests) (λ t. t.own.number ≡ turn.thread.own.number → stands setting t ≡ stands setting (given_answer b.shared turn.answer turn.thread)) (λ old. given_answer b.shared turn.answer turn.thread) turn.thread.own.number (λ t at k same. refl) (λ t never k same. absurd (never same)) b.threads h.kinds)

    taken_agrees : (n : ℕ) → ((b : Build) → AllAre (Stood setting) b.threads → ThreadsAgree setting b → ThreadsAgree setting (settle n setting b)) → (b : Build) → AllAre (Stood setting) b.threads → (o : Option Turn) → IfTurn setting (places b.threads) o → ThreadsAgree setting b → ThreadsAgree setting (take_turn (settle n setting) setting b o)
    taken_agrees n more b all None is h = h
    taken_agrees n more b all (Some turn) is h =
        more (resumed setting (given_answer b.shared turn.answer turn.thread) b) (given_stood setting b.shared turn.answer turn.thread turn.thread.history refl (is.stood).calls b all) (turn_agrees b turn is h)

    settle_agrees : (n : ℕ) (b : Build) → AllAre (Stood setting) b.threads → ThreadsAgree setting b → ThreadsAgree setting (settle n setting b)
    unfolding settle
    settle_agrees zero b all h = h
    settle_agrees (suc n) b all h = taken_agrees n (settle_agrees n) b all (first_ready b.threads) (first_is setting b.threads all) h

    event_agrees : (b : Build) → AllAre (Stood setting) b.threads → ThreadsAgree setting b → (x : Event) (a : Taken) → answer_to setting b x ≡ a → ThreadsAgree setting (after_event setting b x a)
    event_agrees b all h x Accepted e = settle_agrees (turn_bound setting.limits) (changed_by setting x (uncounted b)) (changed_stood setting x (uncounted b) all) (changed_agrees x (uncounted b) e (record { agree = h.agree; kinds = h.kinds; main = h.main }))
    event_agrees b all h x NotOpen e = h
    event_agrees b all h x (WrongPlace kept) e = h
    event_agrees b all h x Finished e = h

    fold_agrees : (b : Build) → AllAre (Stood setting) b.threads → ThreadsAgree setting b → (es : List Event) → ThreadsAgree setting (fold (after_one setting) b es)
    fold_agrees b all h [] = h
    fold_agrees b all h (x ∷ es) = fold_agrees (after_one setting b x) (event_stood setting b x (answer_to setting b x) all) (event_agrees b all h x (answer_to setting b x) refl) es

    -- In every world threads and open requests agree: each but the main thread is a branch that its parent waits for, each branch that has
    -- not ended is a thread, and each open request is waited for by its thread and no other.
    pub world_agrees : (events : List Event) → ThreadsAgree setting (world_in setting events)
    world_agrees events = fold_agrees unbegun tt (record { agree = record { numbers = tt; requests = tt; parents = tt; waits = tt; awaited = tt }; kinds = tt; main = λ started going. absurd (cc) }) events
