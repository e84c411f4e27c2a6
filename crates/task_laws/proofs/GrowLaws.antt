-- While a task is open, what was taken of its log and what was kept of its output grow by just the outputs that are accepted.
use Rattle.std.proofs.Common.{arith, ◌≡◌, ◌≤◌, ◌+◌, ◌⊎◌, ap, sym, subst, refl, inl, inr, ℕ, zero, suc, Bool, true, false, List, [], ◌∷◌, ◌++◌, length, Option, Some, None, append_assoc, append-nil}
use Rattle.std.specs.Prelude.{nat_lt, if◌then◌else◌}
use Rattle.std.specs.List.{AllByRecursion as AllAre}
use Rattle.std.proofs.lemmas.List.Sums.{fold-append}
use Rattle.model_syntax.specs.Nodes.{Node}
use Rattle.model_values.specs.declared.limit.LimitKind.TheVariants.{GreenThreads, LogSize, TextLength}
use Rattle.model_run.specs.declared.event.Event.{Event}
use Rattle.model_run.specs.declared.event.Event.TheVariants.{Start as StartEvent, Granted as GrantedEvent, Output as OutputEvent, Exited as ExitedEvent, Lost as LostEvent, Decided as DecidedEvent}
use Rattle.model_run.specs.declared.event.Stream.{Stream}
use Rattle.model_run.specs.declared.event.Stream.TheVariants.{Log as LogStream, Out as OutStream}
use Rattle.model_run.specs.declared.taken.Taken.{Taken}
use Rattle.model_run.specs.declared.taken.Taken.TheVariants.{Accepted, NotOpen, Finished}
use Rattle.model_run.specs.declared.site.Executor.{Executor}
use Rattle.model_run.specs.Below.{Small}
use Rattle.model_run.specs.Grants.{executor_of}
use Rattle.model_run.specs.LogText.{raw}
use Rattle.model_run.specs.State.{RunLimits, Setting, Common, Own, Result, Ended, Waits, Limited, Unfinished}
use Rattle.model_run.specs.declared.ending.Ending.{Ending}
use Rattle.model_run.specs.declared.ending.Ending.TheVariants.{Normal, Thrown, Returned, Broke, Continued, Declared, Answered}
use Rattle.model_run.specs.declared.ending.Asked.TheVariants.{ForRequest as For_request, ForBranches as For_branches}
use Rattle.model_run.specs.declared.ending.Branch.{Branch}
use Rattle.model_run.specs.Taking.{request_of}
use Rattle.model_run.specs.Terms.{term}
use Rattle.model_run.specs.Threads.{Thread, stands}
use Rattle.model_run.specs.Waiting.{Stood}
use Rattle.model_run.specs.World.{Build, unbegun, script_ended, limit_met, forked, forks, stopped_at, stopped, given_answer, with_thread, resumed, Turn, first_ready, take_turn, settle, turn_bound, uncounted, changed_by, held_as, grant_to, kept_output, with_taken, with_kept, change_request, output, after_event, after_one, answer_to, world_in}
use Rattle.model_run.proofs.LaterWorlds.{world_continues}
use Rattle.model_run.proofs.WaitingLaws.{given_stood, changed_stood, world_stood}
use Rattle.world_laws.specs.Agreement.{Opens, OpensNone, TurnsOpen, places}
use Rattle.world_laws.proofs.Opening.{turns_open}
use Rattle.world_laws.proofs.Turns.{IfTurn, first_is}
use Rattle.launch_laws.specs.ManyTurns.{AllTaken}
use Rattle.task_laws.specs.Streams.{GrowsBy}
use Rattle.task_laws.proofs.Growing.{grows_itself, grows_then, grows_same, grows_closed, grows_new, grows_without, grows_changed, log_grows, out_grows}

-- numbers from this one on are still to be given, or the build has no threads
abbrev GoesOn : ℕ → Build → Type 0
GoesOn below b = (below ≤ b.shared.next_request) ⊎ (b.threads ≡ [])

-- what became of a build with this shared state, whose open requests stay as they are
abbrev Stays : ℕ → Common → Build → Type 0
Stays below u b = GrowsBy [] below u b.shared × GoesOn below b

module _ (below : ℕ) where
  limit_stays : (u : Common) (b : Build) (k : _) (v : Common) → Stays below u (limit_met k v b)
  limit_stays u b k v = (grows_closed below [] u (limit_met k v b).shared refl, inr refl)

  script_stays : (u : Common) (x : Ending) (head : ℕ) (v : Common) (b : Build) → Stays below u (script_ended x head v b)
  script_stays u (Normal y) head v b = (grows_closed below [] u (script_ended (Normal y) head v b).shared refl, inr refl)
  script_stays u (Thrown c) head v b = (grows_closed below [] u (script_ended (Thrown c) head v b).shared refl, inr refl)
  script_stays u (Returned y) head v b = (grows_closed below [] u (script_ended (Returned y) head v b).shared refl, inr refl)
  script_stays u Broke head v b = (grows_closed below [] u (script_ended Broke head v b).shared refl, inr refl)
  script_stays u Continued head v b = (grows_closed below [] u (script_ended Continued head v b).shared refl, inr refl)
  script_stays u (Declared y) head v b = (grows_closed below [] u (script_ended (Declared y) head v b).shared refl, inr refl)
  script_stays u (Answered y) head v b = (grows_closed below [] u (script_ended (Answered y) head v b).shared refl, inr refl)

  -- a thread that has stopped
  module _ (u : Common) (le : below ≤ u.next_request) where
    none_stays : (v : Common) → OpensNone u v → GrowsBy [] below u v × (below ≤ v.next_request)
    none_stays v none = (grows_same below u v none.requests, omega (arith, le, none.next))

    forks_stays : (limits : RunLimits) (n : ℕ) (own : Own) (bs : List Branch) (b : Build) → GrowsBy [] below u b.shared → below ≤ b.shared.next_request → Stays below u (forks limits n own bs b)
    forks_stays limits n own bs b grows up = one (nat_lt limits.threads (length b.threads + length bs))
      where
        one : (past : Bool) → Stays below u (if past then limit_met GreenThreads b.shared b else forked n own bs b)
        one true = limit_stays u b GreenThreads b.shared
        one false = (grows, inl up)

    stopped_stays : (limits : RunLimits) (parent : Option ℕ) (n m : ℕ) (r : Result) (b : Build) → b.shared ≡ u → Opens u m r → Stays below u (stopped limits parent n r b)
    stopped_stays limits None n m (Ended x s) b same opens = script_stays u x s.world.own.head s.world.shared (stopped_at s.world b)
    stopped_stays limits (Some parent) n m (Ended x s) b same opens = let none = none_stays s.world.shared opens in (none.0, inl none.1)
    stopped_stays limits parent n m (Waits (For_request k) path s) b same opens =
        let above : below ≤ k = omega (arith, le, opens.number) in
        (grows_new below (record { number = k; thread = m; request = opens.request }) above u s.world.shared opens.requests, inl (omega (arith, le, opens.next)))
    stopped_stays limits parent n m (Waits (For_branches bs) path s) b same opens =
        let none = none_stays s.world.shared opens.0 in forks_stays limits s.world.own.number s.world.own bs (stopped_at s.world b) none.0 none.1
    stopped_stays limits parent n m (Limited k s) b same opens = limit_stays u (stopped_at s.world b) k s.world.shared
    stopped_stays limits parent n m Unfinished b same opens = (grows_same below u b.shared (ap (λ (c : Common). c.requests) same), inr refl)

module _ (setting : Setting) (p : Node) (e : setting.script ≡ term 0 p) (small : Small setting) (below : ℕ) where
  abbrev AllStand : Build → Type 0
  AllStand b = AllAre (Stood setting) b.threads

  opened : TurnsOpen setting
  opened = turns_open setting p e small

  turn_stays : (b : Build) → below ≤ b.shared.next_request → (turn : Turn) → Stood setting turn.thread → Stays below b.shared (resumed setting (given_answer b.shared turn.answer turn.thread) b)
  turn_stays b le turn st =
      stopped_stays below b.shared le setting.limits turn.thread.parent turn.thread.own.number turn.thread.own.number (stands setting (given_answer b.shared turn.answer turn.thread))
      (record b { threads = with_thread (λ old. given_answer b.shared turn.answer turn.thread) turn.thread.own.number b.threads }) refl (opened turn.thread st b.shared turn.answer)

  taken_stays : (n : ℕ) → ((b : Build) → AllStand b → GoesOn below b → GrowsBy [] below b.shared (settle n setting b).shared) → (b : Build) → AllStand b → below ≤ b.shared.next_request
      → (o : Option Turn) → IfTurn setting (places b.threads) o → GrowsBy [] below b.shared (take_turn (settle n setting) setting b o).shared
  taken_stays n more b all le None st = grows_itself below b.shared
  taken_stays n more b all le (Some turn) st =
      let after : Build = resumed setting (given_answer b.shared turn.answer turn.thread) b in
      let stays = turn_stays b le turn st.stood in
      grows_then below [] [] b.shared after.shared (settle n setting after).shared stays.0 (more after (given_stood setting b.shared turn.answer turn.thread turn.thread.history refl st.stood.calls b all) stays.1)

  settle_stays : (n : ℕ) (b : Build) → AllStand b → GoesOn below b → GrowsBy [] below b.shared (settle n setting b).shared
  unfolding settle
  settle_stays zero b all goes = grows_itself below b.shared
  settle_stays (suc n) b all (inl le) = taken_stays n (settle_stays n) b all le (first_ready b.threads) (first_is setting b.threads all)
  settle_stays (suc n) b all (inr none) = subst (λ (ts : List Thread). GrowsBy [] below b.shared (take_turn (settle n setting) setting b (first_ready ts)).shared) (sym none) (grows_itself below b.shared)

  -- What an accepted event changes before a thread goes on.
  abbrev Changes : Event → Build → Build → Type 0
  Changes x b after = GrowsBy (x ∷ []) below b.shared after.shared × GoesOn below after

  held_same : (request executor : ℕ) (o : Option Executor) (u : Common) → ((held_as setting.site request executor o u).requests ≡ u.requests) × ((held_as setting.site request executor o u).next_request ≡ u.next_request)
  held_same request executor None u = (refl, refl)
  held_same request executor (Some x) u = (refl, refl)

  output_changes : (task place : ℕ) (stream : Stream) (bytes : List ℕ) (b : Build) → below ≤ b.shared.next_request → Changes (OutputEvent task stream place bytes) b (output setting.limits task stream bytes b)
  output_changes task place LogStream bytes b le = one (nat_lt setting.limits.log (length b.shared.log + length bytes))
    where
      one : (past : Bool) → Changes (OutputEvent task LogStream place bytes) b (if past then limit_met LogSize b.shared b else record b { shared = change_request (with_taken (length bytes)) task (record b.shared { log = raw bytes b.shared.log }) })
      one true = (grows_closed below (OutputEvent task LogStream place bytes ∷ []) b.shared (limit_met LogSize b.shared b).shared refl, inr refl)
      one false = (grows_changed below (OutputEvent task LogStream place bytes) (with_taken (length bytes)) task (log_grows task place bytes) b.shared (change_request (with_taken (length bytes)) task (record b.shared { log = raw bytes b.shared.log })) refl, inl le)
  output_changes task place OutStream bytes b le = one (nat_lt setting.limits.values.text (length (kept_output (request_of b.shared.requests task)) + length bytes))
    where
      one : (past : Bool) → Changes (OutputEvent task OutStream place bytes) b (if past then limit_met TextLength b.shared b else record b { shared = change_request (with_kept bytes) task b.shared })
      one true = (grows_closed below (OutputEvent task OutStream place bytes ∷ []) b.shared (limit_met TextLength b.shared b).shared refl, inr refl)
      one false = (grows_changed below (OutputEvent task OutStream place bytes) (with_kept bytes) task (out_grows task place bytes) b.shared (change_request (with_kept bytes) task b.shared) refl, inl le)

  changed_grows : (x : Event) (b : Build) → ((script agents : List ℕ) → x ≡ StartEvent script agents → ⊥) → below ≤ b.shared.next_request → Changes x b (changed_by setting x b)
  changed_grows (StartEvent script agents) b other le = absurd (other script agents refl)
  changed_grows (GrantedEvent request executor) b other le =
      let held = held_same request executor (executor_of setting.site executor) b.shared in
      let after : Build = changed_by setting (GrantedEvent request executor) b in (
        grows_then below [] (GrantedEvent request executor ∷ []) b.shared (grant_to setting.site request executor b).shared after.shared (grows_same below b.shared (grant_to setting.site request executor b).shared held.0)
            (grows_without below (GrantedEvent request executor) (λ task stream. refl) request (grant_to setting.site request executor b).shared after.shared refl),
        inl (omega (arith, le, held.1)),
      )
  changed_grows (OutputEvent task stream place bytes) b other le = output_changes task place stream bytes b le
  changed_grows (ExitedEvent task code) b other le = (grows_without below (ExitedEvent task code) (λ t stream. refl) task b.shared (changed_by setting (ExitedEvent task code) b).shared refl, inl le)
  changed_grows (LostEvent task why) b other le = (grows_without below (LostEvent task why) (λ t stream. refl) task b.shared (changed_by setting (LostEvent task why) b).shared refl, inl le)
  changed_grows (DecidedEvent request proceed name) b other le = (grows_without below (DecidedEvent request proceed name) (λ t stream. refl) request b.shared (changed_by setting (DecidedEvent request proceed name) b).shared refl, inl le)

  -- a build that has begun accepts no `Start`
  no_start : (b : Build) → b.started ≡ true → (x : Event) → answer_to setting b x ≡ Accepted → (script agents : List ℕ) → x ≡ StartEvent script agents → ⊥
  no_start b started x accepted script agents is = by b.ended b.started started (subst (λ (y : Event). answer_to setting b y ≡ Accepted) is accepted)
    where
      by : (ended started : Bool) → started ≡ true → (if ended then Finished else if started then NotOpen else Accepted) ≡ Accepted → ⊥
      by true s is a = absurd (cc)
      by false true is a = absurd (cc)
      by false false is a = absurd (cc)

  event_grows : (b : Build) → AllStand b → b.started ≡ true → below ≤ b.shared.next_request → (x : Event) → answer_to setting b x ≡ Accepted → GrowsBy (x ∷ []) below b.shared (after_one setting b x).shared
  event_grows b all started le x accepted =
      let changed : Build = changed_by setting x (uncounted b) in
      let change = changed_grows x (uncounted b) (no_start b started x accepted) le in
      subst (λ (answer : Taken). GrowsBy (x ∷ []) below b.shared (after_event setting b x answer).shared) (sym accepted)
      (grows_then below (x ∷ []) [] b.shared changed.shared (settle (turn_bound setting.limits) setting changed).shared change.0
      (settle_stays (turn_bound setting.limits) changed (changed_stood setting x (uncounted b) all) change.1))

  -- Behind a world under whose next number these stand, while events are taken.
  pub outputs_grow : (before es : List Event) → below ≤ (world_in setting before).shared.next_request → AllTaken setting before es → GrowsBy es below (world_in setting before).shared (world_in setting (before ++ es)).shared
  outputs_grow before [] le all = subst (λ (xs : List Event). GrowsBy [] below (world_in setting before).shared (world_in setting xs).shared) (sym (append-nil before)) (grows_itself below (world_in setting before).shared)
  outputs_grow before (x ∷ es) le all =
      let next : Build = world_in setting (before ++ x ∷ []) in
      let one : GrowsBy (x ∷ []) below (world_in setting before).shared next.shared =
      subst (λ (b : Build). GrowsBy (x ∷ []) below (world_in setting before).shared b.shared) (sym (fold-append (after_one setting) unbegun before (x ∷ [])))
      (event_grows (world_in setting before) (world_stood setting before) all.0.begun le x all.0.accepted) in
      let up : (world_in setting before).shared.next_request ≤ next.shared.next_request = (world_continues setting p e small before x all.0.begun).requests.next in
      let more : GrowsBy es below next.shared (world_in setting ((before ++ x ∷ []) ++ es)).shared = outputs_grow (before ++ x ∷ []) es (omega (arith, le, up)) all.1 in
      grows_then below (x ∷ []) es (world_in setting before).shared next.shared (world_in setting (before ++ x ∷ es)).shared one
      (subst (λ (xs : List Event). GrowsBy es below next.shared (world_in setting xs).shared) (append_assoc before (x ∷ []) es) more)
