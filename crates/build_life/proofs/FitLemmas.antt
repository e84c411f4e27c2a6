-- Hosts that fit the events from before a life fit those at its end, by the turns of the life and its history.
use Rattle.std.proofs.Common.{◌≡◌, inl, inr, ⊎_elim, ℕ, ℤ, Bool, true, false, List, [], ◌∷◌, ◌++◌, map, Option, Some, None, Result, Ok, Err, refl, sym, ap, subst}
use Rattle.std.specs.Prelude.{nat_eq, if◌then◌else◌}
use Rattle.std.specs.List.{AllByRecursion as AllAre, IsDistinct}
use Rattle.program_lock.specs.declared.program.Memory.{Memory}
use Rattle.program_lock.specs.Legal.{IsLegal}
use Rattle.program_lock.specs.Merge.{IsMergeOf}
use Rattle.program_lock.proofs.MergeLemmas.{IsMergeOf-nil}
use Rattle.task_host.specs.declared.call.Call.{Call}
use Rattle.task_host.specs.declared.order.Stream.{Stream}
use Rattle.agent_worker.specs.declared.member.Member.{Member}
use Rattle.agent_worker.specs.declared.member.Member.TheVariants.{Executor, Operator}
use Rattle.agent_worker.specs.Gate.{Told, Claimed as ClaimedTask}
use Rattle.agent_worker.specs.Serve.{tasks_at}
use Rattle.agent_worker.specs.Working.{on_host}
use Rattle.build_store.specs.Lower.build_core.Builds.{Parts}
use Rattle.model_syntax.specs.Nodes.{Node}
use Rattle.model_run.specs.declared.event.Event.{Event}
use Rattle.model_run.specs.Below.{Small}
use Rattle.model_run.specs.Fitting.{Some_of}
use Rattle.model_run.specs.State.{Setting}
use Rattle.model_run.specs.Terms.{term}
use Rattle.model_run.specs.World.{world_in}
use Rattle.settle_laws.specs.Stances.{Stance}
use Rattle.member_turns.specs.Lower.locked_build.declared.ask.Entry.{Entry}
use Rattle.member_turns.specs.Lower.locked_build.declared.ask.Entry.TheVariants.{Took, Claimed, Line, Failed}
use Rattle.member_turns.specs.Lower.locked_build.declared.ask.Progress.{Progress}
use Rattle.member_turns.specs.Lower.locked_build.Histories.{tooks}
use Rattle.member_turns.specs.Lower.locked_build.Says.{Says}
use Rattle.member_turns.specs.Tales.{asked_for, claimed_of, failed_of, is_grant, told_of}
use Rattle.member_turns.specs.Turning.{tasks_of}
use Rattle.member_turns.proofs.LaunchLaws.{launches_differ}
use Rattle.member_turns.proofs.PartLemmas.{all_append, all_first, all_map}
use Rattle.member_turns.proofs.TaleLemmas.{claimed-append, told-append}
use Rattle.member_turns.specs.Lives.{Life, EndsWith}
use Rattle.member_turns.specs.Rounds.{turns_of}
use Rattle.member_turns.specs.Turns.{Turn, MadeOf, Launches, launches_of}
use Rattle.launch_laws.specs.Fitting.{AreApart, ExecutorHost, Fits, all_launches}
use Rattle.launch_laws.specs.ManyTurns.{AllTaken, InLife}
use Rattle.launch_laws.proofs.Lists.{NoTwice, all_differ, none_twice}
use Rattle.launch_laws.proofs.LifeLaws.{life_fits, no_task_twice}
use Rattle.build_life.specs.Serving.{AreHonest, AllFit, AreServed, hosts_of}
use Rattle.member_turns.proofs.MadeLemmas.{made_behind, made_join}
use Rattle.build_life.proofs.WalkLemmas.{all_behind, all_front}
use Rattle.build_life.proofs.MemberLemmas.{Steps, steps_of, steps_then, rounds_steps, claims_of_all, SaysSo, AllCame, all_came, all_served}
use Rattle.task_host.specs.View.{HostView}
use Rattle.jp_io.specs.View.{SourceView}

-- what the entries of a history tell was taken in it
pub told_taken : (h : List Entry) → AllAre (λ (t : Told). t.accepted ≡ true → Some_of (λ x. x ≡ t.event) (tooks h)) (told_of h)
told_taken [] = tt
told_taken (Took e ∷ h) = all_append (λ (t : Told). t.accepted ≡ true → Some_of (λ x. x ≡ t.event) (e ∷ tooks h)) (asked_for e true) (told_of h) (first (is_grant e))
    (all_map (λ (t : Told). t.accepted ≡ true → Some_of (λ x. x ≡ t.event) (tooks h)) (λ (t : Told). t.accepted ≡ true → Some_of (λ x. x ≡ t.event) (e ∷ tooks h)) (told_of h) (λ t there is. inr (there is)) (told_taken h))
  where
    first : (grant : Bool) → AllAre (λ (t : Told). t.accepted ≡ true → Some_of (λ x. x ≡ t.event) (e ∷ tooks h)) (if grant then [] else record { event = e; accepted = true } ∷ [])
    first true = tt
    first false = (λ is. inl refl, tt)
told_taken (Claimed executor task keep_out kept_log kept_out ∷ h) = told_taken h
told_taken (Line line ∷ h) = told_taken h
told_taken (Failed fault event ∷ h) = all_append (λ (t : Told). t.accepted ≡ true → Some_of (λ x. x ≡ t.event) (tooks h)) (failed_of event) (told_of h) (first event) (told_taken h)
  where
    by : (e : Event) (grant : Bool) → AllAre (λ (t : Told). t.accepted ≡ true → Some_of (λ x. x ≡ t.event) (tooks h)) (if grant then [] else record { event = e; accepted = false } ∷ [])
    by e true = tt
    by e false = (λ is. let bad : false ≡ true = is in absurd (cc), tt)

    first : (event : Option Event) → AllAre (λ (t : Told). t.accepted ≡ true → Some_of (λ x. x ≡ t.event) (tooks h)) (failed_of event)
    first None = tt
    first (Some e) = by e (is_grant e)

module _ (IsTold : Told → Type 0) (IsGiven : ClaimedTask → Type 0) where
  -- what all entries tell each entry tells
  TellsSo : Entry → Type 0
  TellsSo x = AllAre IsTold (told_of (x ∷ [])) × AllAre IsGiven (claimed_of (x ∷ []))

  each_tells : (h : List Entry) → AllAre IsTold (told_of h) → AllAre IsGiven (claimed_of h) → AllAre TellsSo h
  unfolding TellsSo
  each_tells [] told given = tt
  each_tells (x ∷ h) told given =
      let t : AllAre IsTold (told_of (x ∷ []) ++ told_of h) = subst (AllAre IsTold) (told-append (x ∷ []) h) told in
      let g : AllAre IsGiven (claimed_of (x ∷ []) ++ claimed_of h) = subst (AllAre IsGiven) (claimed-append (x ∷ []) h) given in
      ((all_front IsTold (told_of (x ∷ [])) (told_of h) t, all_front IsGiven (claimed_of (x ∷ [])) (claimed_of h) g), each_tells h (all_behind IsTold (told_of (x ∷ [])) (told_of h) t) (all_behind IsGiven (claimed_of (x ∷ [])) (claimed_of h) g))

  all_tell : (h : List Entry) → AllAre TellsSo h → AllAre IsTold (told_of h) × AllAre IsGiven (claimed_of h)
  unfolding TellsSo
  all_tell [] all = (tt, tt)
  all_tell (x ∷ h) all =
      let later = all_tell h all.1 in
      (subst (AllAre IsTold) (sym (told-append (x ∷ []) h)) (all_append IsTold (told_of (x ∷ [])) (told_of h) all.0.0 later.0), subst (AllAre IsGiven) (sym (claimed-append (x ∷ []) h)) (all_append IsGiven (claimed_of (x ∷ [])) (claimed_of h) all.0.1 later.1))

  swapped : (xs ys zs : List Entry) → IsMergeOf xs ys zs → IsMergeOf ys xs zs
  swapped xs ys [] m = (m.1, m.0)
  swapped xs ys (z ∷ zs) m = ⊎_elim
      (λ (l : (us : List Entry) × (xs ≡ z ∷ us) × IsMergeOf us ys zs). inr (l.0, l.1, swapped l.0 ys zs l.2))
      (λ (r : (vs : List Entry) × (ys ≡ z ∷ vs) × IsMergeOf xs vs zs). inl (r.0, r.1, swapped xs r.0 zs r.2))
      m

  made_all : {H A : Type 0} (before : List Entry) (turns : List (Turn H A)) (after : List Entry) → MadeOf before turns after → AllAre TellsSo after → AllAre TellsSo before × AllAre (SaysSo IsTold IsGiven) turns
  made_all before [] after made all = (subst (AllAre TellsSo) (sym made) all, tt)
  made_all before (turn ∷ turns) after made all =
      let later = made_all made.0 turns after made.2 all in (
        all_first TellsSo before turn.own made.0 made.1 later.0,
        (all_tell turn.own (all_first TellsSo turn.own before made.0 (swapped before turn.own made.0 made.1) later.0), later.1),
      )

  -- what the whole history tells each turn tells
  pub made_says : {H A : Type 0} (turns : List (Turn H A)) (h : List Entry) → MadeOf [] turns h → AllAre IsTold (told_of h) → AllAre IsGiven (claimed_of h) → AllAre (SaysSo IsTold IsGiven) turns
  made_says turns h made told given = (made_all [] turns h made (each_tells h told given)).1

cons_same : {a b : ℕ} {xs ys : List ℕ} → a ≡ b → xs ≡ ys → a ∷ xs ≡ b ∷ ys
cons_same one two = cc

-- A turn whose launches are its claims, each once: as that of an executor whose host is the list of its launches.
abbrev ClaimTurn : Type 0
ClaimTurn = Turn (List ℕ) (List ℕ)

claim_turn : {H A : Type 0} → Turn H A → ClaimTurn
claim_turn turn =
    let claims : List ℕ = tasks_of (claimed_of turn.own) in
    record { old = Executor 0 []; now = Executor 0 claims; worked = turn.worked; own = turn.own; calls = turn.calls; said = turn.said; is_open = turn.is_open; launches = claims }

claims_made : {H A : Type 0} (before : List Entry) (turns : List (Turn H A)) (after : List Entry) → MadeOf before turns after → MadeOf before (map claim_turn turns) after
unfolding claim_turn
claims_made before [] after made = made
claims_made before (turn ∷ turns) after made = (made.0, made.1, claims_made made.0 turns after made.2)

-- a list of tasks as a host that has launched just these
abbrev claimed_host : HostView (List ℕ)
claimed_host = record { honest = λ h. Unit {0}; dirs = λ h. []; launches = λ h. h; output = λ h task stream. []; exited = λ h task. None; calls = λ h. None; faults = λ h. 0 }

claims_launched : {H A : Type 0} (turns : List (Turn H A)) → AllAre (λ (t : ClaimTurn). Launches claimed_host t.old t.now t.own t.launches) (map claim_turn turns)
unfolding claim_turn
claims_launched [] = tt
claims_launched (turn ∷ turns) = ((refl, ([], IsMergeOf-nil (tasks_of (claimed_of turn.own)))), claims_launched turns)

claims_are : {H A : Type 0} (turns : List (Turn H A)) → launches_of (map claim_turn turns) ≡ claims_of_all turns
unfolding claim_turn
claims_are [] = refl
claims_are (turn ∷ turns) = ap (λ (l : List ℕ). tasks_of (claimed_of turn.own) ++ l) (claims_are turns)

-- no task was claimed twice in them
pub claims_once : {B T H A : Type 0} (stance : T → Stance) (opening : B → Parts T) (base : B) (turns : List (Turn H A)) (h : List Entry) → IsLegal (λ b history x y new. Says stance (opening b) history x y new) base h → MadeOf [] turns h → NoTwice (claims_of_all turns)
claims_once stance opening base turns h legal made =
    none_twice (claims_of_all turns) (subst (IsDistinct nat_eq) (claims_are turns) (launches_differ stance opening base claimed_host (map claim_turn turns) h legal (claims_made [] turns h made) (claims_launched turns)))

module _ {H A : Type 0} (host : HostView H) (source : SourceView A) (looks : ℕ) where
  module _ {B T : Type 0} (stance : T → Stance) (opening : B → Parts T) (start base : B) (old new : List (Member H A)) (h : List Entry) (how : Result Progress Memory)
      (life : Life host source looks (λ b history x y more. Says stance (opening b) history x y more) start base old new h how) where
    abbrev pub all_turns : List (Turn H A)
    all_turns = turns_of life.rounds ++ life.last

    last_made : MadeOf [] life.last life.part → life.before ++ life.part ≡ h → MadeOf life.before life.last h
    last_made made is = subst (MadeOf life.before life.last) is (made_behind life.before life.last life.part made)

    last_steps : (r : Result Progress Memory) → EndsWith (λ b history x y more. Says stance (opening b) history x y more) base life.last life.members life.before new life.part h r → Steps life.members life.last new × MadeOf life.before life.last h
    last_steps (Ok come) e = (steps_of life.last [] life.members new e.0, last_made e.1 e.2)
    last_steps (Err memory) e = (steps_of life.last e.0 life.members new e.1, last_made e.2 e.3)

    pub steps_all : Steps old all_turns new × MadeOf [] all_turns h
    steps_all =
        let first = rounds_steps (λ b history x y more. Says stance (opening b) history x y more) base life.rounds old [] life.members life.before life.went_on in
        let last = last_steps how life.ends in
        (steps_then old (turns_of life.rounds) life.last life.members new first.0 last.0, made_join (turns_of life.rounds) life.last [] life.before h first.1 last.1)

    once_all : NoTwice (claims_of_all all_turns)
    once_all = claims_once stance opening base all_turns h life.legal steps_all.1

    -- what became of the members, where the history tells this
    pub came_all : (IsTold : Told → Type 0) (IsGiven : ClaimedTask → Type 0) → AllAre IsTold (told_of h) → AllAre IsGiven (claimed_of h)
        → AllCame host source looks IsTold IsGiven old new (claims_of_all all_turns)
    came_all IsTold IsGiven told given =
        all_came host source looks IsTold IsGiven old all_turns new steps_all.0 life.turns (made_says IsTold IsGiven all_turns h steps_all.1 told given) once_all

    all_so : {X : Type 0} (xs : List X) → AllAre (λ (x : X). Unit {0}) xs
    all_so [] = tt
    all_so (x ∷ xs) = (tt, all_so xs)

    -- Executors keep their numbers, and what could not be read of the answers was counted.
    pub life_serves : AreServed host source old new
    life_serves = all_served host source looks (λ (t : Told). Unit {0}) (λ (c : ClaimedTask). Unit {0}) old new (claims_of_all all_turns)
        (came_all (λ (t : Told). Unit {0}) (λ (c : ClaimedTask). Unit {0}) (all_so (told_of h)) (all_so (claimed_of h)))

  -- executors keep their numbers
  same_numbers : (os ms : List (Member H A)) → AreServed host source os ms → map (λ (x : ExecutorHost). x.number) (hosts_of host ms) ≡ map (λ (x : ExecutorHost). x.number) (hosts_of host os)
  same_numbers [] [] c = refl
  same_numbers (Executor number machine ∷ os) (Executor now next ∷ ms) c = cons_same c.0.0 (same_numbers os ms c.1)
  same_numbers (Operator answers line ended failed ∷ os) (Operator next kept now_ended now_failed ∷ ms) c = same_numbers os ms c.1
  same_numbers (Executor number machine ∷ os) (Operator next kept now_ended now_failed ∷ ms) c = absurd c
  same_numbers (Operator answers line ended failed ∷ os) (Executor now next ∷ ms) c = absurd c
  same_numbers [] (m ∷ ms) c = absurd c
  same_numbers (o ∷ os) [] c = absurd c

  -- over all hosts no task was launched twice
  pub once_fit : (setting : Setting) (p : Node) (e : setting.script ≡ term 0 p) (small : Small setting) (now : List Event) (old new : List (Member H A)) → AreServed host source old new → AllFit host setting now new
      → AreApart (hosts_of host old) → IsDistinct nat_eq (all_launches (hosts_of host new))
  once_fit setting p e small now old new served fit apart = no_task_twice setting p e small now (hosts_of host new) fit (subst (IsDistinct nat_eq) (sym (same_numbers old new served)) apart)

  module _ (setting : Setting) (p : Node) (e : setting.script ≡ term 0 p) (small : Small setting) (begun : List Event) (started : (world_in setting begun).started ≡ true) where
    -- the events of a life
    pub fit_life : (taken : List Event) → AllTaken setting begun taken → (os ms : List (Member H A)) (seen : List ℕ)
        → AllCame host source looks (λ (t : Told). t.accepted ≡ true → Some_of (λ x. x ≡ t.event) taken) (λ (c : ClaimedTask). InLife setting begun taken c.executor c.task) os ms seen
        → AreHonest host os → AllFit host setting begun os → AllFit host setting (begun ++ taken) ms
    fit_life taken all [] [] seen c are fit = tt
    fit_life taken all (Executor number machine ∷ os) (Executor now next ∷ ms) seen c are fit =
        let k = c.0.1 in (
          subst (λ (n : ℕ). Fits setting (begun ++ taken) n (tasks_at (host.launches next) (host.dirs next))) (sym c.0.0)
              (life_fits setting p e small begun taken number looks (on_host host machine) (on_host host next) k.told k.claimed started all
              (record { taken_so = k.are_told; given = k.are_given; once = all_differ (tasks_of k.claimed) k.once }) (k.turns are.0) fit.0),
          fit_life taken all os ms seen c.1 are.1 fit.1,
        )
    fit_life taken all (Operator answers line ended failed ∷ os) (Operator next kept now_ended now_failed ∷ ms) seen c are fit = fit_life taken all os ms seen c.1 are fit
    fit_life taken all (Executor number machine ∷ os) (Operator next kept now_ended now_failed ∷ ms) seen c are fit = absurd c.0
    fit_life taken all (Operator answers line ended failed ∷ os) (Executor now next ∷ ms) seen c are fit = absurd c.0
    fit_life taken all [] (m ∷ ms) seen c are fit = absurd c
    fit_life taken all (o ∷ os) [] seen c are fit = absurd c
