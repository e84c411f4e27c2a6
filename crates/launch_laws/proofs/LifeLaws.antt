-- Turns of an executor in one life, as one work; and a host that fits at the beginning of a life fits at its end.
use Rattle.std.proofs.Common.{◌≡◌, ◌⊎◌, ◌∙◌, inl, inr, ℕ, ℤ, Bool, true, false, List, [], ◌∷◌, ◌++◌, map, None, Result, Ok, refl, sym, ap, subst, append_assoc, append-nil, arith}
use Rattle.std.specs.Prelude.{nat_eq}
use Rattle.std.specs.List.{AllByRecursion as AllAre, IsDistinct}
use Rattle.device_faults.specs.declared.faults.Failed.{Failed}
use Rattle.model_syntax.specs.Nodes.{Node}
use Rattle.model_run.specs.declared.event.Event.{Event}
use Rattle.model_run.specs.declared.event.Event.TheVariants.{Exited}
use Rattle.model_run.specs.declared.taken.Taken.TheVariants.{Accepted}
use Rattle.model_run.specs.Below.{Small}
use Rattle.model_run.specs.Fitting.{Some_of}
use Rattle.model_run.specs.State.{Setting}
use Rattle.model_run.specs.Terms.{term}
use Rattle.model_run.specs.World.{world_in}
use Rattle.task_host.specs.declared.call.Call.TheVariants as call
use Rattle.task_host.specs.declared.order.Order.{Order}
use Rattle.agent_worker.specs.declared.gate.Claim.{Claim}
use Rattle.agent_worker.specs.declared.gate.Claim.TheVariants as claim
use Rattle.agent_worker.specs.Acts.{Act, Called, Reported, with_told}
use Rattle.agent_worker.specs.Gate.{Told, told_at, told_as, is_told, added_if, Claimed, claimed_as, claimed_in}
use Rattle.agent_worker.specs.Serving.{ExitTaken, exited}
use Rattle.agent_worker.specs.Serve.{Tasks}
use Rattle.agent_worker.specs.Working.{Deed, Claims, Serves, Pauses, Halts, OnHost, WorksOnHost, IsWork, AreOf, work_told, work_claims}
use Rattle.world_laws.proofs.Places.{some_front, some_behind}
use Rattle.launch_laws.specs.Fitting.{Among, AllFit, AreApart, ExecutorHost, Fits, WasTask, all_launches}
use Rattle.launch_laws.specs.ManyTurns.{AllTaken, InLife, IsOfLife, Turns, none, more}
use Rattle.launch_laws.proofs.Lists.{NoTwice, none_twice, all_differ, among_either, twice_append, twice_front, twice_new}
use Rattle.launch_laws.proofs.TaskLaws.{exited_over, one_executor}
use Rattle.launch_laws.proofs.FitLaws.{served_tasks, Known, IsOver, fits_works}

-- the tasks of claims
abbrev tasks_in : List Claimed → List ℕ
tasks_in claimed = map (λ (c : Claimed). c.task) claimed

tasks-append : (xs ys : List Claimed) → tasks_in (xs ++ ys) ≡ tasks_in xs ++ tasks_in ys
tasks-append [] ys = refl
tasks-append (c ∷ xs) ys = ap (λ (l : List ℕ). c.task ∷ l) (tasks-append xs ys)

-- what a work adds to the lists stands behind what they had
added_behind : (told : Bool) (t : Told) (old new : List Told) → added_if told t (old ++ new) ≡ old ++ added_if told t new
added_behind true t old new = append_assoc old new (t ∷ [])
added_behind false t old new = refl

acts_behind : (acts : List Act) (old new : List Told) → with_told acts (old ++ new) ≡ old ++ with_told acts new
acts_behind [] old new = refl
acts_behind (Called c ∷ acts) old new = acts_behind acts old new
acts_behind (Reported e answer ∷ acts) old new = ap (added_if (is_told answer) (told_as e answer)) (acts_behind acts old new) ∙ added_behind (is_told answer) (told_as e answer) old (with_told acts new)

told_behind : (past : List Deed) (old new : List Told) → work_told past (old ++ new) ≡ old ++ work_told past new
told_behind [] old new = refl
told_behind (Claims c ∷ past) old new = told_behind past old new
told_behind (Serves order acts answer ∷ past) old new = ap (with_told acts) (told_behind past old new) ∙ acts_behind acts old (work_told past new)
told_behind (Pauses ∷ past) old new = told_behind past old new
told_behind (Halts ∷ past) old new = told_behind past old new

claims_behind : (past : List Deed) (old new : List Claimed) → work_claims past (old ++ new) ≡ old ++ work_claims past new
claims_behind [] old new = refl
claims_behind (Claims c ∷ past) old new = ap (λ (l : List Claimed). l ++ claimed_in c) (claims_behind past old new) ∙ append_assoc old (work_claims past new) (claimed_in c)
claims_behind (Serves order acts answer ∷ past) old new = claims_behind past old new
claims_behind (Pauses ∷ past) old new = claims_behind past old new
claims_behind (Halts ∷ past) old new = claims_behind past old new

-- what was told stays told
pub told_stays : (t : Told) (b : Bool) (u : Told) (old : List Told) → Some_of (λ x. x ≡ t) old → Some_of (λ x. x ≡ t) (added_if b u old)
told_stays t true u old there = some_front (λ x. x ≡ t) old (u ∷ []) there
told_stays t false u old there = there

told_acts : (t : Told) (acts : List Act) (old : List Told) → Some_of (λ x. x ≡ t) old → Some_of (λ x. x ≡ t) (with_told acts old)
told_acts t [] old there = there
told_acts t (Called c ∷ acts) old there = told_acts t acts old there
told_acts t (Reported e answer ∷ acts) old there = told_stays t (is_told answer) (told_as e answer) (with_told acts old) (told_acts t acts old there)

-- an exit that was accepted was told
exit_told : (order : Order) (acts : List Act) (old : List Told) (x : ExitTaken order acts) → Some_of (λ t. t ≡ told_at (Exited order.task x.0) true) (with_told acts old)
exit_told order acts old x = by x.1.is
  where
    e : Event
    e = exited order x.0

    here : Some_of (λ t. t ≡ told_at (exited order x.0) true) (with_told x.1.before old ++ told_at (exited order x.0) true ∷ [])
    here = some_behind (λ t. t ≡ told_at (exited order x.0) true) (with_told x.1.before old) (told_at (exited order x.0) true ∷ []) (inl refl)

    by : (acts ≡ Reported (exited order x.0) (Ok Accepted) ∷ x.1.before) ⊎ ((removed : Result (Unit {0}) Failed) × (acts ≡ Called (call.Remove order removed) ∷ Reported (exited order x.0) (Ok Accepted) ∷ x.1.before)) → Some_of (λ t. t ≡ told_at (exited order x.0) true) (with_told acts old)
    by (inl is) = subst (λ (l : List Act). Some_of (λ t. t ≡ told_at (exited order x.0) true) (with_told l old)) (sym is) here
    by (inr is) = subst (λ (l : List Act). Some_of (λ t. t ≡ told_at (exited order x.0) true) (with_told l old)) (sym is.1) here

pub all_some : {A : Type 0} (P : A → Type 0) (xs : List A) → AllAre P xs → (y : A) → Some_of (λ x. x ≡ y) xs → P y
all_some P [] all y there = absurd there
all_some P (x ∷ xs) all y (inl is) = subst P is all.0
all_some P (x ∷ xs) all y (inr there) = all_some P xs all.1 y there

module _ (setting : Setting) (begun taken : List Event) (executor : ℕ) (told : List Told) (claimed : List Claimed)
    (given : AllAre (λ (c : Claimed). InLife setting begun taken c.executor c.task) claimed)
    (over : (t : ℕ) (code : ℤ) → Some_of (λ x. x ≡ told_at (Exited t code) true) told → IsOver setting begun taken executor t) where
  claim_more : (c : Claim) (old : List Claimed) (t : ℕ) → Among t (tasks_in old) → Among t (tasks_in (old ++ claimed_in c))
  claim_more c old t there = subst (Among t) (sym (tasks-append old (claimed_in c))) (some_front (λ m. m ≡ t) (tasks_in old) (tasks_in (claimed_in c)) there)

  -- the tasks that were served were claimed
  served_claimed : (looks t : ℕ) (past older : List Deed) (old : List Claimed) → IsWork looks past → (Among t (served_tasks older) → Among t (tasks_in old)) → Among t (served_tasks (past ++ older)) → Among t (tasks_in (work_claims past old))
  served_claimed looks t [] older old lawful before there = before there
  served_claimed looks t (Claims c ∷ past) older old lawful before there = claim_more c (work_claims past old) t (served_claimed looks t past older old lawful.1 before there)
  served_claimed looks t (Serves order acts answer ∷ past) older old lawful before (inl is) =
      let claims = lawful.0.0 in
      subst (λ (p : List Deed). Among t (tasks_in (work_claims p old))) (sym claims.1)
      (subst (Among t) (sym (tasks-append (work_claims claims.0 old) (claimed_as order ∷ []))) (some_behind (λ m. m ≡ t) (tasks_in (work_claims claims.0 old)) (order.task ∷ []) (inl is)))
  served_claimed looks t (Serves order acts answer ∷ past) older old lawful before (inr there) = served_claimed looks t past older old lawful.1 before there
  served_claimed looks t (Pauses ∷ past) older old lawful before there = served_claimed looks t past older old lawful.1 before there
  served_claimed looks t (Halts ∷ past) older old lawful before there = served_claimed looks t past older old lawful.1 before there

  later_claims : (c : Claim) (old : List Claimed) → NoTwice (tasks_in (old ++ claimed_in c)) → NoTwice (tasks_in old)
  later_claims c old once = twice_front (tasks_in old) (tasks_in (claimed_in c)) (subst NoTwice (tasks-append old (claimed_in c)) once)

  -- One turn more: its deeds stand in front of those of the turns before it.
  known_turn : (looks : ℕ) (past older : List Deed) (old_told : List Told) (old : List Claimed) → IsWork looks past → AreOf executor past
      → NoTwice (tasks_in (work_claims past old)) → ((c : Claimed) → Some_of (λ x. x ≡ c) (work_claims past old) → Some_of (λ x. x ≡ c) claimed) → ((t : Told) → Some_of (λ x. x ≡ t) (work_told past old_told) → Some_of (λ x. x ≡ t) told)
      → ((t : ℕ) → Among t (served_tasks older) → Among t (tasks_in old)) → Known setting begun taken executor older → Known setting begun taken executor (past ++ older)
  known_turn looks [] older old_told old lawful own once among among_told before known = known
  known_turn looks (Claims c ∷ past) older old_told old lawful own once among among_told before known =
      known_turn looks past older old_told old lawful.1 own (later_claims c (work_claims past old) once) (λ d there. among d (some_front (λ x. x ≡ d) (work_claims past old) (claimed_in c) there)) among_told before known
  known_turn looks (Serves order acts answer ∷ past) older old_told old lawful own once among among_told before known =
      let claims = lawful.0.0 in
      let front : List Claimed = work_claims claims.0 old in
      let c : Claimed = claimed_as order in
      let here : Some_of (λ x. x ≡ c) (work_claims past old) = subst (λ (p : List Deed). Some_of (λ x. x ≡ claimed_as order) (work_claims p old)) (sym claims.1) (some_behind (λ x. x ≡ claimed_as order) front (claimed_as order ∷ []) (inl refl)) in
      let once_here : NoTwice (tasks_in front ++ order.task ∷ []) = subst NoTwice (tasks-append front (claimed_as order ∷ [])) (subst (λ (p : List Deed). NoTwice (tasks_in (work_claims p old))) claims.1 once) in
      let lawful_before : IsWork looks (Claims (claim.Order order) ∷ claims.0) = subst (IsWork looks) claims.1 lawful.1 in
      let same_served : served_tasks (past ++ older) ≡ served_tasks (claims.0 ++ older) = ap (λ (p : List Deed). served_tasks (p ++ older)) claims.1 in (
        subst (λ (x : ℕ). InLife setting begun taken x order.task) own.0 (all_some (λ (d : Claimed). InLife setting begun taken d.executor d.task) claimed given c (among c here)),
        λ again. twice_new (tasks_in front) order.task once_here (served_claimed looks order.task claims.0 older old lawful_before.1 (before order.task) (subst (Among order.task) same_served again)),
        λ taken_so. over order.task taken_so.0 (among_told (told_at (Exited order.task taken_so.0) true) (exit_told order acts (work_told past old_told) taken_so)),
        known_turn looks past older old_told old lawful.1 own.1 once among (λ t there. among_told t (told_acts t acts (work_told past old_told) there)) before known,
      )
  known_turn looks (Pauses ∷ past) older old_told old lawful own once among among_told before known = known_turn looks past older old_told old lawful.1 own once among among_told before known
  known_turn looks (Halts ∷ past) older old_told old lawful own once among among_told before known = known_turn looks past older old_told old lawful.1 own once among among_told before known

  -- what stands on the host after several turns
  host_turn : (past older : List Deed) (start mid now : OnHost) → WorksOnHost older start mid → WorksOnHost past mid now → WorksOnHost (past ++ older) start now
  host_turn [] older start mid now before here = subst (WorksOnHost older start) (sym here) before
  host_turn (Claims c ∷ past) older start mid now before here = host_turn past older start mid now before here
  host_turn (Serves order acts answer ∷ past) older start mid now before here = (here.0, host_turn past older start mid here.0 before here.1, here.2)
  host_turn (Pauses ∷ past) older start mid now before here = host_turn past older start mid now before here
  host_turn (Halts ∷ past) older start mid now before here = host_turn past older start mid now before here

  -- all turns as one work
  record Lived (start : OnHost) (claims : List Claimed) (now : OnHost) : Type 0 where
    past : List Deed
    known : Known setting begun taken executor past
    on_host : WorksOnHost past start now
    served : (t : ℕ) → Among t (served_tasks past) → Among t (tasks_in claims)

  lived : (looks : ℕ) (start : OnHost) (tells : List Told) (claims : List Claimed) (now : OnHost) → Turns executor looks start tells claims now → NoTwice (tasks_in claims)
      → ((c : Claimed) → Some_of (λ x. x ≡ c) claims → Some_of (λ x. x ≡ c) claimed) → ((t : Told) → Some_of (λ x. x ≡ t) tells → Some_of (λ x. x ≡ t) told) → Lived start claims now
  lived looks start tells claims now none once among among_told = record { past = []; known = tt; on_host = refl; served = λ t there. there }
  lived looks start tells claims now (more {old_told = old_told} {told = new_told} {old_claimed = old} {claimed = new} {old = mid} before turn) once among among_told =
      let all_claims : old ++ new ≡ work_claims turn.past old = ap (λ (l : List Claimed). old ++ l) turn.claims ∙ sym (claims_behind turn.past old []) ∙ ap (work_claims turn.past) (append-nil old) in
      let all_told : old_told ++ new_told ≡ work_told turn.past old_told = ap (λ (l : List Told). old_told ++ l) turn.tells ∙ sym (told_behind turn.past old_told []) ∙ ap (work_told turn.past) (append-nil old_told) in
      let l = lived looks start old_told old mid before (twice_front (tasks_in old) (tasks_in new) (subst NoTwice (tasks-append old new) once)) (λ c there. among c (some_front (λ x. x ≡ c) old new there)) (λ t there. among_told t (some_front (λ x. x ≡ t) old_told new_told there)) in
      record {
        past = turn.past ++ l.past;
        known = known_turn looks turn.past l.past old_told old turn.lawful turn.orders (subst (λ (cs : List Claimed). NoTwice (tasks_in cs)) all_claims once)
            (λ c there. among c (subst (Some_of (λ x. x ≡ c)) (sym all_claims) there)) (λ t there. among_told t (subst (Some_of (λ x. x ≡ t)) (sym all_told) there)) l.served l.known;
        on_host = host_turn turn.past l.past start mid now l.on_host turn.on_host;
        served = λ t there. subst (λ (cs : List Claimed). Among t (tasks_in cs)) (sym all_claims) (served_claimed looks t turn.past l.past old turn.lawful (l.served t) there);
      }

same_accepted : (setting : Setting) (taken : List Event) (told : List Told) (e : Event) → AllAre (λ (t : Told). t.accepted ≡ true → Some_of (λ x. x ≡ t.event) taken) told → Some_of (λ t. t ≡ told_at e true) told → Some_of (λ x. x ≡ e) taken
same_accepted setting taken told e all there = all_some (λ (t : Told). t.accepted ≡ true → Some_of (λ x. x ≡ t.event) taken) told all (told_at e true) there refl

module _ (setting : Setting) (p : Node) (e : setting.script ≡ term 0 p) (small : Small setting) where
  -- The launch clause, for one host and one life: where the host fits the events from before the life, it fits those at its end.
  pub life_fits : (begun taken : List Event) (executor looks : ℕ) (start now : OnHost) (told : List Told) (claimed : List Claimed) → (world_in setting begun).started ≡ true → AllTaken setting begun taken
      → IsOfLife setting begun taken told claimed → Turns executor looks start told claimed now → Fits setting begun executor start.tasks → Fits setting (begun ++ taken) executor now.tasks
  life_fits begun taken executor looks start now told claimed started all of_life turns fits =
      let l = lived setting begun taken executor told claimed of_life.given
      (λ t code there. exited_over setting p e small begun taken t code all (same_accepted setting taken told (Exited t code) of_life.taken_so there))
      looks start told claimed now turns (none_twice (tasks_in claimed) of_life.once) (λ c there. there) (λ t there. there) in
      fits_works setting begun taken executor p e small started start now l.past fits l.known l.on_host

  -- Events that a host does not see leave it fitting.
  pub fits_more : (begun taken : List Event) (executor : ℕ) (host : Tasks) → (world_in setting begun).started ≡ true → AllTaken setting begun taken → Fits setting begun executor host → Fits setting (begun ++ taken) executor host
  unfolding IsDistinct
  fits_more begun taken executor host started all fits =
      let here : OnHost = record { tasks = host; output = λ task stream. []; exited = λ task. None } in
      life_fits begun taken executor 0 here here [] [] started all (record { taken_so = tt; given = tt; once = tt }) none fits

  pub all_fit_more : (begun taken : List Event) (hosts : List ExecutorHost) → (world_in setting begun).started ≡ true → AllTaken setting begun taken → AllFit setting begun hosts → AllFit setting (begun ++ taken) hosts
  all_fit_more begun taken [] started all fit = tt
  all_fit_more begun taken (host ∷ hosts) started all fit = (fits_more begun taken host.number host.tasks started all fit.0, all_fit_more begun taken hosts started all fit.1)

  -- no task is launched on two hosts
  apart_from : (events : List Event) (a : ExecutorHost) (hosts : List ExecutorHost) → AllAre (λ y. nat_eq a.number y ≡ false) (map (λ h. h.number) hosts) → Fits setting events a.number a.tasks → AllFit setting events hosts
      → (t : ℕ) → Among t a.tasks.launches → Among t (all_launches hosts) → ⊥
  apart_from events a [] other f all t here there = there
  apart_from events a (b ∷ hosts) other f all t here there = on (apart_from events a hosts other.1 f all.1 t here) (among_either t b.tasks.launches (all_launches hosts) there)
    where
      on : (Among t (all_launches hosts) → ⊥) → Among t b.tasks.launches ⊎ Among t (all_launches hosts) → ⊥
      on go (inl one) = let same : a.number ≡ b.number = one_executor setting p e small events a.number b.number t (f.was t here) (all.0.was t one) in absurd (never a.number b.number same other.0)
        where
          never : (x y : ℕ) → x ≡ y → nat_eq x y ≡ false → ⊥
          never x y same is = grind (arith, same, is)
      on go (inr later) = go later

  none_on_two : (events : List Event) (hosts : List ExecutorHost) → AllFit setting events hosts → AreApart hosts → NoTwice (all_launches hosts)
  unfolding IsDistinct
  none_on_two events [] all apart = tt
  none_on_two events (a ∷ hosts) all apart =
      twice_append a.tasks.launches (all_launches hosts) (none_twice a.tasks.launches all.0.once) (none_on_two events hosts all.1 apart.1) (apart_from events a hosts apart.0 all.0 all.1)

  -- Over all hosts no task is launched twice.
  pub no_task_twice : (events : List Event) (hosts : List ExecutorHost) → AllFit setting events hosts → AreApart hosts → IsDistinct nat_eq (all_launches hosts)
  no_task_twice events hosts all apart = all_differ (all_launches hosts) (none_on_two events hosts all apart)

-- A host that has launched nothing fits all events, and no other fits a build that has taken none.
pub none_fits : (setting : Setting) (events : List Event) (executor : ℕ) (host : Tasks) → host.launches ≡ [] → Fits setting events executor host
unfolding IsDistinct
none_fits setting events executor host nothing = record {
  was = λ task there. absurd (subst (Among task) nothing there);
  once = subst (IsDistinct nat_eq) (sym nothing) tt;
  folder = λ task there. absurd (subst (Among task) nothing there);
}

pub none_yet : (setting : Setting) (executor : ℕ) (host : Tasks) → Fits setting [] executor host → host.launches ≡ []
none_yet setting executor host fits = by host.launches refl
  where
    no_front : (front rest : List Event) → [] ≡ front ++ rest → front ≡ []
    no_front [] rest is = refl
    no_front (e ∷ front) rest is = absurd (cc)

    never : (task : ℕ) → WasTask setting [] executor task → ⊥
    never task was = let bad : false ≡ true = subst (λ (es : List Event). (world_in setting es).started ≡ true) (no_front was.front was.rest was.is) was.begun in absurd (cc)

    by : (launches : List ℕ) → host.launches ≡ launches → launches ≡ []
    by [] is = refl
    by (t ∷ ts) is = absurd (never t (fits.was t (subst (Among t) (sym is) (inl refl))))
