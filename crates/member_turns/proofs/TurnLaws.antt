-- What an executor's turn did, by what its gate tells.
use Rattle.std.proofs.Common.{◌≡◌, ◌⊎◌, ⊎_elim, inl, inr, ℕ, ℤ, Bool, true, false, List, [], ◌∷◌, ◌++◌, Option, Result, Ok, refl, sym, ap, ◌∙◌, subst, append_assoc, append-nil}
use Rattle.std.specs.List.{AllByRecursion as AllAre}
use Rattle.model_run.specs.declared.event.Event.{Event}
use Rattle.model_run.specs.declared.taken.Taken.{Taken}
use Rattle.model_run.specs.declared.taken.Taken.TheVariants.{Accepted}
use Rattle.task_host.specs.declared.answers.Made.TheVariants as made
use Rattle.task_host.specs.declared.call.Call.{Call}
use Rattle.task_host.specs.declared.call.Call.TheVariants as call
use Rattle.task_host.specs.declared.order.Order.{Order}
use Rattle.journal_core.specs.declared.faults.TakeFault.{TakeFault}
use Rattle.agent_worker.specs.declared.gate.Claim.{Claim}
use Rattle.agent_worker.specs.declared.gate.Claim.TheVariants as claim
use Rattle.agent_worker.specs.declared.gate.GateCall.{GateCall}
use Rattle.agent_worker.specs.declared.gate.Said.{Said}
use Rattle.agent_worker.specs.declared.gate.Said.TheVariants.{Nothing}
use Rattle.agent_worker.specs.declared.task.Served.{Served}
use Rattle.agent_worker.specs.declared.worked.Worked.{Worked}
use Rattle.agent_worker.specs.Acts.{Act, Called, Reported, WasDone, made_dir, with_told}
use Rattle.agent_worker.specs.Gate.{Told, told_at, told_as, is_told, added_if, Claimed as ClaimedTask, claimed_in, claimed_as}
use Rattle.agent_worker.specs.Serving.{IsServe, exited}
use Rattle.agent_worker.specs.Working.{Deed, Claims, Serves, Pauses, Halts, IsWork, Works, WorkLaunches, work_told, work_claims, telling, on_host}
use Rattle.locked_build.specs.declared.ask.Entry.{Entry}
use Rattle.member_turns.specs.Tales.{tells_of}
use Rattle.member_turns.specs.Turning.{IsCausedIn, IsCausedBy, removed_in, removed, exit_in, exits_of, tasks_of, IsPart, LaunchesClaimed, ExecutorTurn}
use Rattle.member_turns.proofs.ClaimLaws.{tasks-append}
use Rattle.member_turns.proofs.PartLemmas.{all_append, all_map, part_none, part_more, part_wider}
use Rattle.task_host.specs.View.{HostView}

-- What follows a serve is never another serve, a pause, a halt or nothing.
no_claim : (order : Order) (before : List Deed) → [] ≡ Claims (claim.Order order) ∷ before → ⊥
no_claim order before e = cc

serve_claim : (o order : Order) (acts : List Act) (answer : Served) (past before : List Deed) → Serves o acts answer ∷ past ≡ Claims (claim.Order order) ∷ before → ⊥
serve_claim o order acts answer past before e = cc

pause_claim : (order : Order) (past before : List Deed) → Pauses ∷ past ≡ Claims (claim.Order order) ∷ before → ⊥
pause_claim order past before e = cc

halt_claim : (order : Order) (past before : List Deed) → Halts ∷ past ≡ Claims (claim.Order order) ∷ before → ⊥
halt_claim order past before e = cc

same_claim : (c : Claim) (order : Order) (past before : List Deed) → Claims c ∷ past ≡ Claims (claim.Order order) ∷ before → c ≡ claim.Order order
same_claim c order past before e = cc

-- the same launches over more claims
launches_wider : (claimed more : List ClaimedTask) (old now : List ℕ) → LaunchesClaimed claimed old now → LaunchesClaimed (claimed ++ more) old now
launches_wider claimed more old now l = record {
  more = l.more;
  added = l.added;
  part = subst (IsPart l.more) (sym (tasks-append claimed more)) (part_wider l.more (tasks_of claimed) (tasks_of more) l.part);
}

-- one launch more, for one claim more
launches_more : (claimed : List ClaimedTask) (order : Order) (old mid now : List ℕ) → LaunchesClaimed claimed old mid → now ≡ mid ++ order.task ∷ [] → LaunchesClaimed (claimed ++ claimed_as order ∷ []) old now
launches_more claimed order old mid now l is = record {
  more = l.more ++ order.task ∷ [];
  added = is ∙ ap (λ (xs : List ℕ). xs ++ order.task ∷ []) l.added ∙ append_assoc old l.more (order.task ∷ []);
  part = subst (IsPart (l.more ++ order.task ∷ [])) (sym (tasks-append claimed (claimed_as order ∷ []))) (part_more l.more (tasks_of claimed) (order.task ∷ []) l.part);
}

-- Launches come only for claims of this work, each at most once for its claim.
pub work_launches : (looks : ℕ) (past : List Deed) (old now : List ℕ) → IsWork looks past → WorkLaunches past old now → LaunchesClaimed (work_claims past []) old now
work_launches looks [] old now lawful is = record { more = []; added = is ∙ sym (append-nil old); part = part_none }
work_launches looks (Claims c ∷ past) old now lawful is = launches_wider (work_claims past []) (claimed_in c) old now (work_launches looks past old now lawful.1 is)
work_launches looks (Pauses ∷ past) old now lawful is = work_launches looks past old now lawful.1 is
work_launches looks (Halts ∷ past) old now lawful is = work_launches looks past old now lawful.1 is
work_launches looks (Serves order acts answer ∷ []) old now lawful is = absurd (no_claim order lawful.0.0.0 lawful.0.0.1)
work_launches looks (Serves order acts answer ∷ Serves o more a ∷ past) old now lawful is = absurd (serve_claim o order more a past lawful.0.0.0 lawful.0.0.1)
work_launches looks (Serves order acts answer ∷ Pauses ∷ past) old now lawful is = absurd (pause_claim order past lawful.0.0.0 lawful.0.0.1)
work_launches looks (Serves order acts answer ∷ Halts ∷ past) old now lawful is = absurd (halt_claim order past lawful.0.0.0 lawful.0.0.1)
work_launches looks (Serves order acts answer ∷ Claims c ∷ past) old now lawful is =
    let before : LaunchesClaimed (work_claims past []) old is.0 = work_launches looks past old is.0 lawful.1.1 is.1 in
    subst (λ (x : Claim). LaunchesClaimed (work_claims past [] ++ claimed_in x) old now) (sym (same_claim c order past lawful.0.0.0 lawful.0.0.1)) (⊎_elim
    (λ (same : now ≡ is.0). subst (LaunchesClaimed (work_claims past [] ++ claimed_as order ∷ []) old) (sym same) (launches_wider (work_claims past []) (claimed_as order ∷ []) old is.0 before))
    (λ (launched : (now ≡ is.0 ++ order.task ∷ []) × WasDone (made_dir order made.Made) acts). launches_more (work_claims past []) order old is.0 now before launched.0)
    is.2)

-- Each event that is told was reported in this work, with its cause.
abbrev IsCausedOr : Order → ℕ → List Act → (Event → Type 0) → Told → Type 0
IsCausedOr order looks acts Before t = IsCausedIn order looks t.event acts ⊎ Before t.event

added_all : (P : Told → Type 0) (b : Bool) (t : Told) (ts : List Told) → AllAre P ts → P t → AllAre P (added_if b t ts)
added_all P true t ts all one = all_append P ts (t ∷ []) all (one, tt)
added_all P false t ts all one = all

caused_later : (order : Order) (looks : ℕ) (acts : List Act) (Before : Event → Type 0) (e : Event) (answer : Result Taken TakeFault) (t : Told)
    → IsCausedOr order looks acts Before t → IsCausedOr order looks (Reported e answer ∷ acts) Before t
caused_later order looks acts Before e answer t (inl is) = inl (inr is)
caused_later order looks acts Before e answer t (inr is) = inr is

acts_caused : (order : Order) (looks : ℕ) (acts : List Act) (old : List Told) (Before : Event → Type 0) → IsServe order looks acts → AllAre (λ (t : Told). Before t.event) old
    → AllAre (IsCausedOr order looks acts Before) (with_told acts old)
acts_caused order looks [] old Before lawful all = all_map (λ (t : Told). Before t.event) (IsCausedOr order looks [] Before) old (λ t is. inr is) all
acts_caused order looks (Called c ∷ acts) old Before lawful all = acts_caused order looks acts old Before lawful.1 all
acts_caused order looks (Reported e answer ∷ acts) old Before lawful all =
    let before = acts_caused order looks acts old Before lawful.1 all in
    let now = all_map (IsCausedOr order looks acts Before) (IsCausedOr order looks (Reported e answer ∷ acts) Before) (with_told acts old) (caused_later order looks acts Before e answer) before in
    added_all (IsCausedOr order looks (Reported e answer ∷ acts) Before) (is_told answer) (told_as e answer) (with_told acts old) now (inl (inl (refl, lawful.0.0)))

pub work_caused : (looks : ℕ) (past : List Deed) → IsWork looks past → AllAre (λ (t : Told). IsCausedBy looks past t.event) (work_told past [])
work_caused looks [] lawful = tt
work_caused looks (Claims c ∷ past) lawful = work_caused looks past lawful.1
work_caused looks (Pauses ∷ past) lawful = work_caused looks past lawful.1
work_caused looks (Halts ∷ past) lawful = work_caused looks past lawful.1
work_caused looks (Serves order acts answer ∷ past) lawful = acts_caused order looks acts (work_told past []) (IsCausedBy looks past) lawful.0.1 (work_caused looks past lawful.1)

-- Folders are removed only after exits that were accepted.
exits-append : (xs ys : List Told) → exits_of (xs ++ ys) ≡ exits_of xs ++ exits_of ys
exits-append [] ys = refl
exits-append (t ∷ xs) ys = ap (λ (l : List ℕ). exit_in t.accepted t.event ++ l) (exits-append xs ys) ∙ sym (append_assoc (exit_in t.accepted t.event) (exits_of xs) (exits_of ys))

told_wider : (done : List ℕ) (told : List Told) (b : Bool) (t : Told) → IsPart done (exits_of told) → IsPart done (exits_of (added_if b t told))
told_wider done told true t p = subst (IsPart done) (sym (exits-append told (t ∷ []))) (part_wider done (exits_of told) (exits_of (t ∷ [])) p)
told_wider done told false t p = p

nothing_removed : (acts : List Act) (done : List ℕ) (old : List Told) → IsPart (done ++ removed_in acts) (exits_of (with_told acts old)) → IsPart (done ++ (removed_in acts ++ [])) (exits_of (with_told acts old))
nothing_removed acts done old p = subst (λ (l : List ℕ). IsPart (done ++ l) (exits_of (with_told acts old))) (sym (append-nil (removed_in acts))) p

no_report : (e : Event) (answer : Result Taken TakeFault) (before : List Act) → [] ≡ Reported e answer ∷ before → ⊥
no_report e answer before is = cc

call_report : (c : Call) (e : Event) (answer : Result Taken TakeFault) (past before : List Act) → Called c ∷ past ≡ Reported e answer ∷ before → ⊥
call_report c e answer past before is = cc

same_report : (e f : Event) (answer other : Result Taken TakeFault) (past before : List Act) → Reported e answer ∷ past ≡ Reported f other ∷ before → (e ≡ f) × (answer ≡ other)
same_report e f answer other past before is = (cc, cc)

-- the folder of this task is removed directly behind its exit
removal : (order : Order) (code : ℤ) (done : List ℕ) (told : List Told) → IsPart done (exits_of told) → IsPart (done ++ order.task ∷ []) (exits_of (told ++ told_at (exited order code) true ∷ []))
removal order code done told p = subst (IsPart (done ++ order.task ∷ [])) (sym (exits-append told (told_at (exited order code) true ∷ []))) (part_more done (exits_of told) (order.task ∷ []) p)

-- the removals so far, with what came before this serve
acts_removed : (order : Order) (looks : ℕ) (acts : List Act) (done : List ℕ) (old : List Told) → IsServe order looks acts → IsPart done (exits_of old) → IsPart (done ++ removed_in acts) (exits_of (with_told acts old))
acts_removed order looks [] done old lawful p = subst (λ (l : List ℕ). IsPart l (exits_of old)) (sym (append-nil done)) p
acts_removed order looks (Reported e answer ∷ acts) done old lawful p = told_wider (done ++ removed_in acts) (with_told acts old) (is_told answer) (told_as e answer) (acts_removed order looks acts done old lawful.1 p)
acts_removed order looks (Called (call.MakeDir o answer) ∷ acts) done old lawful p = nothing_removed acts done old (acts_removed order looks acts done old lawful.1 p)
acts_removed order looks (Called (call.Start o answer) ∷ acts) done old lawful p = nothing_removed acts done old (acts_removed order looks acts done old lawful.1 p)
acts_removed order looks (Called (call.Look o answer) ∷ acts) done old lawful p = nothing_removed acts done old (acts_removed order looks acts done old lawful.1 p)
acts_removed order looks (Called (call.Read o stream place room given) ∷ acts) done old lawful p = nothing_removed acts done old (acts_removed order looks acts done old lawful.1 p)
acts_removed order looks (Called call.Pause ∷ acts) done old lawful p = nothing_removed acts done old (acts_removed order looks acts done old lawful.1 p)
acts_removed order looks (Called (call.Remove o answer) ∷ []) done old lawful p = absurd (no_report (exited order lawful.0.1.0) (Ok Accepted) lawful.0.1.1 lawful.0.1.2)
acts_removed order looks (Called (call.Remove o answer) ∷ Called c ∷ acts) done old lawful p = absurd (call_report c (exited order lawful.0.1.0) (Ok Accepted) acts lawful.0.1.1 lawful.0.1.2)
acts_removed order looks (Called (call.Remove o answer) ∷ Reported e taken ∷ acts) done old lawful p =
    let code = lawful.0.1.0 in
    let same = same_report e (exited order code) taken (Ok Accepted) acts lawful.0.1.1 lawful.0.1.2 in
    let before : IsPart (done ++ removed_in acts) (exits_of (with_told acts old)) = acts_removed order looks acts done old lawful.1.1 p in
    let one : IsPart ((done ++ removed_in acts) ++ order.task ∷ []) (exits_of (added_if (is_told taken) (told_as e taken) (with_told acts old))) =
    subst (λ (x : Event). IsPart ((done ++ removed_in acts) ++ order.task ∷ []) (exits_of (added_if (is_told taken) (told_as x taken) (with_told acts old)))) (sym same.0)
    (subst (λ (x : Result Taken TakeFault). IsPart ((done ++ removed_in acts) ++ order.task ∷ []) (exits_of (added_if (is_told x) (told_as (exited order code) x) (with_told acts old)))) (sym same.1)
    (removal order code (done ++ removed_in acts) (with_told acts old) before)) in
    subst (λ (l : List ℕ). IsPart l (exits_of (added_if (is_told taken) (told_as e taken) (with_told acts old))))
    (append_assoc done (removed_in acts) (order.task ∷ []) ∙ ap (λ (x : Order). done ++ (removed_in acts ++ x.task ∷ [])) (sym lawful.0.0)) one

pub work_removed : (looks : ℕ) (past : List Deed) → IsWork looks past → IsPart (removed past) (exits_of (work_told past []))
work_removed looks [] lawful = part_none
work_removed looks (Claims c ∷ past) lawful = work_removed looks past lawful.1
work_removed looks (Pauses ∷ past) lawful = work_removed looks past lawful.1
work_removed looks (Halts ∷ past) lawful = work_removed looks past lawful.1
work_removed looks (Serves order acts answer ∷ past) lawful = acts_removed order looks acts (removed past) (work_told past []) lawful.0.1 (work_removed looks past lawful.1)

module _ {H : Type 0} (host : HostView H) where
  -- An executor's work over a gate that was new is a turn.
  pub executor_turn : (number looks : ℕ) (honest : Type 0) (own : List Entry) (gate_calls : List GateCall) (said : Said) (is_open : Bool) (old now : H) (worked : Worked)
      → Works number looks honest (telling host (λ t. t) old (tells_of [] [] Nothing false)) (telling host (λ t. t) now (tells_of own gate_calls said is_open)) worked
      → ExecutorTurn number looks honest own gate_calls (host.calls old) (host.calls now) (on_host host old) (on_host host now) worked
  executor_turn number looks honest own gate_calls said is_open old now worked w =
      let so = w.so_far in
      record {
        past = w.past;
        lawful = so.lawful;
        orders = so.own refl;
        called = so.calls;
        told = so.told;
        reports = so.reports;
        claimed = so.claimed;
        ends = w.ends;
        launched = subst (λ (c : List ClaimedTask). LaunchesClaimed c (host.launches old) (host.launches now)) (sym so.claimed) (work_launches looks w.past (host.launches old) (host.launches now) so.lawful so.launched);
        caused = subst (AllAre (λ (t : Told). IsCausedBy looks w.past t.event)) (sym so.told) (work_caused looks w.past so.lawful);
        removals = subst (λ (t : List Told). IsPart (removed w.past) (exits_of t)) (sym so.told) (work_removed looks w.past so.lawful);
        on_host = so.on_host;
        delivered = w.delivered;
      }
