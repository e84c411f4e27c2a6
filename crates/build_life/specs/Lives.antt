-- How a life with hosts ended, and what it was (this product's own).
use Rattle.std.specs.Prelude.{◌≡◌, ◌≤◌, ◌⊎◌, ◌+◌, ℕ, ℤ, nat_eq, true, false, List, [], ◌∷◌, ◌++◌, length, Option, None, IfOk, IfSome, Result, Ok, Err}
use Rattle.program_lock.specs.declared.program.Memory.{Memory}
use Rattle.program_lock.specs.Legal.{Answers}
use Rattle.task_host.specs.declared.call.Call.{Call}
use Rattle.task_host.specs.declared.order.Stream.{Stream}
use Rattle.journal_core.specs.declared.faults.TakeFault.{TakeFault}
use Rattle.agent_worker.specs.declared.member.Member.{Member}
use Rattle.build_store.specs.Lower.durable_build.Standing.{Kept, Keeps}
use Rattle.jp_disk.specs.Runs.{AtEachMoment}
use Rattle.model_run.specs.declared.event.Event.{Event}
use Rattle.model_run.specs.declared.taken.Taken.TheVariants.{Accepted}
use Rattle.model_run.specs.State.{Setting}
use Rattle.model_run.specs.World.{answer_to, world_in}
use Rattle.settle_laws.specs.Stances.{Stance}
use Rattle.build_life.specs.declared.resting.Rest.{Rest}
use Rattle.build_store.specs.Lives.{Lasts, Fails}
use Rattle.member_turns.specs.Lower.locked_build.declared.ask.Ask.{Ask}
use Rattle.member_turns.specs.Lower.locked_build.declared.ask.Entry.{Entry}
use Rattle.member_turns.specs.Lower.locked_build.declared.ask.Progress.{Progress}
use Rattle.member_turns.specs.Lower.locked_build.declared.ask.Reply.{Reply}
use Rattle.member_turns.specs.Lower.locked_build.Histories.{kept_fault, lines, tooks}
use Rattle.member_turns.specs.Lives.{Life, LifeOf}
use Rattle.member_turns.specs.Rounds.{turns_of}
use Rattle.member_turns.specs.Turns.{Turn, Explains, HoldsOfOne}
use Rattle.build_life.specs.Ending.{RestsWith, ended_as}
use Rattle.build_life.specs.Going.{Comes, GoesBy}
use Rattle.build_life.specs.Replies.{replies}
use Rattle.build_life.specs.Telling.{AreHeard, ClaimedInTime, HeardInTime, IsOrderOf, orders_in}
use Rattle.member_turns.specs.Coming.{EachIs}
use Rattle.member_turns.specs.Waiting.{operators}
use Rattle.build_life.specs.Serving.{AreHonest, AllFit, hosts_of}
use Rattle.launch_laws.specs.Fitting as fitting
use Rattle.launch_laws.specs.Fitting.{AreApart, ExecutorHost, all_launches}
use Rattle.std.specs.List.{AllByRecursion as AllAre, IsDistinct}
use Rattle.member_turns.specs.Tales.{is_grant}
use Rattle.member_turns.specs.Lower.locked_build.Facts.{Facts, HasFront}
use Rattle.member_turns.specs.Lower.locked_build.Grants.{Grants}
use Rattle.jp_disk.specs.View.{DiskView}
use Rattle.task_host.specs.View.{HostView}
use Rattle.jp_io.specs.View.{SourceView}

-- A store that kept these records, whatever they tell, has them still, and perhaps others behind them; the build stands by the last of all.
-- At each moment in between a crash leaves them and a front of the others.
abbrev pub KeepsOn : {D T : Type 0} → DiskView D → (T → Stance) → Kept D T → Kept D T → List (List ℕ) → Type 0
KeepsOn disk stance old now payloads =
    (more : List (List ℕ)) × Keeps disk stance now (payloads ++ more) × AtEachMoment disk old.journal.disk now.journal.disk (HasFront payloads more)

module _ {D T : Type 0} (disk : DiskView D) (stance : T → Stance) (setting : Setting) (entry : Option (List ℕ)) (origin : D) (before : List Event) where
  -- It rests behind these events for this reason: the store has them, and the build goes on from them.
  pub record RestsBehind {H A : Type 0} (now : List Event) (rest : Rest) (members : List (Member H A)) (kept : Kept D T) : Type 0 where
    pub lasts : Lasts disk stance setting entry origin before now kept
    pub rests : RestsWith rest setting (world_in setting now) members

  -- It broke off behind these events by this fault. The event that was not taken came next, for this reason; and it is a grant of the build, or a
  -- member asked for it.
  pub record BreaksBehind (Refused : Event → Type 0) (now : List Event) (fault : TakeFault) (kept : Kept D T) : Type 0 where
    pub fails : Fails disk stance setting entry origin before now fault kept
    pub caused : IfSome fails.refused (λ e. ((is_grant e ≡ true) ⊎ Refused e) × ((heard : List (List ℕ)) × Comes setting Refused now e heard))

  -- the one or the other
  abbrev pub EndsBehind : {H A : Type 0} → (Event → Type 0) → List Event → List (Member H A) → Kept D T → Result Rest TakeFault → Type 0
  EndsBehind Refused now members kept (Ok rest) = RestsBehind now rest members kept
  EndsBehind Refused now members kept (Err fault) = BreaksBehind Refused now fault kept

  -- The opening of a life was refused: one of the grants that a stop had left out failed, or memory was wanted. Hosts that fitted the events fit
  -- them still, behind the grants that were made, and with one event more that is accepted.
  pub record OpeningBreaks (events : List Event) (fault : TakeFault) (state : D) : Type 0 where
    pub granted : List Event
    pub are_grants : AllAre (λ e. is_grant e ≡ true) granted
    pub goes : GoesBy setting (λ e. ⊥) events (events ++ granted) []
    pub kept : Kept D T
    pub same : state ≡ kept.journal.disk
    pub breaks : BreaksBehind (λ e. ⊥) (events ++ granted) fault kept
    pub fits : (hosts : List ExecutorHost) → fitting.AllFit setting events hosts → fitting.AllFit setting (events ++ granted) hosts
    pub fits_next : (hosts : List ExecutorHost) → fitting.AllFit setting events hosts → (e : Event) → answer_to setting (world_in setting (events ++ granted)) e ≡ Accepted
        → fitting.AllFit setting ((events ++ granted) ++ e ∷ []) hosts

module _ {D T H A : Type 0} (disk : DiskView D) (stance : T → Stance)
    (host : HostView H) (source : SourceView A) (looks : ℕ) where
  -- In one of these turns the event was taken, or kept from the disk by a fault: an executor reported it with its cause, or a line that the
  -- operator read and gave decides it.
  abbrev pub IsReported : List (Turn H A) → Event → Type 0
  IsReported turns e = HoldsOfOne (Explains host source looks true e) turns

  abbrev pub IsRefused : List (Turn H A) → Event → Type 0
  IsRefused turns e = HoldsOfOne (Explains host source looks false e) turns

  -- From these events on: those at its end, how they came, how it ended, and that honest hosts which fitted the events fit those, so that on the
  -- hosts of different executors no task was launched twice, in this life and all before it.
  pub record Ends (turns : List (Turn H A)) (durable : Kept D T) (setting : Setting) (entry : Option (List ℕ)) (origin : D) (before events : List Event) (old new : List (Member H A)) (history : List Entry) (kept : Kept D T) (ended : Result Rest TakeFault) : Type 0 where
    -- those at the end are those at the beginning, the grants that a stop had left out, and those of the history
    pub granted : List Event
    pub are_grants : AllAre (λ e. is_grant e ≡ true) granted
    pub now : List Event
    pub is : now ≡ (events ++ granted) ++ tooks history
    -- and there is one record more for each event behind those at the beginning
    pub counted : kept.records ≡ durable.records + (length granted + length (tooks history))
    pub goes : GoesBy setting (IsReported turns) events now (lines history)
    -- the turns are those of a life to which the build of these events replied
    pub led : LifeOf host source looks (replies setting) (events ++ granted) old new turns history
    -- each task was claimed while it was open, for its executor
    pub claims : EachIs (ClaimedInTime setting (events ++ granted)) [] history
    -- each order that an executor was given is that of a task which was open then
    pub orders : AllAre (λ (turn : Turn H A). AllAre (IsOrderOf setting (events ++ granted) (tooks history)) (orders_in turn.calls)) turns
    -- each line was heard only where an input was open since the line before it
    pub in_time : operators old ≤ 1 → EachIs (HeardInTime setting (events ++ granted)) [] history
    pub ends : EndsBehind disk stance setting entry origin before (IsRefused turns) now new kept ended
    pub fits : AreHonest host old → AllFit host setting events old → AllFit host setting now new
    -- and with one event more that is accepted, as that which the disk may have though its take failed
    pub fits_next : AreHonest host old → AllFit host setting events old → (e : Event) → answer_to setting (world_in setting now) e ≡ Accepted → AllFit host setting (now ++ e ∷ []) new
    -- and so do other hosts, that no member has
    pub others : (hosts : List ExecutorHost) → fitting.AllFit setting events hosts → fitting.AllFit setting now hosts
    pub others_next : (hosts : List ExecutorHost) → fitting.AllFit setting events hosts → (e : Event) → answer_to setting (world_in setting now) e ≡ Accepted → fitting.AllFit setting (now ++ e ∷ []) hosts
    pub once : AreHonest host old → AllFit host setting events old → AreApart (hosts_of host old) → IsDistinct nat_eq (all_launches (hosts_of host new))

  -- A life over this build: the state that was opened, behind the grants that a stop had left out, what its members did, and how that ended; and
  -- what came of it, from whichever events the store had. `value` is the build at the base of the history.
  pub record LivesOn {B : Type 0} (value : B → Kept D T) (answers : Answers B Entry Ask Reply) (durable : Kept D T) (old new : List (Member H A)) (base : B) (history : List Entry) (kept : Kept D T) (ended : Result Rest TakeFault) : Type 0 where
    pub opened : (made : List Entry) × Grants stance durable.build made × (kept_fault made ≡ None) × Facts disk stance durable (value base) made
    pub how : Result Progress Memory
    pub life : Life host source looks answers base base old new history how
    pub told : ended ≡ ended_as (kept_fault history) how new
    -- where the life rests, which lines were heard
    pub heard : IfOk ended (λ rest. ∥ AreHeard source (lines history) old new ∥₁)
    -- what is known of the store from before the opening to the end, whatever its records tell
    pub whole : ∥ Facts disk stance durable kept (opened.0 ++ history) ∥₁
    pub comes : (setting : Setting) (entry : Option (List ℕ)) (origin : D) (before events : List Event) → Lasts disk stance setting entry origin before events durable
        → ∥ Ends (turns_of life.rounds ++ life.last) durable setting entry origin before events old new history kept ended ∥₁
