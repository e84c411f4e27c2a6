-- What an executor's turn was, by the entries that it left in the history (this product's own).
use Rattle.std.specs.Prelude.{◌≡◌, ◌⊎◌, ℕ, Bool, true, false, List, [], ◌∷◌, ◌++◌, map, Option}
use Rattle.std.specs.List.{AllByRecursion as AllAre}
use Rattle.program_lock.specs.Merge.{IsMergeOf}
use Rattle.model_run.specs.declared.event.Event.{Event}
use Rattle.model_run.specs.declared.event.Event.TheVariants.{Start, Granted, Output, Exited, Lost, Decided}
use Rattle.task_host.specs.declared.call.Call.{Call}
use Rattle.task_host.specs.declared.call.Call.TheVariants as call
use Rattle.task_host.specs.declared.order.Order.{Order}
use Rattle.agent_worker.specs.declared.gate.GateCall.{GateCall}
use Rattle.agent_worker.specs.declared.worked.Worked.{Worked}
use Rattle.agent_worker.specs.Acts.{Act, Called, Reported}
use Rattle.agent_worker.specs.Causes.{IsCaused}
use Rattle.agent_worker.specs.Gate.{Told, Claimed as ClaimedTask, Becomes}
use Rattle.agent_worker.specs.Working.{Deed, Claims, Serves, Pauses, Halts, IsWork, AreOf, WorkEnds, WorksOnHost, AllDelivered, OnHost, work_calls, work_told, work_reports, work_claims}
use Rattle.locked_build.specs.declared.ask.Entry.{Entry}
use Rattle.member_turns.specs.Tales.{told_of, claimed_of}

-- the event was reported among these acts, and what was done before it is its cause
abbrev pub IsCausedIn : Order → ℕ → Event → List Act → Type 0
IsCausedIn order looks e [] = ⊥
IsCausedIn order looks e (Called c ∷ past) = IsCausedIn order looks e past
IsCausedIn order looks e (Reported other answer ∷ past) = ((other ≡ e) × IsCaused order looks past e) ⊎ IsCausedIn order looks e past

-- in one of the serves of this work
abbrev pub IsCausedBy : ℕ → List Deed → Event → Type 0
IsCausedBy looks [] e = ⊥
IsCausedBy looks (Claims claim ∷ past) e = IsCausedBy looks past e
IsCausedBy looks (Serves order acts answer ∷ past) e = IsCausedIn order looks e acts ⊎ IsCausedBy looks past e
IsCausedBy looks (Pauses ∷ past) e = IsCausedBy looks past e
IsCausedBy looks (Halts ∷ past) e = IsCausedBy looks past e

-- the tasks whose folders the host was told to remove
abbrev pub removed_by : Call → List ℕ
removed_by (call.Remove order answer) = order.task ∷ []
removed_by (call.MakeDir order answer) = []
removed_by (call.Start order answer) = []
removed_by (call.Look order answer) = []
removed_by (call.Read order stream place room given) = []
removed_by call.Pause = []

abbrev pub removed_in : List Act → List ℕ
removed_in [] = []
removed_in (Called c ∷ past) = removed_in past ++ removed_by c
removed_in (Reported event answer ∷ past) = removed_in past

abbrev pub removed : List Deed → List ℕ
removed [] = []
removed (Claims claim ∷ past) = removed past
removed (Serves order acts answer ∷ past) = removed past ++ removed_in acts
removed (Pauses ∷ past) = removed past
removed (Halts ∷ past) = removed past

-- the task that an event says has exited, where the event was accepted
abbrev pub exit_in : Bool → Event → List ℕ
exit_in true (Exited task code) = task ∷ []
exit_in true (Start script agents) = []
exit_in true (Granted request executor) = []
exit_in true (Output task stream place bytes) = []
exit_in true (Lost task why) = []
exit_in true (Decided request proceed name) = []
exit_in false e = []

abbrev pub exits_of : List Told → List ℕ
exits_of [] = []
exits_of (t ∷ ts) = exit_in t.accepted t.event ++ exits_of ts

-- the numbers of claimed tasks
abbrev pub tasks_of : List ClaimedTask → List ℕ
tasks_of claimed = map (λ (c : ClaimedTask). c.task) claimed

-- the first stand among the second, each once and in their order
abbrev pub IsPart : List ℕ → List ℕ → Type 0
IsPart xs zs = (others : List ℕ) × IsMergeOf xs others zs

-- What was added to the launches of a host are claimed tasks, each once for its claim.
pub record LaunchesClaimed (claimed : List ClaimedTask) (old now : List ℕ) : Type 0 where
  pub more : List ℕ
  pub added : now ≡ old ++ more
  pub part : IsPart more (tasks_of claimed)

-- An executor's turn: what it did, the latest first, is what its entries and its host's list of calls tell.
pub record ExecutorTurn (number looks : ℕ) (honest : Type 0) (own : List Entry) (gate_calls : List GateCall) (old_calls calls : Option (List Call)) (old now : OnHost) (worked : Worked) : Type 0 where
  pub past : List Deed
  pub lawful : IsWork looks past
  pub orders : AreOf number past
  pub called : Becomes (work_calls past) old_calls calls
  pub told : told_of own ≡ work_told past []
  -- its claims with the orders that they gave, its reports and its halts are the calls of its gate
  pub reports : gate_calls ≡ work_reports number past []
  pub claimed : claimed_of own ≡ work_claims past []
  pub ends : WorkEnds past worked
  -- a task is launched only after its claim, and at most once for it
  pub launched : LaunchesClaimed (claimed_of own) old.tasks.launches now.tasks.launches
  -- every event that was taken, or that the disk or the limit kept, has its cause
  pub caused : AllAre (λ (t : Told). IsCausedBy looks past t.event) (told_of own)
  -- a folder is removed only after the exit of its task was accepted, at most once for it
  pub removals : IsPart (removed past) (exits_of (told_of own))
  -- what it did to an honest host
  pub on_host : honest → WorksOnHost past old now
  pub delivered : honest → AllDelivered past now
