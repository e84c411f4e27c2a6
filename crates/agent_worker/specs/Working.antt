-- What an executor's work is: claims, the serves of the orders that they gave, and pauses; the latest first.
use Rattle.std.specs.Prelude.{◌≡◌, ◌⊎◌, ◌∷◌, ◌++◌, [], List, ℕ, ℤ, Option, IsSome}
use Rattle.task_host.specs.Host.{GoesOn}
use Rattle.task_host.specs.declared.call.Call.TheVariants as call
use Rattle.agent_worker.specs.Types.{Order, Stream, Call}
use Rattle.agent_worker.specs.declared.gate.Claim.{Claim}
use Rattle.agent_worker.specs.declared.gate.Claim.TheVariants as claim
use Rattle.agent_worker.specs.declared.gate.GateCall.{GateCall}
use Rattle.agent_worker.specs.declared.gate.GateCall.TheVariants as gate_call
use Rattle.agent_worker.specs.declared.gate.Said.{Said}
use Rattle.agent_worker.specs.declared.gate.Said.TheVariants as says
use Rattle.agent_worker.specs.declared.task.Served.{Served}
use Rattle.agent_worker.specs.declared.task.Served.TheVariants as served
use Rattle.agent_worker.specs.declared.worked.Worked.{Worked}
use Rattle.agent_worker.specs.declared.worked.Worked.TheVariants as worked
use Rattle.agent_worker.specs.Gate.{Told, Claimed, GateTells, claimed_in, claim_said, Becomes}
use Rattle.agent_worker.specs.Acts.{Act, with_calls, with_told, with_reports, said_after}
use Rattle.agent_worker.specs.Serving.{IsServe, EndsFor}
use Rattle.agent_worker.specs.Delivering.{Delivers}
use Rattle.agent_worker.specs.Serve.{Tasks, tasks_at, LaunchesOnce, KeepsTasks}
use Rattle.task_host.specs.View.{HostView}

-- A claim with its answer; a serve of an order, with what was done and how it ended; a pause on the host; a halt.
pub data Deed : Type 0 where
  Claims : Claim → Deed
  Serves : Order → List Act → Served → Deed
  Pauses : Deed
  Halts : Deed

-- the list of a host's calls after this
abbrev pub work_calls : List Deed → List Call → List Call
work_calls [] old = old
work_calls (Claims claim ∷ past) old = work_calls past old
work_calls (Serves order acts answer ∷ past) old = with_calls acts (work_calls past old)
work_calls (Pauses ∷ past) old = work_calls past old ++ call.Pause ∷ []
work_calls (Halts ∷ past) old = work_calls past old

-- the list of events that a gate tells after this
abbrev pub work_told : List Deed → List Told → List Told
work_told [] old = old
work_told (Claims claim ∷ past) old = work_told past old
work_told (Serves order acts answer ∷ past) old = with_told acts (work_told past old)
work_told (Pauses ∷ past) old = work_told past old
work_told (Halts ∷ past) old = work_told past old

-- the list of a gate's calls after this, for this executor
abbrev pub work_reports : ℕ → List Deed → List GateCall → List GateCall
work_reports number [] old = old
work_reports number (Claims claim ∷ past) old = work_reports number past old ++ gate_call.Claim number claim ∷ []
work_reports number (Serves order acts answer ∷ past) old = with_reports acts (work_reports number past old)
work_reports number (Pauses ∷ past) old = work_reports number past old
work_reports number (Halts ∷ past) old = work_reports number past old ++ gate_call.Halt ∷ []

-- what a gate said last after this
abbrev pub work_said : List Deed → Said → Said
work_said [] old = old
work_said (Claims claim ∷ past) old = says.Claim (claim_said claim)
work_said (Serves order acts answer ∷ past) old = said_after acts (work_said past old)
work_said (Pauses ∷ past) old = work_said past old
work_said (Halts ∷ past) old = says.Halt

-- the list of claimed orders after this
abbrev pub work_claims : List Deed → List Claimed → List Claimed
work_claims [] old = old
work_claims (Claims claim ∷ past) old = work_claims past old ++ claimed_in claim
work_claims (Serves order acts answer ∷ past) old = work_claims past old
work_claims (Pauses ∷ past) old = work_claims past old
work_claims (Halts ∷ past) old = work_claims past old

-- every order that was served is of this executor
abbrev pub AreOf : ℕ → List Deed → Type 0
AreOf number [] = Unit {0}
AreOf number (Claims claim ∷ past) = AreOf number past
AreOf number (Serves order acts answer ∷ past) = (order.executor ≡ number) × AreOf number past
AreOf number (Pauses ∷ past) = AreOf number past
AreOf number (Halts ∷ past) = AreOf number past

-- A claim may be made: first, after a pause, and after a serve that left the build going on.
pub data MayClaim : List Deed → Type 0 where
  First : MayClaim []
  Paused : (past : List Deed) → MayClaim (Pauses ∷ past)
  Done : (order : Order) (acts : List Act) (past : List Deed) → MayClaim (Serves order acts served.Done ∷ past)
  Finished : (order : Order) (acts : List Act) (past : List Deed) → MayClaim (Serves order acts served.Finished ∷ past)

-- a claim that gave no task, whether others are at work or nobody is
abbrev pub GivesNone : Claim → Type 0
GivesNone (claim.Idle busy) = Unit {0}
GivesNone claim.Rest = Unit {0}
GivesNone given = ⊥

-- What may be done after this: an order is served only directly after the claim that gave it; a pause comes only where a
-- claim gave no task; a halt only where memory was wanting.
abbrev pub MayWork : ℕ → List Deed → Deed → Type 0
MayWork looks past (Claims claim) = MayClaim past
MayWork looks past (Serves order acts answer) = ((before : List Deed) × (past ≡ Claims (claim.Order order) ∷ before)) × IsServe order looks acts × EndsFor order acts answer
MayWork looks past Pauses = (given : Claim) × (before : List Deed) × GivesNone given × (past ≡ Claims given ∷ before)
MayWork looks past Halts = (before : List Deed) × ((past ≡ Claims claim.Memory ∷ before) ⊎ ((order : Order) × (acts : List Act) × (past ≡ Serves order acts served.Memory ∷ before)))

-- All of it may be done.
abbrev pub IsWork : ℕ → List Deed → Type 0
IsWork looks [] = Unit {0}
IsWork looks (deed ∷ past) = MayWork looks past deed × IsWork looks past

-- Why the work ended.
abbrev pub WorkEnds : List Deed → Worked → Type 0
WorkEnds past worked.Rest = (before : List Deed) × (past ≡ Claims claim.Rest ∷ before)
WorkEnds past worked.Stopped = (before : List Deed) × ((past ≡ Claims claim.Stopped ∷ before) ⊎ ((order : Order) × (acts : List Act) × (past ≡ Serves order acts served.Stopped ∷ before)))
WorkEnds past worked.Memory = (before : List Deed) × (past ≡ Halts ∷ before)
WorkEnds past worked.AnswersFailed = ⊥

-- what the work does to the launches of a host, honest or not
abbrev pub WorkLaunches : List Deed → List ℕ → List ℕ → Type 0
WorkLaunches [] old now = now ≡ old
WorkLaunches (Claims claim ∷ past) old now = WorkLaunches past old now
WorkLaunches (Serves order acts answer ∷ past) old now = (mid : List ℕ) × WorkLaunches past old mid × LaunchesOnce order acts mid now
WorkLaunches (Pauses ∷ past) old now = WorkLaunches past old now
WorkLaunches (Halts ∷ past) old now = WorkLaunches past old now

-- the launches and folders of a host, and what its tasks have written and have ended with
pub record OnHost : Type 0 where
  pub tasks : Tasks
  pub output : ℕ → Stream → List ℕ
  pub exited : ℕ → Option ℤ

-- What a serve does to an honest host: to its launches and folders as `KeepsTasks` says; what was accepted of the output
-- stands there; and no other task writes or ends.
pub record ServesOnHost (order : Order) (acts : List Act) (old now : OnHost) : Type 0 where
  pub kept : KeepsTasks order acts old.tasks now.tasks
  pub delivers : Delivers order acts (now.output order.task) (now.exited order.task)
  pub goes_on : GoesOn order.task old.exited now.exited old.output now.output

-- what the work does to an honest host: one serve after the other, and nothing between them
abbrev pub WorksOnHost : List Deed → OnHost → OnHost → Type 0
WorksOnHost [] old now = now ≡ old
WorksOnHost (Claims claim ∷ past) old now = WorksOnHost past old now
WorksOnHost (Serves order acts answer ∷ past) old now = (mid : OnHost) × WorksOnHost past old mid × ServesOnHost order acts mid now
WorksOnHost (Pauses ∷ past) old now = WorksOnHost past old now
WorksOnHost (Halts ∷ past) old now = WorksOnHost past old now

-- What was accepted in each of its serves stands on the host.
abbrev pub AllDelivered : List Deed → OnHost → Type 0
AllDelivered [] host = Unit {0}
AllDelivered (Claims claim ∷ past) host = AllDelivered past host
AllDelivered (Serves order acts answer ∷ past) host = Delivers order acts (host.output order.task) (host.exited order.task) × AllDelivered past host
AllDelivered (Pauses ∷ past) host = AllDelivered past host
AllDelivered (Halts ∷ past) host = AllDelivered past host

-- What host and gate tell of it, and what stands on the host.
pub record Telling : Type 0 where
  pub calls : Option (List Call)
  pub told : Option (List Told)
  pub reports : Option (List GateCall)
  pub said : Said
  pub claimed : Option (List Claimed)
  pub host : OnHost

-- What was done so far, from the beginning of an executor's work.
pub record WorksSoFar (number looks : ℕ) (honest : Type 0) (old now : Telling) (past : List Deed) : Type 0 where
  pub calls : Becomes (work_calls past) old.calls now.calls
  pub told : Becomes (work_told past) old.told now.told
  pub reports : Becomes (work_reports number past) old.reports now.reports
  pub said : now.said ≡ work_said past old.said
  pub claimed : Becomes (work_claims past) old.claimed now.claimed
  pub lawful : IsWork looks past
  -- the orders are of this executor, where the gate tells its claims
  pub own : IsSome now.claimed → AreOf number past
  pub launched : WorkLaunches past old.host.tasks.launches now.host.tasks.launches
  pub on_host : honest → WorksOnHost past old.host now.host

-- An executor's work.
pub record Works (number looks : ℕ) (honest : Type 0) (old now : Telling) (answer : Worked) : Type 0 where
  pub past : List Deed
  pub so_far : WorksSoFar number looks honest old now past
  pub ends : WorkEnds past answer
  -- what any of its serves delivered still stands at the end
  pub delivered : honest → AllDelivered past now.host

module _ {H : Type 0} where
  -- what stands on a host, by what it tells
  abbrev pub on_host : HostView H → H → OnHost
  on_host host machine = record { tasks = tasks_at (host.launches machine) (host.dirs machine); output = host.output machine; exited = host.exited machine }

module _ {H G : Type 0} where
  -- this moment, by what host and gate tell
  abbrev pub telling : HostView H → (G → GateTells) → H → G → Telling
  telling host tells machine gate =
      record { calls = host.calls machine; told = (tells gate).told; reports = (tells gate).calls; said = (tells gate).said; claimed = (tells gate).claimed; host = on_host host machine }
