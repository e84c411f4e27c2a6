-- What a serve does: each thing that it does may follow what it did before, and it ends for a reason.
use Rattle.std.specs.Prelude.{◌≡◌, ◌≢◌, ◌⊎◌, ◌∷◌, [], List, ℕ, ℤ, true, Result, Ok, Err}
use Rattle.device_faults.specs.declared.faults.Failed.{Failed}
use Rattle.agent_worker.specs.Types.{Event, ExitedEvent, LostEvent, Taken, Accepted, NotOpen, WrongPlace, Finished}
use Rattle.agent_worker.specs.Types.{Why, Order, Stream}
use Rattle.task_host.specs.declared.call.Call.TheVariants as call
use Rattle.task_host.specs.declared.answers.Made.TheVariants as made
use Rattle.task_host.specs.declared.answers.Started.TheVariants as start
use Rattle.journal_core.specs.declared.faults.TakeFault.{TakeFault}
use Rattle.journal_core.specs.declared.faults.TakeFault.TheVariants as take_fault
use Rattle.agent_worker.specs.declared.task.Served.{Served}
use Rattle.agent_worker.specs.declared.task.Served.TheVariants as served
use Rattle.agent_worker.specs.Sizes.{piece_size}
use Rattle.agent_worker.specs.Acts.{Act, Called, Reported, HasStream, kept, unreported, bytes_of, is_output, made_dir, started, paused}
use Rattle.agent_worker.specs.Causes.{IsReadThrough, IsReadNext, IsCaused}

-- The beginning of a serve: the folder was made and the task started, or the folder was there or may be.
pub data Opened (order : Order) : List Act → Type 0 where
  Starts : Opened order (started order start.Started ∷ made_dir order made.Made ∷ [])
  Exists : Opened order (made_dir order made.Exists ∷ [])
  Fails : Opened order (made_dir order made.Failed ∷ [])

-- A turn may begin: after the beginning, and after a pause.
abbrev pub MayLook : Order → List Act → Type 0
MayLook order past = Opened order past ⊎ ((before : List Act) × (past ≡ paused ∷ before))

-- A turn is on: a look came, and since then only reads, and reports of output that were accepted.
abbrev pub IsInTurn : List Act → Type 0
IsInTurn [] = ⊥
IsInTurn (Called (call.Look order answer) ∷ past) = Unit {0}
IsInTurn (Called (call.Read order stream «from» room answer) ∷ past) = IsInTurn past
IsInTurn (Called (call.MakeDir order answer) ∷ past) = ⊥
IsInTurn (Called (call.Start order answer) ∷ past) = ⊥
IsInTurn (Called call.Pause ∷ past) = ⊥
IsInTurn (Called (call.Remove order answer) ∷ past) = ⊥
IsInTurn (Reported event answer ∷ past) = (is_output event ≡ true) × (answer ≡ Ok Accepted) × IsInTurn past

-- A report may come: within a turn, or directly behind a start that failed.
abbrev pub MayReport : Order → List Act → Type 0
MayReport order past = IsInTurn past ⊎ (past ≡ started order start.Failed ∷ made_dir order made.Made ∷ [])

-- The last events of a task.
abbrev pub exited : Order → ℤ → Event
exited order code = ExitedEvent order.task code

-- the loss of the task
abbrev pub lost : Order → Why → Event
lost order why = LostEvent order.task why

-- No last event has a cause: the serve goes on.
pub record HasNoEnd (order : Order) (looks : ℕ) (past : List Act) : Type 0 where
  pub not_exited : (code : ℤ) → IsCaused order looks past (exited order code) → ⊥
  pub not_lost : (why : Why) → IsCaused order looks past (lost order why) → ⊥

-- What may be done after this past. Every call is on the order, and every report has its cause: the folder is made
-- first; the task is started only where its folder was made, and nothing else may follow then; a look comes behind that
-- beginning, and behind a pause; reads come within a turn, from kept places, first those of the log, each stream until a
-- read of it gave no byte; what a read gave is reported before anything else is done; a pause ends a turn in which every stream was read until a read gave no byte, and no last event has a
-- cause; behind a last event, and behind output that was not accepted, nothing comes, but for the removal of the folder
-- after the exit was accepted. (This product's own rule.)
abbrev pub MayDo : Order → ℕ → List Act → Act → Type 0
MayDo order looks past (Called (call.MakeDir o answer)) = (o ≡ order) × (past ≡ [])
MayDo order looks past (Called (call.Start o answer)) = (o ≡ order) × (past ≡ made_dir order made.Made ∷ [])
MayDo order looks past (Called (call.Look o answer)) = (o ≡ order) × MayLook order past
MayDo order looks past (Called (call.Read o stream «from» room answer)) = (o ≡ order) × HasStream order stream × («from» ≡ kept order stream past) × (room ≡ piece_size) × (unreported past ≡ []) × IsInTurn past × IsReadNext order stream past
MayDo order looks past (Called call.Pause) = HasNoEnd order looks past × (unreported past ≡ []) × IsInTurn past × ((stream : Stream) → HasStream order stream → IsReadThrough order stream (kept order stream past) past)
MayDo order looks past (Called (call.Remove o answer)) = (o ≡ order) × ((code : ℤ) × (before : List Act) × (past ≡ Reported (exited order code) (Ok Accepted) ∷ before))
MayDo order looks past (Reported event answer) = IsCaused order looks past event × (unreported past ≡ bytes_of event) × MayReport order past

-- All of it may be done.
abbrev pub IsServe : Order → ℕ → List Act → Type 0
IsServe order looks [] = Unit {0}
IsServe order looks (act ∷ past) = MayDo order looks past act × IsServe order looks past

-- The last report was answered so, but for a removal after it.
pub record EndsBy (order : Order) (event : Event) (answer : Result Taken TakeFault) (past : List Act) : Type 0 where
  pub before : List Act
  pub is : (past ≡ Reported event answer ∷ before)
      ⊎ ((removed : Result (Unit {0}) Failed) × (past ≡ Called (call.Remove order removed) ∷ Reported event answer ∷ before))

-- the exit was reported, and accepted
abbrev pub ExitTaken : Order → List Act → Type 0
ExitTaken order past = (code : ℤ) × EndsBy order (exited order code) (Ok Accepted) past

-- Why a serve ended: its exit was accepted, and then its folder was to be removed, whatever came of that; its loss was
-- accepted, and the folder is left; or its last report was not accepted. (This product's own rule.)
abbrev pub EndsFor : Order → List Act → Served → Type 0
EndsFor order past served.Done =
    ((code : ℤ) × (removed : Result (Unit {0}) Failed) × (before : List Act) × (past ≡ Called (call.Remove order removed) ∷ Reported (exited order code) (Ok Accepted) ∷ before))
    ⊎ ((why : Why) × (before : List Act) × (past ≡ Reported (lost order why) (Ok Accepted) ∷ before))
EndsFor order past served.Finished = (event : Event) × (taken : Taken) × (before : List Act) × (past ≡ Reported event (Ok taken) ∷ before) × (taken ≢ Accepted)
EndsFor order past served.Stopped = (event : Event) × (fault : TakeFault) × (before : List Act) × (past ≡ Reported event (Err fault) ∷ before) × (fault ≢ take_fault.Memory)
EndsFor order past served.Memory = Unit {0}

-- how a serve ends by the answer to its last report
abbrev pub served_by : Result Taken TakeFault → Served
served_by (Ok Accepted) = served.Done
served_by (Ok NotOpen) = served.Finished
served_by (Ok (WrongPlace place)) = served.Finished
served_by (Ok Finished) = served.Finished
served_by (Err take_fault.Memory) = served.Memory
served_by (Err take_fault.Disk) = served.Stopped
served_by (Err (take_fault.Full len add)) = served.Stopped
served_by (Err take_fault.Stopped) = served.Stopped
