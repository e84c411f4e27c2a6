-- What each report of a serve rests on. `past` is what was done before it in this serve, the latest first.
use Rattle.std.specs.Prelude.{◌≡◌, ◌≢◌, ◌⊎◌, ◌<◌, ◌∷◌, [], List, ℕ, ℤ, zero, suc, length, true, Option, Some, None, if◌then◌else◌}
use Rattle.agent_worker.specs.Types.{Event, StartEvent, GrantedEvent, OutputEvent, ExitedEvent, LostEvent, DecidedEvent, NotStarted, Gone}
use Rattle.agent_worker.specs.Types.{EventStream, Order, Stream, Log, Out, Look}
use Rattle.task_host.specs.declared.answers.Look.TheVariants as look
use Rattle.task_host.specs.declared.answers.Made.TheVariants as made
use Rattle.task_host.specs.declared.answers.Started.TheVariants as start
use Rattle.agent_worker.specs.Acts.{Act, HasStream, named, kept, look_in, latest_look, WasDone, made_dir, started, looked, read, paused}

-- Output is what a read from the kept place just gave, at least one byte.
pub record Gave (order : Order) (name : EventStream) («from» : ℕ) (bytes : List ℕ) (past : List Act) : Type 0 where
  pub stream : Stream
  pub has : HasStream order stream
  pub named_so : name ≡ named stream
  pub place : «from» ≡ kept order stream past
  pub some : 0 < length bytes
  pub before : List Act
  pub read_so : past ≡ read order stream «from» (Some bytes) ∷ before

-- since the latest look, a read of this stream from this place gave nothing
abbrev pub FoundEnd : Order → Stream → ℕ → List Act → Type 0
FoundEnd order stream place [] = ⊥
FoundEnd order stream place (act ∷ past) = (act ≡ read order stream place (Some [])) ⊎ ((look_in act ≡ None) × FoundEnd order stream place past)

-- A task has exited where a look said so, and then reads of all its streams from their kept places gave nothing.
pub record Exits (order : Order) (code : ℤ) (past : List Act) : Type 0 where
  pub said : latest_look past ≡ Some (look.Exited code)
  pub read_out : (stream : Stream) → HasStream order stream → FoundEnd order stream (kept order stream past) past

-- A task was not started where its start failed; or where a look says so, after a start that did not fail or where none
-- was made, since the folder was there or may be.
pub record IsNotStarted (order : Order) (past : List Act) : Type 0 where
  pub said : WasDone (started order start.Failed) past
      ⊎ (((latest_look past ≡ Some look.NotStarted) ⊎ (latest_look past ≡ Some look.Absent))
      × (WasDone (started order start.Started) past ⊎ WasDone (made_dir order made.Exists) past ⊎ WasDone (made_dir order made.Failed) past))

-- a read that gave no byte
abbrev pub IsEmpty : Option (List ℕ) → Type 0
IsEmpty given = (given ≡ None) ⊎ (given ≡ Some [])

-- since the latest look, a read of this stream from this place gave no byte
abbrev pub IsReadThrough : Order → Stream → ℕ → List Act → Type 0
IsReadThrough order stream place [] = ⊥
IsReadThrough order stream place (act ∷ past) = ((given : Option (List ℕ)) × IsEmpty given × (act ≡ read order stream place given)) ⊎ ((look_in act ≡ None) × IsReadThrough order stream place past)

-- The streams of an order are read one after the other, the log first, and each until a read of it gave no byte. (This
-- product's own rule.)
abbrev pub IsReadNext : Order → Stream → List Act → Type 0
IsReadNext order Log past = (place : ℕ) → ¬ (IsReadThrough order Log place past)
IsReadNext order Out past = IsReadThrough order Log (kept order Log past) past × ((place : ℕ) → ¬ (IsReadThrough order Out place past))

-- A turn, behind what was done before it: a look, and of every stream a read from its kept place, the log first.
abbrev pub turn : Order → Look → Option (List ℕ) → Option (List ℕ) → List Act → List Act
turn order answer log out past =
    let log_read = read order Log (kept order Log past) log ∷ looked order answer ∷ past in
    if order.keep_out then read order Out (kept order Out past) out ∷ log_read else log_read

-- In a vain turn the look said that the task runs, or failed, or a read failed; and no read gave a byte.
pub record IsVain (order : Order) (before past : List Act) : Type 0 where
  pub answer : Look
  pub log : Option (List ℕ)
  pub out : Option (List ℕ)
  pub is : past ≡ turn order answer log out before
  pub no_log : IsEmpty log
  pub no_out : IsEmpty out
  pub vain : (answer ≡ look.Running) ⊎ (answer ≡ look.Failed) ⊎ (log ≡ None) ⊎ ((order.keep_out ≡ true) × (out ≡ None))

-- the latest look did not say that the task was not started, which has a cause of its own
abbrev pub MayHaveStarted : List Act → Type 0
MayHaveStarted past = (latest_look past ≢ Some look.NotStarted) × (latest_look past ≢ Some look.Absent)

-- The last n turns in a row were vain, with a pause between each two.
abbrev pub InVain : Order → ℕ → List Act → Type 0
InVain order zero past = Unit {0}
InVain order (suc zero) past = (before : List Act) × IsVain order before past
InVain order (suc (suc n)) past = (before : List Act) × IsVain order (paused ∷ before) past × InVain order (suc n) before

-- The cause of a report. A task that a look found not started is not gone beside that.
abbrev pub IsCaused : Order → ℕ → List Act → Event → Type 0
IsCaused order looks past (OutputEvent task name «from» bytes) = (task ≡ order.task) × Gave order name «from» bytes past
IsCaused order looks past (ExitedEvent task code) = (task ≡ order.task) × Exits order code past
IsCaused order looks past (LostEvent task NotStarted) = (task ≡ order.task) × IsNotStarted order past
IsCaused order looks past (LostEvent task Gone) = (task ≡ order.task) × MayHaveStarted past × InVain order looks past
IsCaused order looks past (StartEvent script agents) = ⊥
IsCaused order looks past (GrantedEvent request executor) = ⊥
IsCaused order looks past (DecidedEvent request proceed name) = ⊥
