-- What one turn of a serve adds to what was done: a look, and each stream read through.
use Rattle.std.specs.Prelude.{◌≡◌, ◌⊎◌, ◌<◌, ◌+◌, [], List, ℕ, ℤ, MatchBool, Bool, true, false, Some, Result, Ok, Err}
use Rattle.task_host.specs.declared.answers.Look.TheVariants as look
use Rattle.task_host.specs.declared.answers.Started.TheVariants as start
use Rattle.agent_worker.specs.Types.{Order, Stream, Log, Out}
use Rattle.agent_worker.specs.declared.task.Served.{Served}
use Rattle.agent_worker.specs.declared.turn.Turn.{Turn}
use Rattle.agent_worker.specs.declared.turn.Next.{Next}
use Rattle.agent_worker.specs.declared.turn.Next.TheVariants as next
use Rattle.agent_worker.specs.Acts.{Act, HasStream, kept, unreported, latest_look, WasDone, started}
use Rattle.agent_worker.specs.Causes.{FoundEnd, IsReadThrough, IsVain}
use Rattle.agent_worker.specs.Serving.{IsInTurn, EndsFor}
use Rattle.agent_worker.specs.Serve.{Seen}
use Rattle.agent_worker.specs.Standing.{Stands}

-- every stream was read to its end since the latest look
abbrev pub IsReadOut : Order → List Act → Type 0
IsReadOut order past = (stream : Stream) → HasStream order stream → FoundEnd order stream (kept order stream past) past

-- One turn, which this tells.
pub record Turned (order : Order) (past next : List Act) (turn : Turn) : Type 0 where
  pub said : latest_look next ≡ Some turn.look
  pub read_out : turn.failed ≡ false → IsReadOut order next
  pub not_read_out : turn.failed ≡ true → IsReadOut order next → ⊥
  pub vain : turn.bytes ≡ false → (turn.look ≡ look.Running) ⊎ (turn.look ≡ look.Failed) ⊎ (turn.failed ≡ true) → IsVain order past next
  pub not_vain : turn.bytes ≡ true → (before : List Act) → IsVain order before next → ⊥
  pub only : turn.bytes ≡ false → (before : List Act) → IsVain order before next → before ≡ past
  pub still_done : (act : Act) → WasDone act past → WasDone act next
  pub not_failed : WasDone (started order start.Failed) next → WasDone (started order start.Failed) past
  pub told : unreported next ≡ []
  pub in_turn : IsInTurn next
  pub read_through : (stream : Stream) → HasStream order stream → IsReadThrough order stream (kept order stream next) next

-- What a turn adds: it tells this, and both places are kept; or the serve ends within it.
abbrev pub AddsTurn : Order → ℕ → ℕ → List Act → List Act → Result Turn Served → Type 0
AddsTurn order log out past next (Ok turn) = (log ≡ kept order Log next) × (out ≡ kept order Out next) × Turned order past next turn
AddsTurn order log out past next (Err answer) = EndsFor order next answer

-- One turn, from what was done before it.
pub record TakesTurn (honest : Type 0) (order : Order) (looks : ℕ) (old now : Seen) (log out : ℕ) (past : List Act) (answer : Result Turn Served) : Type 0 where
  pub next : List Act
  pub stands : Stands honest order looks old now next
  pub adds : AddsTurn order log out past next answer
  pub still : (act : Act) → WasDone act past → WasDone act next

-- What comes after a turn.
pub data Goes (turn : Turn) : Type 0 where
  Runs : turn.look ≡ look.Running → Goes turn
  Fails : turn.look ≡ look.Failed → Goes turn
  Unread : (code : ℤ) → turn.look ≡ look.Exited code → turn.failed ≡ true → Goes turn

-- What the turn means, after so many vain turns in a row.
abbrev pub Decides : Turn → ℕ → ℕ → Next → Type 0
Decides turn vain looks (next.Exited code) = (turn.look ≡ look.Exited code) × (turn.failed ≡ false)
Decides turn vain looks next.NotStarted = (turn.look ≡ look.NotStarted) ⊎ (turn.look ≡ look.Absent)
Decides turn vain looks next.Gone = Goes turn × (turn.bytes ≡ false) × (vain + 1 ≡ looks)
Decides turn vain looks (next.Pause count) = Goes turn × (count < looks) × MatchBool turn.bytes (count ≡ 0) (count ≡ vain + 1)

-- what comes after a turn that goes on, by whether a read of it gave bytes
abbrev pub Counts : Bool → ℕ → ℕ → Next → Type 0
Counts bytes vain looks (next.Exited code) = ⊥
Counts bytes vain looks next.NotStarted = ⊥
Counts bytes vain looks next.Gone = (bytes ≡ false) × (vain + 1 ≡ looks)
Counts bytes vain looks (next.Pause count) = (count < looks) × MatchBool bytes (count ≡ 0) (count ≡ vain + 1)
