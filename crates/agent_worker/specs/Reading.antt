-- What one read, and reading a stream through, add to what was done.
use Rattle.std.specs.Prelude.{◌≡◌, ◌<◌, ◌∷◌, [], List, ℕ, length, Option, Some, None, Result, Ok, Err, MatchBool}
use Rattle.agent_worker.specs.Types.{Event, OutputEvent, Accepted, Order, Stream}
use Rattle.agent_worker.specs.declared.task.Served.{Served}
use Rattle.agent_worker.specs.declared.reading.Piece.{Piece}
use Rattle.agent_worker.specs.declared.reading.Piece.TheVariants as piece
use Rattle.agent_worker.specs.declared.reading.Reading.{Reading}
use Rattle.agent_worker.specs.Acts.{Act, Reported, named, kept, WasDone, read}
use Rattle.agent_worker.specs.Serving.{EndsFor}
use Rattle.agent_worker.specs.Serve.{Seen}
use Rattle.agent_worker.specs.Standing.{Stands}

-- a read that gave bytes, and their report, which was accepted
abbrev pub taken_in : Order → Stream → ℕ → List ℕ → List Act → List Act
taken_in order stream place bytes past = Reported (OutputEvent order.task (named stream) place bytes) (Ok Accepted) ∷ read order stream place (Some bytes) ∷ past

-- One read, with its report.
abbrev pub AddsPiece : Order → Stream → ℕ → ℕ → List Act → List Act → Result Piece Served → Type 0
AddsPiece order stream place now past next (Ok piece.Bytes) = (bytes : List ℕ) × (0 < length bytes) × (next ≡ taken_in order stream place bytes past) × (now ≡ kept order stream next)
AddsPiece order stream place now past next (Ok piece.Nothing) = (next ≡ read order stream place (Some []) ∷ past) × (now ≡ place)
AddsPiece order stream place now past next (Ok piece.Failed) = (next ≡ read order stream place None ∷ past) × (now ≡ place)
AddsPiece order stream place now past next (Err answer) = EndsFor order next answer

-- One read, with its report, from what was done before it.
pub record ReadsPiece (honest : Type 0) (order : Order) (looks : ℕ) (stream : Stream) (old now : Seen) (place new_place : ℕ) (past : List Act) (answer : Result Piece Served) : Type 0 where
  pub next : List Act
  pub stands : Stands honest order looks old now next
  pub adds : AddsPiece order stream place new_place past next answer
  pub still : (act : Act) → WasDone act past → WasDone act next

-- reads of this stream alone, which gave bytes, with their reports
pub data TakesIn (order : Order) (stream : Stream) (past : List Act) : List Act → Type 0 where
  None_yet : TakesIn order stream past past
  More : (place : ℕ) (bytes : List ℕ) (next : List Act) → 0 < length bytes → TakesIn order stream past next → TakesIn order stream past (taken_in order stream place bytes next)

-- Reading a stream through.
abbrev pub AddsReading : Order → Stream → ℕ → List Act → List Act → Result Reading Served → Type 0
AddsReading order stream now past next (Ok reading) = (before : List Act) × (given : Option (List ℕ)) × (next ≡ read order stream now given ∷ before)
    × (now ≡ kept order stream next) × TakesIn order stream past before
    × MatchBool reading.failed (given ≡ None) (given ≡ Some []) × MatchBool reading.bytes ((act : Act) × (rest : List Act) × (event : Event) × (before ≡ Reported event (Ok Accepted) ∷ act ∷ rest)) (before ≡ past)
AddsReading order stream now past next (Err answer) = EndsFor order next answer

-- Reading a stream through, from what was done before it.
pub record ReadsThrough (honest : Type 0) (order : Order) (looks : ℕ) (stream : Stream) (old now : Seen) (new_place : ℕ) (past : List Act) (answer : Result Reading Served) : Type 0 where
  pub next : List Act
  pub stands : Stands honest order looks old now next
  pub adds : AddsReading order stream new_place past next answer
  pub still : (act : Act) → WasDone act past → WasDone act next
