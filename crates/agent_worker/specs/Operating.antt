-- What the operator's work is: it asks what is open, reads answer lines, gives them to the gate, and may halt; the latest
-- first.
use Rattle.std.specs.Prelude.{◌≡◌, ◌≢◌, ◌⊎◌, ◌<◌, ◌∷◌, ◌++◌, ◌||◌, [], List, ℕ, Bool, true, false, Option, Result, Ok, Err, MatchResult, if◌then◌else◌}
use Rattle.std.specs.Io.KnownBytes.{Consumes, IsAtEnd}
use Rattle.journal_core.specs.declared.faults.TakeFault.{TakeFault}
use Rattle.journal_core.specs.declared.faults.TakeFault.TheVariants as fault
use Rattle.agent_worker.specs.declared.gate.Heard.{Heard}
use Rattle.agent_worker.specs.declared.gate.Inputs.{Inputs}
use Rattle.agent_worker.specs.declared.gate.GateCall.{GateCall}
use Rattle.agent_worker.specs.declared.gate.GateCall.TheVariants as gate_call
use Rattle.agent_worker.specs.declared.gate.Said.{Said}
use Rattle.agent_worker.specs.declared.gate.Said.TheVariants as says
use Rattle.agent_worker.specs.declared.operator.LineEnd.{LineEnd}
use Rattle.agent_worker.specs.declared.operator.LineEnd.TheVariants as line_end
use Rattle.agent_worker.specs.declared.worked.Worked.{Worked}
use Rattle.agent_worker.specs.declared.worked.Worked.TheVariants as worked
use Rattle.agent_worker.specs.Gate.{Told, GateTells, Becomes, Stays, heard_of, IsToldOf}
use Rattle.agent_worker.specs.AnswerBytes.{short, NoNewline, read_bytes, lines_of, begun_after, kept_line, last_line}

-- A call on the gate, with what it answered; or the reading of a line: the bytes of it that came, and where that stopped.
pub data Ask : Type 0 where
  Asked : Inputs → Ask
  Reads : List ℕ → LineEnd → Ask
  Given : List ℕ → Result Heard TakeFault → Ask
  Halted : Ask

-- the list of a gate's calls after this
abbrev pub operator_calls : List Ask → List GateCall → List GateCall
operator_calls [] old = old
operator_calls (Asked inputs ∷ past) old = operator_calls past old ++ gate_call.Inputs inputs ∷ []
operator_calls (Reads bytes end ∷ past) old = operator_calls past old
operator_calls (Given line answer ∷ past) old = operator_calls past old ++ gate_call.Answer line answer ∷ []
operator_calls (Halted ∷ past) old = operator_calls past old ++ gate_call.Halt ∷ []

-- what a gate said last after this
abbrev pub operator_said : List Ask → Said → Said
operator_said [] old = old
operator_said (Asked inputs ∷ past) old = says.Inputs inputs
operator_said (Reads bytes end ∷ past) old = operator_said past old
operator_said (Given line answer ∷ past) old = says.Answer answer
operator_said (Halted ∷ past) old = says.Halt

-- the lines that were given, in order
abbrev pub given_in : List Ask → List (List ℕ)
given_in [] = []
given_in (Asked inputs ∷ past) = given_in past
given_in (Reads bytes end ∷ past) = given_in past
given_in (Given line answer ∷ past) = given_in past ++ line ∷ []
given_in (Halted ∷ past) = given_in past

-- those of them that were decided or skipped
abbrev pub heard_in : List Ask → List (List ℕ)
heard_in [] = []
heard_in (Asked inputs ∷ past) = heard_in past
heard_in (Reads bytes end ∷ past) = heard_in past
heard_in (Given line answer ∷ past) = heard_in past ++ heard_of line answer
heard_in (Halted ∷ past) = heard_in past

-- What the gate tells of the lines: the decision of each that decided an input or was refused with `Disk` or `Full`.
abbrev pub AreToldOf : List Ask → List Told → Type 0
AreToldOf [] events = events ≡ []
AreToldOf (Asked inputs ∷ past) events = AreToldOf past events
AreToldOf (Reads bytes end ∷ past) events = AreToldOf past events
AreToldOf (Given line answer ∷ past) events = (before more : List Told) × AreToldOf past before × IsToldOf line answer more × (events ≡ before ++ more)
AreToldOf (Halted ∷ past) events = AreToldOf past events

-- the bytes that were read, in order
abbrev pub read_in : List Ask → List ℕ
read_in [] = []
read_in (Asked inputs ∷ past) = read_in past
read_in (Reads bytes end ∷ past) = read_in past ++ read_bytes end bytes
read_in (Given line answer ∷ past) = read_in past
read_in (Halted ∷ past) = read_in past

-- reading stopped at the end of the answers
abbrev pub is_end : LineEnd → Bool
is_end line_end.Line = false
is_end line_end.End = true
is_end line_end.Failed = false
is_end line_end.Memory = false

-- a read came to the end of the answers
abbrev pub has_ended : List Ask → Bool
has_ended [] = false
has_ended (Asked inputs ∷ past) = has_ended past
has_ended (Reads bytes end ∷ past) = is_end end || has_ended past
has_ended (Given line answer ∷ past) = has_ended past
has_ended (Halted ∷ past) = has_ended past

-- an ask that found an input open was the last
abbrev pub FoundInput : List Ask → Type 0
FoundInput past = (inputs : Inputs) × (before : List Ask) × (past ≡ Asked inputs ∷ before) × (0 < inputs.waiting)

-- a line that was read, to its newline or to the end of the answers, was the last
abbrev pub ReadLine : List Ask → Type 0
ReadLine past = (bytes : List ℕ) × (end : LineEnd) × (before : List Ask) × (past ≡ Reads bytes end ∷ before) × ((end ≡ line_end.Line) ⊎ (end ≡ line_end.End))

-- What is open may be asked: at first; again where no input was open; and after a line with its newline, which was heard or
-- passed over.
pub data MayAsk : List Ask → Type 0 where
  First : MayAsk []
  Waited : (inputs : Inputs) (before : List Ask) → inputs.waiting ≡ 0 → MayAsk (Asked inputs ∷ before)
  PassedOver : (bytes : List ℕ) (before : List Ask) → MayAsk (Reads bytes line_end.Line ∷ before)
  Heeded : (line : List ℕ) (heard : Heard) (bytes : List ℕ) (before : List Ask) → MayAsk (Given line (Ok heard) ∷ Reads bytes line_end.Line ∷ before)

-- What may be done after this: a line is read only directly after an ask that found an input open, and given only directly
-- after it was read; a halt comes only where memory was wanting, for a line that was read or that the gate refused. (This
-- product's own rule.)
abbrev pub MayOperate : List Ask → Ask → Type 0
MayOperate past (Asked inputs) = MayAsk past
MayOperate past (Reads bytes end) = FoundInput past × NoNewline bytes
MayOperate past (Given line answer) = ReadLine past
MayOperate past Halted = ((bytes : List ℕ) × (before : List Ask) × (past ≡ Reads bytes line_end.Memory ∷ before)) ⊎ ((line : List ℕ) × (before : List Ask) × (past ≡ Given line (Err fault.Memory) ∷ before))

-- All of it may be done.
abbrev pub IsOperating : List Ask → Type 0
IsOperating [] = Unit {0}
IsOperating (ask ∷ past) = MayOperate past ask × IsOperating past

-- The answers were read to their end, and their last line was heard or passed over.
pub data IsReadToEnd : List Ask → Type 0 where
  NoMore : (bytes : List ℕ) (before : List Ask) → IsReadToEnd (Reads bytes line_end.End ∷ before)
  LastHeeded : (line : List ℕ) (heard : Heard) (bytes : List ℕ) (before : List Ask) → IsReadToEnd (Given line (Ok heard) ∷ Reads bytes line_end.End ∷ before)

-- nothing was open
abbrev pub FoundNothing : List Ask → Type 0
FoundNothing past = (inputs : Inputs) × (before : List Ask) × (past ≡ Asked inputs ∷ before) × (inputs.waiting ≡ 0) × (inputs.busy ≡ 0)

-- Why the work ended: the answers had ended before, or have now, or nothing was open; a line was refused, not for memory;
-- it halted; the answers could not be read.
abbrev pub OperatorEnds : Bool → List Ask → Worked → Type 0
OperatorEnds old_ended past worked.Rest = ((old_ended ≡ true) × (past ≡ [])) ⊎ IsReadToEnd past ⊎ FoundNothing past
OperatorEnds old_ended past worked.Stopped = (line : List ℕ) × (e : TakeFault) × (before : List Ask) × (past ≡ Given line (Err e) ∷ before) × (e ≢ fault.Memory)
OperatorEnds old_ended past worked.Memory = (before : List Ask) × (past ≡ Halted ∷ before)
OperatorEnds old_ended past worked.AnswersFailed = (bytes : List ℕ) × (before : List Ask) × (past ≡ Reads bytes line_end.Failed ∷ before)

-- The lines that were given are the whole lines of the bytes that were read, each of at most 1,024 bytes, in order; and the
-- last line, where the answers ended within it. What is kept is what has come of the next line.
pub record GivesLines (begun line : List ℕ) (past : List Ask) (answer : Worked) : Type 0 where
  pub given : given_in past ≡ lines_of begun (read_in past) ++ (if has_ended past then last_line (begun_after begun (read_in past)) else [])
  pub kept : answer ≢ worked.Memory → line ≡ short (if has_ended past then [] else begun_after begun (read_in past))

-- What was done so far is what the gate tells.
pub record OperatesSoFar (old now : GateTells) (past : List Ask) : Type 0 where
  pub calls : Becomes (operator_calls past) old.calls now.calls
  pub lines : Becomes (λ list. list ++ heard_in past) old.lines now.lines
  pub events : List Told
  pub decided : AreToldOf past events
  pub told : Becomes (λ list. list ++ events) old.told now.told
  pub claimed : Stays old.claimed now.claimed
  pub said : now.said ≡ operator_said past old.said
  pub lawful : IsOperating past

-- A line that was read is given where it is not too long. The work goes on where it was passed over, or the gate heard it.
pub record GivesLine (old now : GateTells) (past : List Ask) (line : List ℕ) (answer : Result (Unit {0}) Worked) : Type 0 where
  pub next : List Ask
  pub so_far : OperatesSoFar old now next
  pub given : given_in next ≡ given_in past ++ kept_line line
  pub same_read : read_in next ≡ read_in past
  pub same_end : has_ended next ≡ has_ended past
  pub goes : MatchResult answer (λ _. (next ≡ past) ⊎ ((said : List ℕ) × (heard : Heard) × (next ≡ Given said (Ok heard) ∷ past))) (λ ending. (old_ended : Bool) → OperatorEnds old_ended next ending)

-- The operator's work.
pub record Operates (old now : GateTells) (old_left left : Option (List ℕ)) (old_line line : List ℕ) (old_ended ended : Bool) (answer : Worked) : Type 0 where
  pub past : List Ask
  pub so_far : OperatesSoFar old now past
  pub ends : OperatorEnds old_ended past answer
  pub read : Consumes old_left left (read_in past)
  pub at_end : has_ended past ≡ true → IsAtEnd left
  pub ended_so : ended ≡ (old_ended || has_ended past)
  pub gives : (begun : List ℕ) → old_line ≡ short begun → GivesLines begun line past answer
  -- answers that had ended are not read
  pub over : old_ended ≡ true → (past ≡ []) × (left ≡ old_left) × (line ≡ old_line)
