-- What was done while a task was served, the latest first, and what it makes of the lists that host and gate tell.
use Rattle.std.specs.Prelude.{◌≡◌, ◌⊎◌, ◌∷◌, ◌++◌, ◌+◌, ◌-◌, ◌^◌, [], List, ℕ, Bool, true, false, length, min, Option, Some, None, Result, if◌then◌else◌}
use Rattle.agent_worker.specs.Types.{Event, StartEvent, GrantedEvent, OutputEvent, ExitedEvent, LostEvent, DecidedEvent, Taken, LogStream, OutStream}
use Rattle.agent_worker.specs.Types.{EventStream, Order, Stream, Log, Out, Call, Look, Made, Started}
use Rattle.task_host.specs.declared.call.Call.TheVariants as call
use Rattle.journal_core.specs.declared.faults.TakeFault.{TakeFault}
use Rattle.agent_worker.specs.declared.gate.GateCall.{GateCall}
use Rattle.agent_worker.specs.declared.gate.GateCall.TheVariants as gate_call
use Rattle.agent_worker.specs.declared.gate.Said.{Said}
use Rattle.agent_worker.specs.declared.gate.Said.TheVariants as says
use Rattle.agent_worker.specs.Sizes.{piece_size}
use Rattle.agent_worker.specs.Gate.{Told, told_as, is_accepted, is_told, added_if}

-- A call on the host, or a report with what the gate answered.
pub data Act : Type 0 where
  Called : Call → Act
  Reported : Event → Result Taken TakeFault → Act

-- the list of a host's calls after this
abbrev pub with_calls : List Act → List Call → List Call
with_calls [] old = old
with_calls (Called c ∷ past) old = with_calls past old ++ c ∷ []
with_calls (Reported event answer ∷ past) old = with_calls past old

-- the list of events that a gate tells after this
abbrev pub with_told : List Act → List Told → List Told
with_told [] old = old
with_told (Called c ∷ past) old = with_told past old
with_told (Reported event answer ∷ past) old = added_if (is_told answer) (told_as event answer) (with_told past old)

-- the list of a gate's calls after this
abbrev pub with_reports : List Act → List GateCall → List GateCall
with_reports [] old = old
with_reports (Called c ∷ past) old = with_reports past old
with_reports (Reported event answer ∷ past) old = with_reports past old ++ gate_call.Report event answer ∷ []

-- what a gate said last after this
abbrev pub said_after : List Act → Said → Said
said_after [] old = old
said_after (Called c ∷ past) old = said_after past old
said_after (Reported event answer ∷ past) old = says.Report answer

-- the streams of an order
abbrev pub HasStream : Order → Stream → Type 0
HasStream order Log = Unit {0}
HasStream order Out = order.keep_out ≡ true

-- what an event calls a stream
abbrev pub named : Stream → EventStream
named Log = LogStream
named Out = OutStream

-- an event of this stream, by the name that events give it
abbrev pub is_named : Stream → EventStream → Bool
is_named Log LogStream = true
is_named Log OutStream = false
is_named Out LogStream = false
is_named Out OutStream = true

-- the bytes of this stream in an event
abbrev pub output_in : Stream → Event → List ℕ
output_in stream (OutputEvent task name «from» bytes) = if is_named stream name then bytes else []
output_in stream (StartEvent script agents) = []
output_in stream (GrantedEvent request executor) = []
output_in stream (ExitedEvent task code) = []
output_in stream (LostEvent task why) = []
output_in stream (DecidedEvent request proceed name) = []

-- the bytes of this stream that were accepted, put together
abbrev pub accepted : Stream → List Act → List ℕ
accepted stream [] = []
accepted stream (Called c ∷ past) = accepted stream past
accepted stream (Reported event answer ∷ past) = accepted stream past ++ (if is_accepted answer then output_in stream event else [])

-- the place up to which a stream was taken when the order was made
abbrev pub kept_before : Order → Stream → ℕ
kept_before order Log = order.kept_log
kept_before order Out = order.kept_out

-- the kept place: each accepted output moves it on by its bytes, at most to the last u64
abbrev pub kept : Order → Stream → List Act → ℕ
kept order stream past = min (kept_before order stream + length (accepted stream past)) (2 ^ 64 - 1)

-- what a look says, where the act is one
abbrev pub look_in : Act → Option Look
look_in (Called (call.Look order answer)) = Some answer
look_in (Called (call.MakeDir order answer)) = None
look_in (Called (call.Start order answer)) = None
look_in (Called (call.Read order stream «from» room answer)) = None
look_in (Called call.Pause) = None
look_in (Called (call.Remove order answer)) = None
look_in (Reported event answer) = None

-- the first of two looks that is there
abbrev pub first_of_two : Option Look → Option Look → Option Look
first_of_two None other = other
first_of_two (Some look) other = Some look

-- what the latest look said
abbrev pub latest_look : List Act → Option Look
latest_look [] = None
latest_look (act ∷ past) = first_of_two (look_in act) (latest_look past)

-- the bytes that a read gave, where the act is one
abbrev pub bytes_in : Act → List ℕ
bytes_in (Called (call.Read order stream «from» room (Some bytes))) = bytes
bytes_in (Called (call.Read order stream «from» room None)) = []
bytes_in (Called (call.MakeDir order answer)) = []
bytes_in (Called (call.Start order answer)) = []
bytes_in (Called (call.Look order answer)) = []
bytes_in (Called call.Pause) = []
bytes_in (Called (call.Remove order answer)) = []
bytes_in (Reported event answer) = []

-- what is still to be reported: the bytes of a read, where that is the latest act
abbrev pub unreported : List Act → List ℕ
unreported [] = []
unreported (act ∷ past) = bytes_in act

-- the bytes that an event reports
abbrev pub bytes_of : Event → List ℕ
bytes_of (OutputEvent task name «from» bytes) = bytes
bytes_of (StartEvent script agents) = []
bytes_of (GrantedEvent request executor) = []
bytes_of (ExitedEvent task code) = []
bytes_of (LostEvent task why) = []
bytes_of (DecidedEvent request proceed name) = []

-- an event that reports output
abbrev pub is_output : Event → Bool
is_output (OutputEvent task name «from» bytes) = true
is_output (StartEvent script agents) = false
is_output (GrantedEvent request executor) = false
is_output (ExitedEvent task code) = false
is_output (LostEvent task why) = false
is_output (DecidedEvent request proceed name) = false

-- this was done
abbrev pub WasDone : Act → List Act → Type 0
WasDone act [] = ⊥
WasDone act (latest ∷ past) = (latest ≡ act) ⊎ WasDone act past

-- the acts of a serve on this order
abbrev pub made_dir : Order → Made → Act
made_dir order answer = Called (call.MakeDir order answer)

-- a start
abbrev pub started : Order → Started → Act
started order answer = Called (call.Start order answer)

-- a look
abbrev pub looked : Order → Look → Act
looked order answer = Called (call.Look order answer)

-- a read from this place, with the buffer of a piece, which gave these or failed
abbrev pub read : Order → Stream → ℕ → Option (List ℕ) → Act
read order stream place given = Called (call.Read order stream place piece_size given)

-- a pause
abbrev pub paused : Act
paused = Called call.Pause
