-- What a call adds to the lists that a gate or a host tells. What is told after a call was told before it.
use Rattle.std.specs.Prelude.{◌≡◌, ◌∷◌, ◌++◌, [], List, ℕ, Bool, true, false, Option, Some, None, IsSome, IsSomeAnd, Result, Ok, Err, if◌then◌else◌}
use Rattle.agent_worker.specs.Types.{Order, Event, DecidedEvent, Taken, Accepted, NotOpen, WrongPlace, Finished}
use Rattle.journal_core.specs.declared.faults.TakeFault.{TakeFault}
use Rattle.journal_core.specs.declared.faults.TakeFault.TheVariants as fault
use Rattle.agent_worker.specs.declared.gate.Claim.{Claim}
use Rattle.agent_worker.specs.declared.gate.Claim.TheVariants as claim
use Rattle.agent_worker.specs.declared.gate.ClaimSaid.{ClaimSaid}
use Rattle.agent_worker.specs.declared.gate.ClaimSaid.TheVariants as claim_says
use Rattle.agent_worker.specs.declared.gate.GateCall.{GateCall}
use Rattle.agent_worker.specs.declared.gate.Said.{Said}
use Rattle.agent_worker.specs.declared.gate.Heard.{Heard}
use Rattle.agent_worker.specs.declared.gate.Heard.TheVariants.{Decided, Skipped}
use Rattle.agent_worker.specs.AnswerLine.{Answers}

-- The list, where it is told now, was told before, and became this of it.
abbrev pub Becomes : {A : Type 0} → (List A → List A) → Option (List A) → Option (List A) → Type 0
Becomes change old None = Unit {0}
Becomes change old (Some now) = IsSomeAnd old (λ before. now ≡ change before)

-- The list, where it is told, is as it was.
abbrev pub Stays : {A : Type 0} → Option (List A) → Option (List A) → Type 0
Stays old now = Becomes (λ list. list) old now

-- The list, where it is told, has this item more, at its end.
abbrev pub Adds : {A : Type 0} → A → Option (List A) → Option (List A) → Type 0
Adds item old now = Becomes (λ list. list ++ item ∷ []) old now

-- the event was taken
abbrev pub is_accepted : Result Taken TakeFault → Bool
is_accepted (Ok Accepted) = true
is_accepted (Ok NotOpen) = false
is_accepted (Ok (WrongPlace kept)) = false
is_accepted (Ok Finished) = false
is_accepted (Err e) = false

-- The event may have come to the disk: it was accepted, or refused with `Disk` or `Full`.
abbrev pub is_told : Result Taken TakeFault → Bool
is_told (Ok taken) = is_accepted (Ok taken)
is_told (Err fault.Memory) = false
is_told (Err fault.Disk) = true
is_told (Err (fault.Full len add)) = true
is_told (Err fault.Stopped) = false

-- the list with this item more, where it is told
abbrev pub added_if : {A : Type 0} → Bool → A → List A → List A
added_if told item list = if told then list ++ item ∷ [] else list

-- an event that was reported or decided, and whether it was accepted; else it was refused with `Disk` or `Full`
pub record Told : Type 0 where
  pub event : Event
  pub accepted : Bool

-- an event with whether it was accepted
abbrev pub told_at : Event → Bool → Told
told_at event accepted = record { event = event; accepted = accepted }

-- an event as it is told with this answer
abbrev pub told_as : Event → Result Taken TakeFault → Told
told_as event answer = told_at event (is_accepted answer)

-- What a report adds to the events that are told.
abbrev pub AddsTold : Event → Result Taken TakeFault → Option (List Told) → Option (List Told) → Type 0
AddsTold event answer old now = Becomes (added_if (is_told answer) (told_as event answer)) old now

-- what a claim gave, but for the order
abbrev pub claim_said : Claim → ClaimSaid
claim_said (claim.Order order) = claim_says.Order
claim_said (claim.Idle busy) = claim_says.Idle busy
claim_said claim.Rest = claim_says.Rest
claim_said claim.Stopped = claim_says.Stopped
claim_said claim.Memory = claim_says.Memory

-- a task that was claimed: for which executor, whether it keeps its output apart, and how much of its streams was taken then
pub record Claimed : Type 0 where
  pub executor : ℕ
  pub task : ℕ
  pub keep_out : Bool
  pub kept_log : ℕ
  pub kept_out : ℕ

-- an order as its claim is told
abbrev pub claimed_as : Order → Claimed
claimed_as order = record { executor = order.executor; task = order.task; keep_out = order.keep_out; kept_log = order.kept_log; kept_out = order.kept_out }

-- What a gate tells of itself: of its lists what it can, and always what its latest call answered and whether a line may be
-- given to it.
pub record GateTells : Type 0 where
  -- the events reported through it or decided by its `answer` that were accepted, or refused with `Disk` or `Full`
  pub told : Option (List Told)
  -- the lines given to `answer` that it answered with `Decided` or `Skipped`
  pub lines : Option (List (List ℕ))
  -- the tasks of the orders that its `claim` gave
  pub claimed : Option (List Claimed)
  -- its calls with their arguments and answers
  pub calls : Option (List GateCall)
  -- what its latest call answered, and `Nothing` before the first
  pub said : Said
  -- whether an `inputs` found one waiting, and no `answer` came since
  pub is_open : Bool

-- the task of the order that a claim gave
abbrev pub claimed_in : Claim → List Claimed
claimed_in (claim.Order order) = claimed_as order ∷ []
claimed_in (claim.Idle busy) = []
claimed_in claim.Rest = []
claimed_in claim.Stopped = []
claimed_in claim.Memory = []

-- the order that a claim gave is of this executor
abbrev pub IsOf : ℕ → Claim → Type 0
IsOf executor (claim.Order order) = order.executor ≡ executor
IsOf executor (claim.Idle busy) = Unit {0}
IsOf executor claim.Rest = Unit {0}
IsOf executor claim.Stopped = Unit {0}
IsOf executor claim.Memory = Unit {0}

-- What a claim gave is told, and is of the executor that asked, where the gate tells it.
pub record AddsClaim (executor : ℕ) (answer : Claim) (old now : Option (List Claimed)) : Type 0 where
  pub told : Becomes (λ list. list ++ claimed_in answer) old now
  pub own : IsSome now → IsOf executor answer

-- a line that was decided or skipped
abbrev pub heard_of : List ℕ → Result Heard TakeFault → List (List ℕ)
heard_of line (Ok heard) = line ∷ []
heard_of line (Err e) = []

-- What a line adds to the lines that are told.
abbrev pub AddsLine : List ℕ → Result Heard TakeFault → Option (List (List ℕ)) → Option (List (List ℕ)) → Type 0
AddsLine line answer old now = Becomes (λ list. list ++ heard_of line answer) old now

-- The line decides this request, in its own words.
pub record Decides (line : List ℕ) (request : ℕ) (event : Event) : Type 0 where
  pub proceed : Bool
  pub id : List ℕ
  pub name : List ℕ
  pub answers : Answers line proceed id name
  pub is : event ≡ DecidedEvent request proceed name

-- What a gate tells of a line: its decision, where it decided an input or was refused with `Disk` or `Full`.
abbrev pub IsToldOf : List ℕ → Result Heard TakeFault → List Told → Type 0
IsToldOf line (Ok (Decided request)) more = (event : Event) × Decides line request event × (more ≡ told_at event true ∷ [])
IsToldOf line (Ok Skipped) more = more ≡ []
IsToldOf line (Err fault.Memory) more = more ≡ []
IsToldOf line (Err fault.Disk) more = (request : ℕ) × (event : Event) × Decides line request event × (more ≡ told_at event false ∷ [])
IsToldOf line (Err (fault.Full len add)) more = (request : ℕ) × (event : Event) × Decides line request event × (more ≡ told_at event false ∷ [])
IsToldOf line (Err fault.Stopped) more = more ≡ []

-- What a line adds to the events that are told.
abbrev pub AddsDecided : List ℕ → Result Heard TakeFault → Option (List Told) → Option (List Told) → Type 0
AddsDecided line answer old now = (more : List Told) × IsToldOf line answer more × Becomes (λ list. list ++ more) old now
