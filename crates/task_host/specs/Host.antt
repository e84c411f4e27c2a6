-- What an honest host does: its folders, launches and output before and after a call. A folder goes by the number of its
-- task, and `exited` gives the code of each task that has ended.
use Rattle.std.specs.Prelude.{◌≡◌, ◌≢◌, ◌⊎◌, ◌<◌, ◌≤◌, ℕ, ℤ, not, nat_eq, List, [], ◌∷◌, ◌++◌, length, take, drop, filter, Contains, Option, Some, None, IsSome, IsSomeAnd, Result, Ok, Err}
use Rattle.device_faults.specs.declared.faults.Failed.{Failed}
use Rattle.task_host.specs.declared.answers.Made.{Made}
use Rattle.task_host.specs.declared.answers.Made.TheVariants as made
use Rattle.task_host.specs.declared.answers.Started.{Started}
use Rattle.task_host.specs.declared.answers.Started.TheVariants as started
use Rattle.task_host.specs.declared.answers.Look.{Look}
use Rattle.task_host.specs.declared.answers.Look.TheVariants as look
use Rattle.task_host.specs.declared.order.Stream.{Stream}
use Rattle.task_host.specs.declared.call.Call.{Call}

-- A folder is made only where it is not there; it is said to be there only where it is.
abbrev pub MakesFolder : ℕ → List ℕ → List ℕ → Made → Type 0
MakesFolder task old new made.Made = (¬ Contains old task) × (new ≡ old ++ task ∷ [])
MakesFolder task old new made.Exists = Contains old task × (new ≡ old)
MakesFolder task old new made.Failed = (new ≡ old) ⊎ ((¬ Contains old task) × (new ≡ old ++ task ∷ []))

-- these without this one
abbrev pub without : ℕ → List ℕ → List ℕ
without task tasks = filter (λ t. not (nat_eq t task)) tasks

-- A folder is removed, or where that failed may be.
abbrev pub RemovesFolder : ℕ → List ℕ → List ℕ → Result (Unit {0}) Failed → Type 0
RemovesFolder task old new (Ok _) = new ≡ without task old
RemovesFolder task old new (Err _) = (new ≡ old) ⊎ (new ≡ without task old)

-- At most this task was launched, and once.
abbrev pub LaunchesAtMost : ℕ → List ℕ → List ℕ → Type 0
LaunchesAtMost task old new = (new ≡ old) ⊎ (new ≡ old ++ task ∷ [])

-- Where it is said to have started, it stands among the launches, and has a folder.
abbrev pub Launches : ℕ → List ℕ → List ℕ → List ℕ → Started → Type 0
Launches task dirs old new started.Started = Contains dirs task × (new ≡ old ++ task ∷ [])
Launches task dirs old new started.Failed = Unit {0}

-- A look tells a task's state, by the folders, the launches, and the code where the task has ended before or by this look.
abbrev pub TellsState : ℕ → List ℕ → List ℕ → Option ℤ → Option ℤ → Look → Type 0
TellsState task dirs launches old new look.Absent = ¬ Contains dirs task
TellsState task dirs launches old new look.NotStarted = Contains dirs task × (¬ Contains launches task)
TellsState task dirs launches old new look.Running = Contains dirs task × Contains launches task × (old ≡ None)
TellsState task dirs launches old new (look.Exited code) = Contains dirs task × Contains launches task × (new ≡ Some code)
TellsState task dirs launches old new look.Failed = Unit {0}

-- Nothing is written, and no task ends.
pub record Stays (old_exited new_exited : ℕ → Option ℤ) (old new : ℕ → Stream → List ℕ) : Type 0 where
  pub output : (task : ℕ) (stream : Stream) → new task stream ≡ old task stream
  pub exited : (task : ℕ) → new_exited task ≡ old_exited task

-- This task alone may write and may end: what it wrote stays in front, and once it has ended nothing changes.
pub record GoesOn (task : ℕ) (old_exited new_exited : ℕ → Option ℤ) (old new : ℕ → Stream → List ℕ) : Type 0 where
  pub grows : (stream : Stream) → take (length (old task stream)) (new task stream) ≡ old task stream
  pub output_stays : (stream : Stream) → IsSome (old_exited task) → new task stream ≡ old task stream
  pub exit_stays : IsSome (old_exited task) → new_exited task ≡ old_exited task
  pub other_output : (other : ℕ) (stream : Stream) → other ≢ task → new other stream ≡ old other stream
  pub other_exited : (other : ℕ) → other ≢ task → new_exited other ≡ old_exited other

-- A task with nothing written, which has not ended.
pub record IsIdle (code : Option ℤ) (written : Stream → List ℕ) : Type 0 where
  pub output : (stream : Stream) → written stream ≡ []
  pub exited : code ≡ None

-- a read of n bytes into a buffer, of output that ends there
pub record Reads (end «from» : ℕ) (old : List ℕ) (n : ℕ) : Type 0 where
  pub some_bytes : «from» < end → 0 < length old → 0 < n
  pub at_end : end ≤ «from» → n ≡ 0

-- The first n bytes of the buffer are those of the output at this place, and the others stay.
abbrev pub HasRead : List ℕ → ℕ → ℕ → List ℕ → List ℕ → Type 0
HasRead output «from» n old new = new ≡ take n (drop «from» output) ++ drop n old

-- Where the calls are told after a call, they were told before it, and this one is the last.
abbrev pub Records : Option (List Call) → Option (List Call) → Call → Type 0
Records old None call = Unit {0}
Records old (Some now) call = IsSomeAnd old (λ before. now ≡ before ++ call ∷ [])

-- the bytes that a read gave, where it gave any or came to the end
abbrev pub bytes_read : Result ℕ Failed → List ℕ → Option (List ℕ)
bytes_read (Ok n) buf = Some (take n buf)
bytes_read (Err _) buf = None
