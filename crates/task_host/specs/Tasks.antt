-- The folders and tasks of a host in memory, and what each call makes of them. This product's own: it is for tests.
use Rattle.std.specs.Prelude.{◌≡◌, ◌<◌, ◌-◌, ℕ, ℤ, pos, Bool, nat_eq, List, [], ◌∷◌, ◌++◌, find, codes, Contains, Option, Some, None, Result, Ok, Err, option_and_then, if◌then◌else◌}
use Rattle.std.specs.Fmt.{decimal}
use Rattle.std.specs.List.{list_any}
use Rattle.std.specs.Option.{option_map_or}
use Rattle.device_faults.specs.declared.faults.Failed.{Failed}
use Rattle.task_host.specs.declared.answers.Made.{Made}
use Rattle.task_host.specs.declared.answers.Made.TheVariants as made
use Rattle.task_host.specs.declared.answers.Started.{Started}
use Rattle.task_host.specs.declared.answers.Started.TheVariants as started
use Rattle.task_host.specs.declared.answers.Look.{Look}
use Rattle.task_host.specs.declared.answers.Look.TheVariants as look
use Rattle.task_host.specs.declared.order.Stream.{Stream}
use Rattle.task_host.specs.declared.order.Stream.TheVariants.{Log, Out}
use Rattle.task_host.specs.declared.outcome.TaskOutcome.{TaskOutcome}
use Rattle.task_host.specs.declared.memory.behavior.Behavior.{Behavior}
use Rattle.task_host.specs.declared.memory.behavior.Behavior.TheVariants.{Listed, Echo}
use Rattle.task_host.specs.Host.{without}

-- the folders that stand, the launches in order, and what the tasks do
pub record State : Type 0 where
  pub dirs : List ℕ
  pub launches : List ℕ
  pub behavior : Behavior

-- no folders and no launches
abbrev pub unused : Behavior → State
unused behavior = record { dirs = []; launches = []; behavior = behavior }

-- A task that echoes writes `out`, its number and a newline to the log, and has ended with code 0 at once.
abbrev pub echo_of : ℕ → TaskOutcome
echo_of task = record { task = task; log = codes "out " ++ decimal task ++ codes "\n"; out = []; running = 0; code = pos 0 }

-- what this task does once it was launched: the first outcome that is listed of it
abbrev pub outcome_of : ℕ → Behavior → Option TaskOutcome
outcome_of task (Listed outcomes) = find (λ o. nat_eq o.task task) outcomes
outcome_of task Echo = Some (echo_of task)

-- what it writes to this stream
abbrev pub text_of : Stream → TaskOutcome → List ℕ
text_of Log o = o.log
text_of Out o = o.out

-- the code with which it ends, where no look is to say any more that it is running
abbrev pub code_of : TaskOutcome → Option ℤ
code_of o = if nat_eq o.running 0 then Some o.code else None

-- this task was launched
abbrev pub is_launched : ℕ → List ℕ → Bool
is_launched task launches = list_any (λ t. nat_eq t task) launches

-- A task writes all that it is to write when it is launched.
abbrev pub written_by : List ℕ → Behavior → ℕ → Stream → List ℕ
written_by launches behavior task stream =
    if is_launched task launches then option_map_or (text_of stream) (outcome_of task behavior) [] else []

-- A task has ended when it was launched and no look is to say that it is running.
abbrev pub ended_with : List ℕ → Behavior → ℕ → Option ℤ
ended_with launches behavior task =
    if is_launched task launches then option_and_then code_of (outcome_of task behavior) else None

-- A folder is made where it is not there.
abbrev pub MakesDir : ℕ → State → State → Made → Type 0
MakesDir task old new made.Made = (¬ Contains old.dirs task) × (new ≡ record old { dirs = old.dirs ++ task ∷ [] })
MakesDir task old new made.Exists = Contains old.dirs task × (new ≡ old)
MakesDir task old new made.Failed = new ≡ old

-- A task is launched where its folder is there.
abbrev pub Starts : ℕ → State → State → Started → Type 0
Starts task old new started.Started = Contains old.dirs task × (new ≡ record old { launches = old.launches ++ task ∷ [] })
Starts task old new started.Failed = new ≡ old

-- this outcome, with one look less that says that it is running
abbrev pub one_less : TaskOutcome → TaskOutcome
one_less o = record o { running = o.running - 1 }

-- the first outcome of this task with one look less
abbrev pub first_less : ℕ → List TaskOutcome → List TaskOutcome
first_less task [] = []
first_less task (o ∷ outcomes) = if nat_eq o.task task then one_less o ∷ outcomes else o ∷ first_less task outcomes

-- what the tasks do after a look at this one
abbrev pub after_look : ℕ → Behavior → Behavior
after_look task (Listed outcomes) = Listed (first_less task outcomes)
after_look task Echo = Echo

-- one look at a launched task with this outcome
abbrev pub LooksOnce : TaskOutcome → TaskOutcome → Look → Type 0
LooksOnce old new look.Running = (0 < old.running) × (new ≡ one_less old)
LooksOnce old new (look.Exited code) = (old.running ≡ 0) × (code ≡ old.code) × (new ≡ old)
LooksOnce old new look.Absent = ⊥
LooksOnce old new look.NotStarted = ⊥
LooksOnce old new look.Failed = ⊥

-- a look is to say that this task is running: one with no outcome runs for ever
abbrev pub IsRunning : Option TaskOutcome → Type 0
IsRunning None = Unit {0}
IsRunning (Some o) = 0 < o.running

-- a look is to say that this task has ended with this code
abbrev pub HasEnded : ℤ → Option TaskOutcome → Type 0
HasEnded code None = ⊥
HasEnded code (Some o) = (o.running ≡ 0) × (code ≡ o.code)

-- one look at a launched task
abbrev pub LooksAt : ℕ → Behavior → Behavior → Look → Type 0
LooksAt task old new look.Running = IsRunning (outcome_of task old) × (new ≡ after_look task old)
LooksAt task old new (look.Exited code) = HasEnded code (outcome_of task old) × (new ≡ old)
LooksAt task old new look.Absent = ⊥
LooksAt task old new look.NotStarted = ⊥
LooksAt task old new look.Failed = ⊥

-- A look tells a task's state: a launched one is running for as many looks as its outcome says, and has then ended.
abbrev pub Looks : ℕ → State → State → Look → Type 0
Looks task old new look.Absent = (¬ Contains old.dirs task) × (new ≡ old)
Looks task old new look.NotStarted = Contains old.dirs task × (¬ Contains old.launches task) × (new ≡ old)
Looks task old new look.Running =
    Contains old.dirs task × Contains old.launches task × IsRunning (outcome_of task old.behavior) × (new ≡ record old { behavior = after_look task old.behavior })
Looks task old new (look.Exited code) = Contains old.dirs task × Contains old.launches task × HasEnded code (outcome_of task old.behavior) × (new ≡ old)
Looks task old new look.Failed = new ≡ old

-- A folder is removed; one that is not there is removed already.
abbrev pub Removes : ℕ → State → State → Result (Unit {0}) Failed → Type 0
Removes task old new (Ok _) = new ≡ record old { dirs = without task old.dirs }
Removes task old new (Err _) = new ≡ old
