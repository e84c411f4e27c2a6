-- A green thread that runs a script, or a branch: what it does first with an answer, and how it stops.
use Rattle.std.specs.Prelude.{◌≡◌, ℕ, false, true, List, [], length, map, Option, Some, None, Bool, is_some}
use Rattle.model_run.specs.declared.context.Context.{Context}
use Rattle.model_run.specs.declared.ending.Asked.TheVariants.{ForBranches, ForRequest}
use Rattle.model_run.specs.declared.ending.Branch.{Branch}
use Rattle.model_run.specs.declared.frame.Frame.{Frame}
use Rattle.model_run.specs.declared.wait.Answer.{Answer}
use Rattle.model_run.specs.Threads.{Closure, Runs, Script}
use Rattle.model_run.specs.World.{outcome_of}
use Rattle.green_threads.specs.declared.runner.NewBranch.{NewBranch}
use Rattle.green_threads.specs.declared.runner.Stop.{Stop}
use Rattle.green_threads.specs.declared.runner.Stop.TheVariants as stop
use Rattle.settle_laws.specs.Stances.{Stance}
use Rattle.cps_frames.specs.Standing.{own_of, standing}
use Rattle.cps_frames.specs.Ways.{is_block_ending}
use Rattle.cps_frames.specs.declared.shared.Shared.{Shared}
use Rattle.cps_frames.specs.declared.thread.Move.{Move}
use Rattle.script_thread.specs.Marks.{StaysBelow}
use Rattle.thread_fits.specs.Seats.{first_of}
use Rattle.cps_machine.specs.Stops.{Stops}
use Rattle.cps_machine.specs.declared.machine.Stopped.{Stopped}
use Rattle.cps_machine.specs.declared.machine.Stopped.TheVariants as stopped
use Rattle.cps_machine.specs.declared.thread.MachineThread.{MachineThread}
use Rattle.cps_machine.specs.declared.thread.Start.{Start}
use Rattle.cps_machine.specs.declared.thread.Start.TheVariants as start

-- What the definitions see of a thread: it has what it runs where it has not begun.
abbrev pub runs_of : Option Start → ℕ → Option Runs
runs_of None head = None
runs_of (Some start.Script) head = Some Script
runs_of (Some (start.Branch c)) head = Some (Closure c.node c.env head)

abbrev pub stance_of : MachineThread → Stance
stance_of t = record { own = own_of t.state; parent = t.state.parent; runs = runs_of t.start t.state.head; frames = t.state.stack.items }

-- what it does first with an answer
abbrev pub first_move : MachineThread → Answer → Move
first_move t x = first_of (stance_of t).runs x

-- whether a `parallel` began it: it has a parent, or is a closure that has not begun
abbrev pub branch_by : Option Start → Option ℕ → Bool
branch_by None parent = is_some parent
branch_by (Some start.Script) parent = false
branch_by (Some (start.Branch c)) parent = true

abbrev pub is_branch : MachineThread → Bool
is_branch t = branch_by t.start t.state.parent

-- the thread with this number and parent
abbrev pub seated : MachineThread → ℕ → Option ℕ → MachineThread
seated t n p = record t { state = record t.state { number = n; parent = p } }

-- the thread that took no turn yet since it was marked, and whose frames all count as untouched
abbrev pub marked : MachineThread → MachineThread
marked t = record t { low = length t.state.stack.items; touched = false }

-- what the definitions see of a branch that is to begin
pub record Beginning : Type 0 where
  pub name : List ℕ
  pub start : Option Start
  pub head : ℕ
  pub context : Context
  pub calls : ℕ
  pub frames : List Frame

abbrev pub seen : NewBranch MachineThread → Beginning
seen b = record {
  name = b.name;
  start = b.thread.start;
  head = b.thread.state.head;
  context = b.thread.state.context;
  calls = b.thread.state.calls;
  frames = b.thread.state.stack.items;
}

-- a thread that has not begun
abbrev pub beginning : List ℕ → Start → ℕ → Context → Beginning
beginning name s head context = record { name = name; start = Some s; head = head; context = context; calls = 0; frames = [] }

-- A branch begins with its closure, behind its flow node, in the context of the thread that waits for it (Jenkins).
abbrev pub to_begin : Context → Branch → Beginning
to_begin context b = beginning b.name (start.Branch (record { node = b.closure; env = b.env })) b.head context

-- what a thread runs is a script or the closure of a branch, and ends as a block does
abbrev pub EndsAsBlock : Stopped → Type 0
EndsAsBlock (stopped.Ended e) = is_block_ending e ≡ true
EndsAsBlock s = Unit {0}

-- how a thread stops, as other threads see it
abbrev pub IsStop : Stopped → Stop MachineThread → Context → Type 0
IsStop (stopped.Ended e) (stop.Ended o) context = o ≡ outcome_of e
IsStop (stopped.Limit k) (stop.Limit l) context = l ≡ k
IsStop (stopped.Waits (ForRequest r)) (stop.Waits q) context = q ≡ r
IsStop (stopped.Waits (ForBranches bs)) (stop.Forks ts) context = map seen ts ≡ map (to_begin context) bs
IsStop s t context = ⊥

-- A turn: the machine runs from what the thread does first with the answer, and so stops. Of its frames no more count as untouched than
-- did before, and those are the same; and the thread is touched.
pub record IsTurn (t : MachineThread) (u : Shared) (x : Answer) (stops : Stop MachineThread) (t' : MachineThread) (u' : Shared) : Type 0 where
  pub stopped_so : Stopped
  pub stop : IsStop stopped_so stops t'.state.context
  pub runs : Stops (standing u t.state) (first_move t x) stopped_so (standing u' t'.state)
  pub begun : t'.start ≡ None
  pub stays : StaysBelow t.low t.state.stack.items t'.low t'.state.stack.items
  pub touched : t'.touched ≡ true
