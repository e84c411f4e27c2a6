-- What a serve has come to before its end: what the parts of a serve say of it.
use Rattle.std.specs.Prelude.{◌≡◌, ◌⊎◌, ◌∷◌, ◌++◌, [], List, ℕ, Bool, Contains, Option, MatchBool, Result}
use Rattle.task_host.specs.Host.{GoesOn}
use Rattle.task_host.specs.declared.answers.Made.TheVariants as made
use Rattle.task_host.specs.declared.answers.Started.TheVariants as start
use Rattle.agent_worker.specs.Types.{Event, Taken, Order, Call}
use Rattle.journal_core.specs.declared.faults.TakeFault.{TakeFault}
use Rattle.agent_worker.specs.declared.gate.GateCall.{GateCall}
use Rattle.agent_worker.specs.declared.gate.GateCall.TheVariants as gate_call
use Rattle.agent_worker.specs.declared.gate.Said.{Said}
use Rattle.agent_worker.specs.declared.gate.Said.TheVariants as says
use Rattle.agent_worker.specs.declared.task.Served.{Served}
use Rattle.agent_worker.specs.Gate.{Told, Becomes, Adds, AddsTold}
use Rattle.agent_worker.specs.Acts.{Act, with_calls, WasDone, made_dir, started}
use Rattle.agent_worker.specs.Serving.{Opened, IsServe, served_by}
use Rattle.agent_worker.specs.Delivering.{Holds}
use Rattle.agent_worker.specs.Folders.{MakesOne, LeavesFolders}
use Rattle.agent_worker.specs.Serve.{Seen, Tasks, Shows, Serves}

-- What was done so far, from the beginning of a serve.
pub record Stands (honest : Type 0) (order : Order) (looks : ℕ) (old now : Seen) (past : List Act) : Type 0 where
  pub shows : Shows old now past
  pub lawful : IsServe order looks past
  pub holds : honest → Holds order (now.output order.task) (now.exited order.task) past
  pub goes_on : honest → GoesOn order.task old.exited now.exited old.output now.output

-- The rest of a serve, from what was done so far to its end.
pub record ServesOn (honest : Type 0) (order : Order) (looks : ℕ) (old now : Seen) (begun : List Act) (old_dirs dirs : List ℕ) (answer : Served) : Type 0 where
  pub serve : Serves honest order looks old now answer
  pub folders : honest → LeavesFolders order serve.past old_dirs dirs
  pub still : (act : Act) → WasDone act begun → WasDone act serve.past

-- A report, and what its answer means for the serve.
pub record Tells (event : Event) (old_told told : Option (List Told)) (old_calls calls : Option (List GateCall)) (said : Said) (served : Served) : Type 0 where
  pub answer : Result Taken TakeFault
  pub means : served ≡ served_by answer
  pub told_so : AddsTold event answer old_told told
  pub called : Adds (gate_call.Report event answer) old_calls calls
  pub said_so : said ≡ says.Report answer

-- How a serve begins: the task may be launched only where its folder was made now, since it was not there.
pub record Opens (honest : Type 0) (order : Order) (old_calls calls : Option (List Call)) (old now : Tasks) (begun : Bool) : Type 0 where
  pub past : List Act
  pub is : MatchBool begun (Opened order past) (past ≡ started order start.Failed ∷ made_dir order made.Made ∷ [])
  pub called : Becomes (with_calls past) old_calls calls
  pub folder : honest → MakesOne order.task old.dirs now.dirs
  pub launched : (now.launches ≡ old.launches) ⊎ ((now.launches ≡ old.launches ++ order.task ∷ []) × (WasDone (made_dir order made.Made) past
      × (honest → (¬ Contains old.dirs order.task) × (now.dirs ≡ old.dirs ++ order.task ∷ []))))
