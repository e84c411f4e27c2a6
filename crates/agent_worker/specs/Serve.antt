-- A whole serve: what was done, and what it does to the gate and the host.
use Rattle.std.specs.Prelude.{◌≡◌, ◌⊎◌, ◌∷◌, ◌++◌, [], List, ℕ, ℤ, Contains, Option}
use Rattle.task_host.specs.Host.{GoesOn}
use Rattle.task_host.specs.declared.answers.Made.TheVariants as made
use Rattle.agent_worker.specs.Types.{Order, Stream, Call}
use Rattle.agent_worker.specs.declared.gate.GateCall.{GateCall}
use Rattle.agent_worker.specs.declared.gate.Said.{Said}
use Rattle.agent_worker.specs.declared.task.Served.{Served}
use Rattle.agent_worker.specs.Gate.{Told, GateTells, Becomes, Stays}
use Rattle.agent_worker.specs.Acts.{Act, with_calls, with_told, with_reports, said_after, WasDone, made_dir}
use Rattle.agent_worker.specs.Serving.{IsServe, EndsFor}
use Rattle.agent_worker.specs.Delivering.{Delivers}
use Rattle.agent_worker.specs.Folders.{MakesOne, LeavesFolders}
use Rattle.task_host.specs.View.{HostView}

-- What host and gate tell at a moment, and what the host's tasks have written and are known to have ended with.
pub record Seen : Type 0 where
  pub calls : Option (List Call)
  pub told : Option (List Told)
  pub reports : Option (List GateCall)
  pub said : Said
  pub output : ℕ → Stream → List ℕ
  pub exited : ℕ → Option ℤ

module _ {H G : Type 0} where
  -- this moment, by what host and gate tell
  abbrev pub seen : HostView H → (G → GateTells) → H → G → Seen
  seen host tells machine gate = record { calls = host.calls machine; told = (tells gate).told; reports = (tells gate).calls; said = (tells gate).said; output = host.output machine; exited = host.exited machine }

-- the launches and the folders of a host
pub record Tasks : Type 0 where
  pub launches : List ℕ
  pub dirs : List ℕ

-- these launches and folders
abbrev pub tasks_at : List ℕ → List ℕ → Tasks
tasks_at launches dirs = record { launches = launches; dirs = dirs }

-- What was done is what they tell, where they tell it; and what the gate said last, every gate tells.
pub record Shows (old now : Seen) (past : List Act) : Type 0 where
  pub calls : Becomes (with_calls past) old.calls now.calls
  pub told : Becomes (with_told past) old.told now.told
  pub reports : Becomes (with_reports past) old.reports now.reports
  pub said : now.said ≡ said_after past old.said

-- A serve, from its beginning to its end.
pub record Serves (honest : Type 0) (order : Order) (looks : ℕ) (old now : Seen) (answer : Served) : Type 0 where
  pub past : List Act
  -- it is what host and gate tell
  pub shows : Shows old now past
  -- each act may follow those before it, and each report has its cause
  pub lawful : IsServe order looks past
  -- it ended for this reason
  pub ends : EndsFor order past answer
  -- what it reported of the output is so
  pub delivers : honest → Delivers order past (now.output order.task) (now.exited order.task)
  -- no other task writes or ends
  pub goes_on : honest → GoesOn order.task old.exited now.exited old.output now.output

-- The task is launched at most once, and only where its folder was made in this serve.
abbrev pub LaunchesOnce : Order → List Act → List ℕ → List ℕ → Type 0
LaunchesOnce order past old now = (now ≡ old) ⊎ ((now ≡ old ++ order.task ∷ []) × WasDone (made_dir order made.Made) past)

-- What a serve does to launches and folders on an honest host: its task is launched only where its folder was not there,
-- and its folder goes only where its exit was accepted.
pub record KeepsTasks (order : Order) (past : List Act) (old now : Tasks) : Type 0 where
  pub launched : (now.launches ≡ old.launches)
      ⊎ ((now.launches ≡ old.launches ++ order.task ∷ []) × (¬ Contains old.dirs order.task) × LeavesFolders order past (old.dirs ++ order.task ∷ []) now.dirs)
  pub folders : (between : List ℕ) × MakesOne order.task old.dirs between × LeavesFolders order past between now.dirs

-- A whole serve of an order.
pub record ServesOrder (honest : Type 0) (order : Order) (looks : ℕ) (old now : Seen) (old_tasks tasks : Tasks) (answer : Served) : Type 0 where
  pub serve : Serves honest order looks old now answer
  pub launched : LaunchesOnce order serve.past old_tasks.launches tasks.launches
  pub kept : honest → KeepsTasks order serve.past old_tasks tasks

-- A gate that a serve leaves as it was, but for what it reports.
pub record KeepsGate (old now : GateTells) : Type 0 where
  pub claimed_stay : Stays old.claimed now.claimed
  pub lines_stay : Stays old.lines now.lines
  pub open_stays : now.is_open ≡ old.is_open
