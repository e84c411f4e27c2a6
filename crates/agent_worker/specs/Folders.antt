-- The folders of a host before and after a serve.
use Rattle.std.specs.Prelude.{◌≡◌, ◌⊎◌, ◌∷◌, ◌++◌, [], List, ℕ, Contains}
use Rattle.task_host.specs.Host.{without}
use Rattle.agent_worker.specs.Types.{Order}
use Rattle.agent_worker.specs.Acts.{Act}
use Rattle.agent_worker.specs.Serving.{ExitTaken}

-- A folder was made where it was not there, or none was.
abbrev pub MakesOne : ℕ → List ℕ → List ℕ → Type 0
MakesOne task old now = (now ≡ old) ⊎ ((¬ Contains old task) × (now ≡ old ++ task ∷ []))

-- The folder of this task was removed, or may be.
abbrev pub RemovesSome : ℕ → List ℕ → List ℕ → Type 0
RemovesSome task old now = (now ≡ old) ⊎ (now ≡ without task old)

-- The folders at the end: they stay, but for that of a task whose exit was accepted.
abbrev pub LeavesFolders : Order → List Act → List ℕ → List ℕ → Type 0
LeavesFolders order past old now = (now ≡ old) ⊎ (ExitTaken order past × RemovesSome order.task old now)
