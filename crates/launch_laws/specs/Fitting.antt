-- When hosts fit the events of a build (this product's own). Hosts that have launched nothing fit all events.
use Rattle.std.specs.Prelude.{◌≡◌, ◌⊎◌, ◌+◌, ℕ, nat_eq, true, List, [], ◌∷◌, ◌++◌, map}
use Rattle.std.specs.List.{IsDistinct}
use Rattle.model_run.specs.declared.event.Event.{Event}
use Rattle.model_run.specs.Fitting.{Some_of}
use Rattle.model_run.specs.Requests.{IsOpenRequest, IsTaskOf}
use Rattle.model_run.specs.State.{Setting}
use Rattle.model_run.specs.World.{world_in}
use Rattle.agent_worker.specs.Serve.{Tasks}

-- it stands in the list
abbrev pub Among : ℕ → List ℕ → Type 0
Among n ns = Some_of (λ m. m ≡ n) ns

-- It was an open task of this executor in the world of the first ones of these events, which had begun.
pub record WasTask (setting : Setting) (events : List Event) (executor task : ℕ) : Type 0 where
  pub front : List Event
  pub rest : List Event
  pub is : events ≡ front ++ rest
  pub begun : (world_in setting front).started ≡ true
  pub task_of : IsTaskOf executor task (world_in setting front).shared

-- it is open in the world of these events
abbrev pub IsOpen : Setting → List Event → ℕ → Type 0
IsOpen setting events task = IsOpenRequest task (world_in setting events).shared

-- The host of this executor fits these events: each task among its launches was one of the executor, stands once among them, and has its
-- folder, or is not open any more.
pub record Fits (setting : Setting) (events : List Event) (executor : ℕ) (host : Tasks) : Type 0 where
  pub was : (task : ℕ) → Among task host.launches → WasTask setting events executor task
  pub once : IsDistinct nat_eq host.launches
  pub folder : (task : ℕ) → Among task host.launches → Among task host.dirs ⊎ ¬ (IsOpen setting events task)

-- the launches and folders of the host of an executor
pub record ExecutorHost : Type 0 where
  pub number : ℕ
  pub tasks : Tasks

abbrev pub AllFit : Setting → List Event → List ExecutorHost → Type 0
AllFit setting events [] = Unit {0}
AllFit setting events (host ∷ hosts) = Fits setting events host.number host.tasks × AllFit setting events hosts

-- the hosts of the executors from this number on
abbrev pub numbered : ℕ → List Tasks → List ExecutorHost
numbered number [] = []
numbered number (tasks ∷ more) = record { number = number; tasks = tasks } ∷ numbered (number + 1) more

-- no two of them have one executor
abbrev pub AreApart : List ExecutorHost → Type 0
AreApart hosts = IsDistinct nat_eq (map (λ h. h.number) hosts)

-- the launches of all
abbrev pub all_launches : List ExecutorHost → List ℕ
all_launches [] = []
all_launches (host ∷ hosts) = host.tasks.launches ++ all_launches hosts
