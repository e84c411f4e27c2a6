-- What was accepted of the output of an executor's tasks stands on its host (this product's own).
use Rattle.std.specs.Prelude.{◌≡◌, ◌+◌, ◌-◌, ◌<◌, ◌^◌, ℕ, true, List, [], ◌∷◌, ◌++◌, length}
use Rattle.task_host.specs.declared.order.Stream.{Stream}
use Rattle.agent_worker.specs.Acts.{named}
use Rattle.agent_worker.specs.Delivering.{StandsFrom}
use Rattle.agent_worker.specs.Gate.{Told, told_at}
use Rattle.model_run.specs.declared.event.Event.{Event}
use Rattle.model_run.specs.declared.event.Event.TheVariants.{Output}
use Rattle.model_run.specs.Fitting.{Some_of}
use Rattle.model_run.specs.Requests.{IsTaskOf}
use Rattle.model_run.specs.State.{Setting}
use Rattle.model_run.specs.World.{world_in}

-- One of these events, behind those from before, is this output of a task that was an open one of the executor then.
pub record WasOutput (setting : Setting) (before events : List Event) (executor task : ℕ) (stream : Stream) (place : ℕ) (bytes : List ℕ) : Type 0 where
  pub front : List Event
  pub rest : List Event
  pub is : events ≡ front ++ Output task (named stream) place bytes ∷ rest
  pub task_of : IsTaskOf executor task (world_in setting (before ++ front)).shared

-- Of each output of its tasks that these events have, the bytes stand in that stream of the task, from their place on.
abbrev pub Delivered : Setting → List Event → ℕ → (ℕ → Stream → List ℕ) → Type 0
Delivered setting events executor output =
    (task : ℕ) (stream : Stream) (place : ℕ) (bytes : List ℕ) → WasOutput setting [] events executor task stream place bytes → StandsFrom place bytes (output task stream)

-- What the history of a life says of the outputs of an executor's tasks: those that were taken in the life were told to the executor as
-- accepted; and each that was told so ends below the last number of 64 bits.
pub record AreOutputs (setting : Setting) (begun taken : List Event) (executor : ℕ) (told : List Told) : Type 0 where
  pub own : (task : ℕ) (stream : Stream) (place : ℕ) (bytes : List ℕ) → WasOutput setting begun taken executor task stream place bytes → Some_of (λ t. t ≡ told_at (Output task (named stream) place bytes) true) told
  pub short : (task : ℕ) (stream : Stream) (place : ℕ) (bytes : List ℕ) → Some_of (λ t. t ≡ told_at (Output task (named stream) place bytes) true) told → place + length bytes < 2 ^ 64 - 1
