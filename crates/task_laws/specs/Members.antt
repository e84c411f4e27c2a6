-- What was accepted of the outputs of tasks stands on the hosts of the executors (this product's own).
use Rattle.std.specs.Prelude.{◌≡◌, ◌+◌, ◌-◌, ◌<◌, ◌^◌, ℕ, List, [], ◌∷◌, length}
use Rattle.task_host.specs.declared.order.Stream.{Stream}
use Rattle.agent_worker.specs.Acts.{named}
use Rattle.agent_worker.specs.Delivering.{StandsFrom}
use Rattle.agent_worker.specs.declared.member.Member.{Member}
use Rattle.agent_worker.specs.declared.member.Member.TheVariants.{Executor, Operator}
use Rattle.launch_laws.specs.Outputs.{Delivered}
use Rattle.model_run.specs.declared.event.Event.{Event}
use Rattle.model_run.specs.declared.event.Event.TheVariants.{Output}
use Rattle.model_run.specs.declared.event.Stream.{Stream as EventStream}
use Rattle.model_run.specs.Fitting.{Some_of}
use Rattle.model_run.specs.State.{Setting}
use Rattle.task_laws.specs.Streams.{AreInOrder, output_of}
use Rattle.task_host.specs.View.{HostView}

-- Member by member: each output of the tasks of an executor that these events have stands on its host.
abbrev pub AllDelivered : {H A : Type 0} → HostView H → Setting → List Event → List (Member H A) → Type 0
AllDelivered host setting events [] = Unit {0}
AllDelivered host setting events (Executor number machine ∷ members) = Delivered setting events number (host.output machine) × AllDelivered host setting events members
AllDelivered host setting events (Operator answers line ended failed ∷ members) = AllDelivered host setting events members

-- Each output of these events ends below the last number of 64 bits.
abbrev pub AreShort : List Event → Type 0
AreShort events = (task : ℕ) (stream : Stream) (place : ℕ) (bytes : List ℕ) → Some_of (λ e. e ≡ Output task (named stream) place bytes) events → place + length bytes < 2 ^ 64 - 1

-- All outputs of a stream of a task among these events stand in what the host has of it, put together: each begins where those before it
-- end, from the place of the first one on.
pub record StandsTogether (task : ℕ) (stream : EventStream) (events : List Event) (output : List ℕ) : Type 0 where
  pub first : ℕ
  pub in_order : AreInOrder task stream first events
  pub stands : StandsFrom first (output_of task stream events) output
