-- What contracts see of a host over real folders and processes.
use Rattle.std.specs.Prelude.{◌≡◌, ◌⊎◌, ◌<◌, ◌≤◌, ℕ, List, suc}
use Rattle.real_edge.specs.Launches.{one_handed_over, OneFailed}
use Rattle.real_edge.specs.declared.launches.Launches.{Launches}
use Rattle.task_host.specs.declared.answers.Started.{Started}
use Rattle.task_host.specs.declared.answers.Started.TheVariants as started
use Rattle.task_host.specs.declared.answers.Look.{Look}
use Rattle.task_host.specs.declared.answers.Look.TheVariants as look

-- of which tasks the control folders are the build's own, how many processes it started and has not let go, how often the
-- programs of agents were called, how long the next pause is in milliseconds, and how often a call failed
pub record HostState : Type 0 where
  pub own : List ℕ
  pub unreaped : ℕ
  pub launches : Launches
  pub next_pause : ℕ
  pub faults : ℕ

-- A task that is started is a process that is kept, or was handed over by one call of its agent's program. Where that call
-- failed, so did the start. Any start may let go processes that have ended. (This product's own rule.)
abbrev pub StartsTask : HostState → HostState → Started → Type 0
StartsTask old new started.Started =
    ((0 < new.unreaped) × (new.unreaped ≤ suc old.unreaped) × (new.launches ≡ old.launches))
    ⊎ ((new.unreaped ≤ old.unreaped) × (new.launches ≡ one_handed_over old.launches))
StartsTask old new started.Failed = (new.unreaped ≤ old.unreaped) × OneFailed old.launches new.launches

-- the next pause after a start: a millisecond after one that succeeded, else as before
abbrev pub pause_after_start : ℕ → Started → ℕ
pause_after_start pause started.Started = 1
pause_after_start pause started.Failed = pause

-- A look leaves the next pause as it is. But where it found that a task cannot come back there is none any more: it does so
-- only at the longest pause, and still says that the task runs.
abbrev pub PauseAfterLook : ℕ → ℕ → Look → Type 0
PauseAfterLook old new look.Running = (new ≡ old) ⊎ ((old ≡ 250) × (new ≡ 0))
PauseAfterLook old new look.Absent = new ≡ old
PauseAfterLook old new look.NotStarted = new ≡ old
PauseAfterLook old new (look.Exited code) = new ≡ old
PauseAfterLook old new look.Failed = new ≡ old
