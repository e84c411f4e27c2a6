-- What was accepted of a task's output, and what of it stands on an honest host.
use Rattle.std.specs.Prelude.{◌≡◌, ◌<◌, ◌≤◌, ◌-◌, ◌^◌, ◌++◌, List, ℕ, ℤ, length, drop, Option, Some, IsSome, Ok}
use Rattle.task_host.specs.declared.answers.Look.TheVariants as look
use Rattle.agent_worker.specs.Types.{Accepted, Order, Stream}
use Rattle.agent_worker.specs.Acts.{Act, HasStream, kept, kept_before, accepted, latest_look}
use Rattle.agent_worker.specs.Causes.{FoundEnd}
use Rattle.agent_worker.specs.Serving.{EndsBy, exited}

-- These bytes stand in the output from this place on.
abbrev pub StandsFrom : ℕ → List ℕ → List ℕ → Type 0
StandsFrom place bytes output = (rest : List ℕ) × (drop place output ≡ bytes ++ rest)

-- All that was accepted of a stream stands on the host; where the exit was accepted the task has ended, and all of the
-- stream was accepted. The kept place is told below the last u64 alone.
pub record Delivers (order : Order) (past : List Act) (output : Stream → List ℕ) (ended : Option ℤ) : Type 0 where
  pub a_part : (stream : Stream) → kept order stream past < 2 ^ 64 - 1 → StandsFrom (kept_before order stream) (accepted stream past) (output stream)
  pub all : (code : ℤ) (stream : Stream) → HasStream order stream → EndsBy order (exited order code) (Ok Accepted) past → kept order stream past < 2 ^ 64 - 1
      → drop (kept_before order stream) (output stream) ≡ accepted stream past
  pub over : (code : ℤ) → EndsBy order (exited order code) (Ok Accepted) past → IsSome ended

-- What an honest host has of the task, after this past.
pub record Holds (order : Order) (output : Stream → List ℕ) (ended : Option ℤ) (past : List Act) : Type 0 where
  -- what was accepted stands on the host from the place that was kept before
  pub delivered : (stream : Stream) → kept order stream past < 2 ^ 64 - 1 → StandsFrom (kept_before order stream) (accepted stream past) (output stream)
  -- a look that says that it exited is right
  pub over : (code : ℤ) → latest_look past ≡ Some (look.Exited code) → IsSome ended
  -- where a read gave nothing since then, that is the end of the output
  pub read_out : (code : ℤ) (stream : Stream) (place : ℕ) → latest_look past ≡ Some (look.Exited code) → FoundEnd order stream place past → length (output stream) ≤ place
