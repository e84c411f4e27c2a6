-- The exit status of a build. This product's own.
use Rattle.std.specs.Prelude.{◌≡◌, ◌⊎◌, ℕ, Bool, if◌then◌else◌}
use Rattle.model_run.specs.declared.result.BuildResult.{BuildResult}
use Rattle.model_run.specs.declared.result.BuildResult.TheVariants.{Success, Unstable, Failure, NotBuilt, Aborted}
use Rattle.model_run.specs.World.{Build}

-- each result has a status of its own
abbrev pub result_status : BuildResult → ℕ
result_status Success = 0
result_status Failure = 1
result_status Unstable = 10
result_status NotBuilt = 11
result_status Aborted = 12

-- the status of a build that has ended is that of its result; one that waits has its own
abbrev pub status_of : Bool → BuildResult → ℕ
status_of ended result = if ended then result_status result else 3

abbrev pub world_status : Build → ℕ
world_status b = status_of b.ended b.shared.result

-- the status is that of a build that has ended
abbrev pub IsEnded : ℕ → Type 0
IsEnded status = (result : BuildResult) × (status ≡ result_status result)

-- or of one that waits, too: its text is a log
abbrev pub HasLog : ℕ → Type 0
HasLog status = IsEnded status ⊎ (status ≡ 3)

-- a status that tells that a call did what its command is for, but for its writing: that of a log, or 7, where it was cut short
abbrev pub HasRun : ℕ → Type 0
HasRun status = HasLog status ⊎ (status ≡ 7)
