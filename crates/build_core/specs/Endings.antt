-- How a build is over.
use Rattle.std.specs.Prelude.{◌≡◌, ℕ, List, [], ◌∷◌, Option, Some, None}
use Rattle.model_run.specs.State.{Common}
use Rattle.green_threads.specs.Threads.{Threads}
use Rattle.cps_frames.specs.declared.shared.Shared.{Shared}
use Rattle.cps_frames.specs.Standing.{setting_of, common_of}
use Rattle.build_core.specs.declared.phase.Phase.{Phase}
use Rattle.build_core.specs.declared.phase.Phase.TheVariants.{Ended}

-- a line, or none
abbrev pub lines_of : Option (List ℕ) → List (List ℕ)
lines_of None = []
lines_of (Some line) = line ∷ []

-- the build has ended, with no thread and with this shared state of the definitions
pub record IsOver {T : Type 0} (p : Phase) (g : Threads T) (u : Shared) (c : Common) (g' : Threads T) (u' : Shared) : Type 0 where
  pub phase : p ≡ Ended
  pub threads : g' ≡ record { seats = []; next = g.next }
  pub shared : common_of u' ≡ c
  pub setting : setting_of u' ≡ setting_of u
