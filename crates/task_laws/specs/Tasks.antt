-- A task in the images that a crash may leave (this product's own).
use Rattle.std.specs.Prelude.{ℕ, List, [], ◌∷◌}
use Rattle.launch_laws.specs.Fitting.{WasTask}
use Rattle.model_run.specs.declared.event.Event.{Event}
use Rattle.model_run.specs.Requests.{IsTaskOf}
use Rattle.model_run.specs.State.{Setting}
use Rattle.model_run.specs.World.{world_in}
use Rattle.build_life.specs.Lower.build_store.Saved.{Stores}
use Rattle.build_life.specs.Lower.locked_build.declared.ask.Entry.{Entry}
use Rattle.build_life.specs.Lower.locked_build.declared.ask.Entry.TheVariants.{Took, Claimed, Line, Failed}

-- The file is a consistent store, and in the world of all its events this is an open task of the executor.
pub record HasOpenTask (setting : Setting) (executor task : ℕ) (file : List ℕ) : Type 0 where
  pub events : List Event
  pub stores : Stores setting events file
  pub task_of : IsTaskOf executor task (world_in setting events).shared

-- The file is a consistent store, and in the world of the first ones of its events this was an open task of the executor.
pub record HadOpenTask (setting : Setting) (executor task : ℕ) (file : List ℕ) : Type 0 where
  pub events : List Event
  pub stores : Stores setting events file
  pub was : WasTask setting events executor task

-- of each task that these entries claim
abbrev pub AllClaimed : (ℕ → ℕ → Type 0) → List Entry → Type 0
AllClaimed P [] = Unit {0}
AllClaimed P (Claimed executor task keep_out kept_log kept_out ∷ es) = P executor task × AllClaimed P es
AllClaimed P (Took event ∷ es) = AllClaimed P es
AllClaimed P (Line line ∷ es) = AllClaimed P es
AllClaimed P (Failed fault event ∷ es) = AllClaimed P es
