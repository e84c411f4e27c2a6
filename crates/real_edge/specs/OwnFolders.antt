-- Which control folders are a build's own: those of these tasks. This product's own rule.
use Rattle.std.specs.Prelude.{◌≡◌, ◌++◌, ◌∷◌, ℕ, List, [], Result, Ok, Err}
use Rattle.device_faults.specs.declared.faults.Failed.{Failed}
use Rattle.task_host.specs.Host.{without}
use Rattle.task_host.specs.declared.answers.Made.{Made}
use Rattle.task_host.specs.declared.answers.Made.TheVariants as made

-- the folder of this task was made, or found to be the build's own
abbrev pub listed : ℕ → List ℕ → List ℕ
listed task own = own ++ task ∷ []

-- the folder of this task was removed
abbrev pub forgotten : ℕ → List ℕ → List ℕ
forgotten task own = without task own

-- A folder that is made, or said to be there, is the build's own from then on.
abbrev pub MakesOwn : ℕ → List ℕ → List ℕ → Made → Type 0
MakesOwn task old new made.Made = new ≡ listed task old
MakesOwn task old new made.Exists = new ≡ listed task old
MakesOwn task old new made.Failed = new ≡ old

-- A folder that is removed is no longer the build's own.
abbrev pub RemovesOwn : ℕ → List ℕ → List ℕ → Result (Unit {0}) Failed → Type 0
RemovesOwn task old new (Ok _) = new ≡ forgotten task old
RemovesOwn task old new (Err _) = new ≡ old
