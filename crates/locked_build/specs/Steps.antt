-- What one take leaves, and one grant (this product's own).
use Rattle.std.specs.Prelude.{◌≡◌, ◌<◌, ◌≤◌, ◌^◌, ℕ, Bool, true, false, List, [], ◌∷◌, ◌++◌, Some, Result, Ok, Err}
use Rattle.model_run.specs.declared.event.Event.{Event}
use Rattle.model_run.specs.declared.event.Event.TheVariants.{Granted}
use Rattle.model_run.specs.declared.taken.Taken.{Taken}
use Rattle.model_run.specs.declared.taken.Taken.TheVariants.{Accepted, NotOpen, WrongPlace, Finished}
use Rattle.settle_laws.specs.Stances.{Stance}
use Rattle.durable_build.specs.Lower.build_core.Phases.{has_begun}
use Rattle.journal_core.specs.declared.faults.TakeFault.{TakeFault}
use Rattle.durable_build.specs.Standing.{Kept}
use Rattle.locked_build.specs.declared.ask.Entry.{Entry}
use Rattle.locked_build.specs.declared.ask.Entry.TheVariants.{Took}
use Rattle.locked_build.specs.Histories.{kept_fault}
use Rattle.locked_build.specs.Showing.{answer_of, due, IsNext, IsSettled}
use Rattle.locked_build.specs.Grants.{Grants, MayFail}

-- An event that was accepted: the build goes on behind it, over a longer journal.
pub record Goes {D T : Type 0} (stance : T → Stance) (old new : Kept D T) (e : Event) : Type 0 where
  pub next : IsNext stance old.build e new.build
  pub running : new.stopped ≡ false
  pub begun : has_begun new.build.phase ≡ true
  pub longer : old.journal.len < new.journal.len
  pub within : new.journal.len ≤ 2 ^ 30

-- each answer to an event, and what it leaves
abbrev pub OneSays : {D T : Type 0} → (T → Stance) → Kept D T → Kept D T → Event → Result Taken TakeFault → Type 0
OneSays stance old new e (Ok Accepted) = Goes stance old new e
OneSays stance old new e (Ok NotOpen) = (answer_of old.build e ≡ NotOpen) × (new ≡ old)
OneSays stance old new e (Ok (WrongPlace kept)) = (answer_of old.build e ≡ WrongPlace kept) × (new ≡ old)
OneSays stance old new e (Ok Finished) = (answer_of old.build e ≡ Finished) × (new ≡ old)
OneSays stance old new e (Err fault) = MayFail stance old.build e fault

-- One grant: it was taken; or none is due that the build accepts, and nothing was done; or it failed, and the fault is noted.
abbrev pub GrantSays : {D T : Type 0} → (T → Stance) → Kept D T → Kept D T → List Entry → List Entry → Result Bool TakeFault → Type 0
GrantSays stance old new h after (Ok true) =
    (request : ℕ) × (executor : ℕ) × (due old.build ≡ Some (request, executor)) × Goes stance old new (Granted request executor) × (after ≡ h ++ Took (Granted request executor) ∷ [])
GrantSays stance old new h after (Ok false) = IsSettled old.build × (new ≡ old) × (after ≡ h)
GrantSays stance old new h after (Err fault) = (es : List Entry) × Grants stance old.build es × (after ≡ h ++ es) × (kept_fault es ≡ Some fault)
