-- A take and the grants behind it (this product's own): after each event all grants that are due are made, one by one.
use Rattle.std.specs.Prelude.{◌≡◌, ◌⊎◌, ◌<◌, ◌+◌, ◌^◌, ℕ, List, [], ◌∷◌, Option, Some, None, Result, Ok, Err}
use Rattle.model_run.specs.declared.event.Event.{Event}
use Rattle.model_run.specs.declared.event.Event.TheVariants.{Granted}
use Rattle.model_run.specs.declared.taken.Taken.{Taken}
use Rattle.model_run.specs.declared.taken.Taken.TheVariants.{Accepted, NotOpen, WrongPlace, Finished}
use Rattle.model_run.specs.World as W
use Rattle.image_form.specs.declared.image.Image.{Image}
use Rattle.durable_build.specs.Lower.delta_records.declared.weights.Weights.{Weights}
use Rattle.settle_laws.specs.Stances.{Stance}
use Rattle.durable_build.specs.Lower.build_core.Builds.{Parts, StandsFor, setting_in}
use Rattle.durable_build.specs.Lower.build_images.Images.{world_image}
use Rattle.journal_core.specs.declared.faults.TakeFault.{TakeFault}
use Rattle.journal_core.specs.declared.faults.TakeFault.TheVariants.{Memory, Disk, Full, Stopped}
use Rattle.locked_build.specs.declared.ask.Entry.{Entry}
use Rattle.locked_build.specs.declared.ask.Entry.TheVariants.{Took, Failed}
use Rattle.durable_build.specs.Standing.{Kept, world_before}
use Rattle.durable_build.specs.Taking.{DueAdds}
use Rattle.locked_build.specs.Histories.{kept_fault}
use Rattle.locked_build.specs.Showing.{answer_of, due, IsNext, IsSettled}

-- what is noted of an event and its answer
abbrev pub noted : Event → Result Taken TakeFault → List Entry
noted e (Ok Accepted) = Took e ∷ []
noted e (Ok NotOpen) = []
noted e (Ok (WrongPlace kept)) = []
noted e (Ok Finished) = []
noted e (Err Memory) = Failed Memory None ∷ []
noted e (Err Disk) = Failed Disk (Some e) ∷ []
noted e (Err (Full len add)) = Failed (Full len add) (Some e) ∷ []
noted e (Err Stopped) = []

-- What the record that is due for this event adds, by some weights of the records of a journal: by the images, before the event and
-- after it, of each build of the definitions that this one stands for.
pub record RecordAdds {T : Type 0} (stance : T → Stance) (b : Parts T) (e : Event) (add : ℕ) : Type 0 where
  pub weights : Weights
  pub before : Option Image
  pub image : Image
  pub adds : DueAdds weights before e image add
  pub is_before : (w : W.Build) → StandsFor stance b w → before ≡ world_before (setting_in b) w
  pub is_after : (w : W.Build) → StandsFor stance b w → image ≡ world_image (setting_in b) (W.after_one (setting_in b) w e)

-- An event that was not taken with this fault: it is accepted, but for want of memory; `Full` says what was too much: some length,
-- and what the record of the event adds.
abbrev pub MayFail : {T : Type 0} → (T → Stance) → Parts T → Event → TakeFault → Type 0
MayFail stance b e Memory = Unit {0}
MayFail stance b e Disk = answer_of b e ≡ Accepted
MayFail stance b e (Full len add) = (answer_of b e ≡ Accepted) × (2 ^ 30 < len + add) × RecordAdds stance b e add
MayFail stance b e Stopped = ⊥

-- The entries of the grants that are due, one after the other, until none is or one is refused with a fault. Memory may be wanted
-- where it is looked for one.
pub data Grants {T : Type 0} (stance : T → Stance) : Parts T → List Entry → Type 0 where
  none_due : {b : Parts T} → IsSettled b → Grants stance b []
  granted : {b after : Parts T} {entries : List Entry} (request executor : ℕ) → due b ≡ Some (request, executor) → IsNext stance b (Granted request executor) after
      → Grants stance after entries → Grants stance b (Took (Granted request executor) ∷ entries)
  refused : {b : Parts T} (request executor : ℕ) (fault : TakeFault) → due b ≡ Some (request, executor) → MayFail stance b (Granted request executor) fault
      → Grants stance b (noted (Granted request executor) (Err fault))
  not_found : {b : Parts T} → Grants stance b (Failed Memory None ∷ [])

-- The reply to an event, and its entries: where it is accepted, it and the grants behind it.
abbrev pub TakeSays : {T : Type 0} → (T → Stance) → Parts T → Event → Result Taken TakeFault → List Entry → Type 0
TakeSays {T} stance b e (Ok Accepted) new = (after : Parts T) × (entries : List Entry) × IsNext stance b e after × Grants stance after entries × (new ≡ Took e ∷ entries)
TakeSays stance b e (Ok NotOpen) new = (answer_of b e ≡ NotOpen) × (new ≡ [])
TakeSays stance b e (Ok (WrongPlace kept)) new = (answer_of b e ≡ WrongPlace kept) × (new ≡ [])
TakeSays stance b e (Ok Finished) new = (answer_of b e ≡ Finished) × (new ≡ [])
TakeSays stance b e (Err fault) new = MayFail stance b e fault × (new ≡ noted e (Err fault))

-- A life that was not opened: one of the grants that a stop had left out was refused with this fault; or memory was wanted before
-- any of them, and nothing was done.
abbrev pub OpenRefuses : {D T : Type 0} → (T → Stance) → Kept D T → Kept D T → List Entry → TakeFault → Type 0
OpenRefuses stance durable now made fault =
    (Grants stance durable.build made × (kept_fault made ≡ Some fault)) ⊎ ((made ≡ []) × (now ≡ durable) × (fault ≡ Memory))
