-- What is known of a store behind the lock, by the build at the opening and the history since (this product's own).
use Rattle.std.specs.Prelude.{◌≡◌, ◌≤◌, ◌<◌, ◌+◌, ◌^◌, ◌⊎◌, ℕ, true, false, List, [], ◌∷◌, ◌++◌, length, take, Option, Some, None}
use Rattle.std.specs.List.{AllByRecursion as AllAre}
use Rattle.device_faults.specs.Faults.{Rose}
use Rattle.jp_disk.specs.Runs.{AtEachMoment}
use Rattle.journal_core.specs.Records.{Has, framed}
use Rattle.durable_build.specs.Lower.record_form.declared.record.EventRecord.{EventRecord}
use Rattle.model_run.specs.declared.event.Event.{Event}
use Rattle.model_run.specs.State.{Setting}
use Rattle.model_run.specs.World as W
use Rattle.image_form.specs.declared.image.Image.{Image}
use Rattle.settle_laws.specs.Stances.{Stance}
use Rattle.durable_build.specs.Lower.build_core.Builds.{Parts, StandsFor, setting_in}
use Rattle.durable_build.specs.Lower.build_images.Images.{world_image, image_in}
use Rattle.durable_build.specs.Lower.store_laws.Store.{AllDue, Follows, Mean, Told, events_of, last_image}
use Rattle.journal_core.specs.declared.faults.TakeFault.{TakeFault}
use Rattle.journal_core.specs.declared.faults.TakeFault.TheVariants.{Memory, Disk, Full, Stopped}
use Rattle.durable_build.specs.Standing.{IsWhole, Kept, Keeps, world_before}
use Rattle.durable_build.specs.Lower.delta_records.declared.weights.Weights.{Weights}
use Rattle.durable_build.specs.Kinds.{weights_of}
use Rattle.durable_build.specs.Taking.{DueAdds}
use Rattle.locked_build.specs.declared.ask.Entry.{Entry}
use Rattle.locked_build.specs.declared.ask.Entry.TheVariants.{Took, Claimed, Line, Failed}
use Rattle.locked_build.specs.Histories.{tooks, kept_fault, pending}
use Rattle.locked_build.specs.Showing.{IsSettled, IsShown}
use Rattle.jp_disk.specs.View.{DiskView}

-- the setting is that of some script and some agents file
abbrev pub IsMeant : Setting → Type 0
IsMeant s = (script : List ℕ) × (agents : List ℕ) × Mean script agents s

-- Behind the events of each build that this one stands for these records go on: each event is accepted, each record has the image of
-- the build after it, and each grant stands where it is due.
abbrev pub GoOn : {T : Type 0} → (T → Stance) → Parts T → List EventRecord → Type 0
GoOn stance b records =
    (before : List Event) → IsMeant (setting_in b) → (W.world_in (setting_in b) before).started ≡ true → StandsFor stance b (W.world_in (setting_in b) before)
    → Follows world_image (setting_in b) (W.world_in (setting_in b) before) records × AllDue (setting_in b) (W.world_in (setting_in b) before) records

-- the file has these records and then the first ones of the others
abbrev pub HasFront : List (List ℕ) → List (List ℕ) → List ℕ → Type 0
HasFront payloads others file = (k : ℕ) × Has (payloads ++ take k others) file

-- `Full` tells the length of the journal, and what the record that is due for its event adds, by these weights and behind this image,
-- which is too much
abbrev pub IsFull : {D T : Type 0} → (T → Stance) → Weights → Option Image → Kept D T → TakeFault → Option Event → Type 0
IsFull stance w before now (Full len add) (Some e) = (len ≡ now.journal.len) × (2 ^ 30 < len + add) × DueAdds w before e (image_in stance now.build) add
IsFull stance w before now (Full len add) None = ⊥
IsFull stance w before now Memory event = Unit {0}
IsFull stance w before now Disk event = Unit {0}
IsFull stance w before now Stopped event = ⊥

-- where the kept fault is `Full` it tells that
abbrev pub IsFullAt : {D T : Type 0} → (T → Stance) → Weights → Option Image → Kept D T → List Entry → Type 0
IsFullAt stance w before now [] = Unit {0}
IsFullAt stance w before now (Took e ∷ es) = IsFullAt stance w before now es
IsFullAt stance w before now (Claimed executor task keep_out kept_log kept_out ∷ es) = IsFullAt stance w before now es
IsFullAt stance w before now (Line line ∷ es) = IsFullAt stance w before now es
IsFullAt stance w before now (Failed fault event ∷ es) = IsFull stance w before now fault event

-- The store, where the opening kept these records: it has one more for each event that was taken, and behind them at most that of the
-- event that the disk failed.
pub record Grown {D T : Type 0} (disk : DiskView D) (stance : T → Stance) (opening now : Kept D T) (history : List Entry) (payloads : List (List ℕ)) : Type 0 where
  -- of the events that were taken
  pub records : List EventRecord
  pub events : events_of records ≡ tooks history
  pub added : List (List ℕ)
  pub spelled : Told (last_image payloads) records added
  -- of the event that the disk failed
  pub last_records : List EventRecord
  pub last_events : events_of last_records ≡ pending history
  pub last : List (List ℕ)
  pub last_spelled : Told (last_image (payloads ++ added)) last_records last
  pub go_on : GoOn stance opening.build (records ++ last_records)
  -- each of them has a whole image: an opening goes on from it
  pub whole : AllAre (λ r. IsWhole (setting_in opening.build) r.image) (records ++ last_records)
  -- the journal ends behind those of the events that were taken
  pub ends : now.journal.len ≡ length (framed (payloads ++ added)) + 1
  -- and so do the weights by which the next record is due; where `Full` is kept it is of the one that is due behind them
  pub weighs : now.weights ≡ weights_of (payloads ++ added)
  pub full : IsFullAt stance (weights_of (payloads ++ added)) (last_image (payloads ++ added)) now history
  -- where no fault is kept the build stands by all of them
  pub keeps : kept_fault history ≡ None → Keeps disk stance now (payloads ++ added)
  -- each image that a crash may have left since the opening has a front of them, and each that it may leave now all that were taken
  pub moments : AtEachMoment disk opening.journal.disk now.journal.disk (HasFront payloads (added ++ last))
  pub images : (image : List ℕ) → disk.may_leave now.journal.disk image → Has (payloads ++ added) image ⊎ Has (payloads ++ added ++ last) image

-- of a kept `Full`, in a history of which this build of the definitions stood before: what it says the record that is due for its event
-- adds, by these weights, is so by the images of the builds before it and after it
abbrev pub IsSized : Weights → Setting → W.Build → TakeFault → Option Event → Type 0
IsSized x s w (Full len add) (Some e) = DueAdds x (world_before s w) e (world_image s (W.after_one s w e)) add
IsSized x s w (Full len add) None = Unit {0}
IsSized x s w Memory event = Unit {0}
IsSized x s w Disk event = Unit {0}
IsSized x s w Stopped event = Unit {0}

abbrev pub IsSizedAt : Weights → Setting → W.Build → List Entry → Type 0
IsSizedAt x s w [] = Unit {0}
IsSizedAt x s w (Took e ∷ es) = IsSizedAt x s (W.after_one s w e) es
IsSizedAt x s w (Claimed executor task keep_out kept_log kept_out ∷ es) = IsSizedAt x s w es
IsSizedAt x s w (Line line ∷ es) = IsSizedAt x s w es
IsSizedAt x s w (Failed fault event ∷ es) = IsSized x s w fault event

-- What is known by the opening and the history.
pub record Facts {D T : Type 0} (disk : DiskView D) (stance : T → Stance) (opening now : Kept D T) (history : List Entry) : Type 0 where
  -- the disk's count of faults: it rose where the disk failed, and only there
  pub count : disk.faults opening.journal.disk ≤ disk.faults now.journal.disk
  pub rose : kept_fault history ≡ Some Disk → Rose (disk.faults opening.journal.disk) (disk.faults now.journal.disk)
  pub calm : ¬ (kept_fault history ≡ Some Disk) → disk.faults now.journal.disk ≡ disk.faults opening.journal.disk
  -- the journal is never shorter
  pub longer : opening.journal.len ≤ now.journal.len
  -- there is one record more for each event that was taken
  pub counted : now.records ≡ opening.records + length (tooks history)
  -- the two numbers of `Full`, by the journal, its weights and the build now, and by each build of the definitions that the opening
  -- stands for
  pub full : (before : Option Image) × IsFullAt stance now.weights before now history
  pub size : (w : W.Build) → StandsFor stance opening.build w → IsSizedAt now.weights (setting_in opening.build) w history
  pub running : kept_fault history ≡ None → now.stopped ≡ false
  -- the build is that of the opening after the events that were taken
  pub shown : kept_fault history ≡ None → IsShown stance opening.build (tooks history) now.build
  pub grown : (payloads : List (List ℕ)) → Keeps disk stance opening payloads → Grown disk stance opening now history payloads

-- What holds of a site state between two asks; its history has room for one entry more, so that a fault is noted without memory.
pub record IsSite {D T : Type 0} (disk : DiskView D) (stance : T → Stance) (opening now : Kept D T) (history : List Entry) (capacity : ℕ) : Type 0 where
  pub facts : Facts disk stance opening now history
  pub room : kept_fault history ≡ None → length history < capacity
  pub settled : kept_fault history ≡ None → IsSettled now.build
