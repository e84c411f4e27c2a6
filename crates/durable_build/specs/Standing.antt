-- What a build over a disk keeps of the records of its journal (this product's own): whatever they say, it stands by the first
-- and the last of them; and where they are those of one build of the definitions, it stands for that one.
use Rattle.std.specs.Prelude.{◌≡◌, ◌⊎◌, ◌+◌, ℕ, Bool, true, false, if◌then◌else◌, List, [], ◌∷◌, ◌++◌, length, Option, Some, None, IfSome, IsSome}
use Rattle.std.specs.List.{AllByRecursion as AllAre}
use Rattle.journal_core.specs.Records.{framed}
use Rattle.journal_core.specs.State.{State, Holds}
use Rattle.delta_records.specs.declared.weights.Weights.{Weights}
use Rattle.delta_records.specs.Lower.record_form.Ordered.{IsInOrder}
use Rattle.delta_records.specs.Lower.record_form.declared.record.EventRecord.{EventRecord}
use Rattle.image_form.specs.declared.image.Image.{Image}
use Rattle.model_run.specs.declared.event.Event.TheVariants as event
use Rattle.model_run.specs.State.{Setting}
use Rattle.model_run.specs.World.{Build, world_in}
use Rattle.settle_laws.specs.Stances.{Stance}
use Rattle.build_images.specs.Lower.build_core.Builds.{Parts, StandsFor, setting_in}
use Rattle.build_images.specs.Lower.build_core.Phases.{has_begun}
use Rattle.store_laws.specs.Store.{IsStory, Mean, Told, events_of, image_at, last_image, record_at}
use Rattle.durable_build.specs.Kinds.{is_whole, is_whole_due, weights_of}
use Rattle.build_images.specs.Images.{world_image, image_in}
use Rattle.jp_disk.specs.View.{DiskView}
pub use Rattle.build_images.specs.Images.{IsWhole}

-- where the last record's gate stands, if the first one's stands here
abbrev pub last_place : ℕ → List ℕ → List (List ℕ) → ℕ
last_place at p [] = at
last_place at p (q ∷ qs) = last_place (at + 5 + length p) q qs

-- The first record: the `Start` of this script and this agents file, which mean this setting.
pub record Opening (setting : Setting) (script agents payload : List ℕ) : Type 0 where
  pub first : EventRecord
  pub tells : record_at None payload ≡ Some first
  pub starts : first.event ≡ event.Start script agents
  pub mean : Mean script agents setting

-- The last record has this image, whatever the records tell before the last one that holds a whole image.
abbrev pub Closing : Image → List (List ℕ) → Type 0
Closing image payloads = last_image payloads ≡ Some image

-- a build and the bytes of its `Start`, by the first and the last record; without a record nothing was taken
abbrev pub StandsBy : {T : Type 0} → (T → Stance) → Parts T → List ℕ → List ℕ → List (List ℕ) → Type 0
StandsBy stance b script agents [] = (has_begun b.phase ≡ false) × (script ≡ []) × (agents ≡ [])
StandsBy stance b script agents (p ∷ ps) = (has_begun b.phase ≡ true) × Opening (setting_in b) script agents p × Closing (image_in stance b) (p ∷ ps)

-- where the records tell of one build of this setting, it stands for that one
abbrev pub StandsForStory : {T : Type 0} → (T → Stance) → Parts T → List (List ℕ) → Type 0
StandsForStory stance b payloads =
    (records : List EventRecord) → Told None records payloads → IsStory world_image (setting_in b) records → StandsFor stance b (world_in (setting_in b) (events_of records))

-- the image of the last record, by the build: its own, where it has begun
abbrev pub image_before : {T : Type 0} → (T → Stance) → Parts T → Option Image
image_before stance b = if has_begun b.phase then Some (image_in stance b) else None

-- and by a build of the definitions
abbrev pub world_before : Setting → Build → Option Image
world_before setting w = if w.started then Some (world_image setting w) else None

-- What contracts see of a build over a disk: its journal, the build, the bytes of its `Start`, how many bytes the last payload with
-- a whole image has and those behind it, how many records there are, and whether a fault stopped it.
pub record Kept (D T : Type 0) : Type 0 where
  pub journal : State D
  pub build : Parts T
  pub script : List ℕ
  pub agents : List ℕ
  pub weights : Weights
  pub records : ℕ
  pub stopped : Bool

-- Of private fields alone: the kept image is that of the last record, by the build, stands in order and is whole; and for each build
-- of the definitions that this one stands for it is that one's.
pub record Remembers {T : Type 0} (stance : T → Stance) (b : Parts T) (kept : Option Image) : Type 0 where
  pub is : kept ≡ image_before stance b
  pub order : IfSome kept IsInOrder
  pub whole : IfSome kept (IsWhole (setting_in b))
  pub world : (w : Build) → StandsFor stance b w → kept ≡ world_before (setting_in b) w

-- Of private fields alone: where there is no record yet, the next one is to hold a whole image.
abbrev pub BeginsWhole : Option Image → Weights → Type 0
BeginsWhole None w = is_whole_due w ≡ true
BeginsWhole (Some image) w = Unit {0}

-- The journal holds these records, and the build stands by them.
pub record Keeps {D T : Type 0} (disk : DiskView D) (stance : T → Stance) (k : Kept D T) (payloads : List (List ℕ)) : Type 0 where
  pub holds : Holds disk k.journal payloads
  pub weighs : k.weights ≡ weights_of payloads
  pub counted : k.records ≡ length payloads
  pub stands : StandsBy stance k.build k.script k.agents payloads
  pub story : StandsForStory stance k.build payloads

-- The first record at fault of those that are read, by the place of its gate: it has no image. It holds a whole one, or the record
-- before it has an image; and none behind it holds a whole one.
pub record Breaks (payloads : List (List ℕ)) (at : ℕ) : Type 0 where
  pub front : List (List ℕ)
  pub payload : List ℕ
  pub behind : List (List ℕ)
  pub are : payloads ≡ front ++ payload ∷ behind
  pub place : at ≡ length (framed front)
  pub none : image_at (last_image front) payload ≡ None
  pub first : (is_whole payload ≡ true) ⊎ IsSome (last_image front)
  pub changes : AllAre (λ p. is_whole p ≡ false) behind

-- The last record has an image, which is not whole.
abbrev pub IsUnsound : Setting → List (List ℕ) → Type 0
IsUnsound setting payloads = (image : Image) × Closing image payloads × ¬ (IsWhole setting image)

-- The first record is not that of a `Start`; or it is, and the last one that holds a whole image or one behind it is at fault; or none
-- is, and the image of the last one does not pass the check.
abbrev pub IsDamagedAt : List (List ℕ) → ℕ → Type 0
IsDamagedAt [] at = ⊥
IsDamagedAt (p ∷ ps) at =
    ((at ≡ 0) × ((setting : Setting) (script agents : List ℕ) → ¬ (Opening setting script agents p)))
    ⊎ ((setting : Setting) × (script : List ℕ) × (agents : List ℕ) × Opening setting script agents p
    × (Breaks (p ∷ ps) at ⊎ ((at ≡ last_place 0 p ps) × IsUnsound setting (p ∷ ps))))
