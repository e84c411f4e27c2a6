-- What a command writes that shows the build of a store (this product's own).
use Rattle.std.specs.Prelude.{◌≡◌, ◌⊎◌, ◌<◌, ℕ, List, [], ◌∷◌, Option, Some, IfSome}
use Rattle.device_faults.specs.Faults.{Rose}
use Rattle.journal_core.specs.Records.{Has}
use Rattle.build_life.specs.Lower.record_form.declared.record.EventRecord.{EventRecord}
use Rattle.image_form.specs.declared.image.Image.{Image}
use Rattle.model_run.specs.State.{Setting}
use Rattle.model_run.specs.World.{Build, world_in}
use Rattle.build_life.specs.Lower.build_images.Images.{world_image}
use Rattle.build_life.specs.Lower.store_laws.Store.{IsStory, Tells, events_of}
use Rattle.build_life.specs.Lower.durable_build.declared.faults.StoreFault.TheVariants.{Damaged}
use Rattle.build_life.specs.Lower.durable_build.Opening.{OpenFails}
use Rattle.build_life.specs.Lower.durable_build.Standing.{Closing}
use Rattle.build_commands.specs.Texts.{out_of_memory_text, disk_failed_text, no_build_text, damaged_text}
use Rattle.build_commands.specs.Writing as writing
use Rattle.build_commands.specs.Writing.{Writes}

-- The store has a record and is not damaged; and where its records are those of one build, the text is that of the world of its events.
pub record ShowsBuild (text_of : Build → List ℕ) (file text : List ℕ) : Type 0 where
  pub some : ¬ (Has [] file)
  pub sound : (at : ℕ) → ¬ (OpenFails file (Damaged at))
  pub is : (setting : Setting) (records : List EventRecord) → Tells records file → IsStory world_image setting records → text ≡ text_of (world_in setting (events_of records))

-- Why the build of a store is not told, with status and text: by the bytes of the store where the disk tells them, and by the disk's count of
-- faults.
pub data NotTold (stored : Option (List ℕ)) (before after : ℕ) : ℕ → List ℕ → Type 0 where
  no_build : after ≡ before → IfSome stored (Has []) → NotTold stored before after 9 no_build_text
  damaged : (at : ℕ) → after ≡ before → IfSome stored (λ file. OpenFails file (Damaged at)) → NotTold stored before after 9 (damaged_text at)
  disk_failed : Rose before after → NotTold stored before after 5 disk_failed_text
  no_memory : after ≡ before → NotTold stored before after 8 out_of_memory_text

-- The table of a command that shows a build.
pub data Decides (text_of : Build → List ℕ) (stored : Option (List ℕ)) (before after : ℕ) : ℕ → List ℕ → Type 0 where
  shown : {text : List ℕ} → after ≡ before → IfSome stored (λ file. ShowsBuild text_of file text) → Decides text_of stored before after 0 text
  not_told : {status : ℕ} {text : List ℕ} → NotTold stored before after status text → Decides text_of stored before after status text

-- Its text was written whole, or the sink counted a fault and has the front of it: then the text of a build makes the status 7, and that of a
-- refusal leaves it as it is.
pub data Shows (text_of : Build → List ℕ) (stored : Option (List ℕ)) (before after : ℕ) (old new : Option (List ℕ)) (sink_before sink_after : ℕ) : ℕ → Type 0 where
  build : {text : List ℕ} {status : ℕ} → Decides text_of stored before after 0 text → Writes old new sink_before sink_after text 0 status
      → Shows text_of stored before after old new sink_before sink_after status
  refusal : {text : List ℕ} {status : ℕ} → Decides text_of stored before after status text → 0 < status → writing.Tells old new sink_before sink_after text
      → Shows text_of stored before after old new sink_before sink_after status

-- Where a build was shown, its text is that of the last record's image, whatever else the records tell.
abbrev pub ShowsLast : (Image → List ℕ) → List ℕ → Option (List ℕ) → Option (List ℕ) → ℕ → ℕ → ℕ → Type 0
ShowsLast text_in file old new sink_before sink_after status =
    (p : List ℕ) (ps : List (List ℕ)) (image : Image) → Has (p ∷ ps) file → Closing image (p ∷ ps) → (status ≡ 0) ⊎ (status ≡ 7)
    → Writes old new sink_before sink_after (text_in image) 0 status

-- The text of a build, for each build of the definitions that it stands for, was written or not; or its memory was refused.
pub data TellsOf (text_of : Build → List ℕ) (StandsFor : Build → Type 0) (old new : Option (List ℕ)) (sink_before sink_after : ℕ) : ℕ → Type 0 where
  told : {text : List ℕ} {status : ℕ} → ((w : Build) → StandsFor w → text ≡ text_of w) → Writes old new sink_before sink_after text 0 status → TellsOf text_of StandsFor old new sink_before sink_after status
  no_room : {status : ℕ} → status ≡ 8 → writing.Tells old new sink_before sink_after out_of_memory_text → TellsOf text_of StandsFor old new sink_before sink_after status

-- the store has a build: it has a record, and is not damaged
abbrev pub HasBuild : List ℕ → Type 0
HasBuild file = ¬ (Has [] file) × ((at : ℕ) → ¬ (OpenFails file (Damaged at)))

-- it has no record, or is damaged
abbrev pub HasNone : List ℕ → Type 0
HasNone file = Has [] file ⊎ ((at : ℕ) × OpenFails file (Damaged at))

-- When each status comes. Each yields to those above it, and all to want of memory.
pub record Causes (stored : Option (List ℕ)) (before after sink_before sink_after status : ℕ) : Type 0 where
  -- one of the table, and no other
  pub known : (status ≡ 0) ⊎ (status ≡ 5) ⊎ (status ≡ 7) ⊎ (status ≡ 8) ⊎ (status ≡ 9)
  -- 5 only where the disk counted a fault, and 7 only where the sink did
  pub disk : status ≡ 5 → Rose before after
  pub sink : status ≡ 7 → Rose sink_before sink_after
  -- 9 only where the store has no build, and there always, where the disk did not fail, but for want of memory
  pub refused : status ≡ 9 → IfSome stored HasNone
  pub refuses : ¬ (Rose before after) → (file : List ℕ) → stored ≡ Some file → HasNone file → (status ≡ 9) ⊎ (status ≡ 8)
  -- 0 and 7 only where it has one; and there always 0, where no device failed, but for want of memory
  pub shown : (status ≡ 0) ⊎ (status ≡ 7) → IfSome stored HasBuild
  -- where a text was shown, whole or its beginning, the disk counted no fault
  pub calm : (status ≡ 0) ⊎ (status ≡ 7) → after ≡ before
  pub shows : ¬ (Rose before after) → ¬ (Rose sink_before sink_after) → (file : List ℕ) → stored ≡ Some file → HasBuild file → (status ≡ 0) ⊎ (status ≡ 8)
