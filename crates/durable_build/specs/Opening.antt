-- What is found while a store is opened, and when each answer comes (this product's own).
use Rattle.std.specs.Prelude.{◌≡◌, ◌⊎◌, ◌<◌, ◌≤◌, ◌+◌, ℕ, suc, true, false, List, [], drop, take, length, slice_get, Option, Some, None, IfSome, IsSome, Result, Ok, Err}
use Rattle.std.specs.List.{AllByRecursion as AllAre}
use Rattle.journal_core.specs.Records.{framed, Has, HasThenDamaged}
use Rattle.model_syntax.specs.declared.tree.Tree.{Tree}
use Rattle.model_syntax.specs.FirstFault.{IsFaultless}
use Rattle.model_syntax.specs.TreeNodes.{tree_node}
use Rattle.model_run.specs.AgentsFile.{agents_file, Means}
use Rattle.model_run.specs.declared.event.Event.{Event}
use Rattle.model_run.specs.declared.event.Event.TheVariants as event
use Rattle.model_run.specs.declared.site.Site.{Site}
use Rattle.model_run.specs.State.{Setting}
use Rattle.model_run.specs.Terms.{term}
use Rattle.model_run.specs.World as W
use Rattle.image_form.specs.declared.image.Image.{Image}
use Rattle.cps_code.specs.declared.row.Row.{Row}
use Rattle.cps_code.specs.Script.{script_of}
use Rattle.settle_laws.specs.Stances.{Stance}
use Rattle.build_images.specs.Lower.build_core.Builds.{Parts, StandsFor, setting_in}
use Rattle.build_images.specs.Lower.build_core.Phases.{has_begun}
use Rattle.store_laws.specs.Store.{Mean, image_at, last_image, payload_in, script_limit}
use Rattle.delta_records.specs.Payloads.{next_image}
use Rattle.delta_records.specs.declared.payload.Payload.{Payload}
use Rattle.delta_records.specs.declared.weights.Weights.{Weights}
use Rattle.durable_build.specs.declared.faults.StoreFault.{StoreFault}
use Rattle.durable_build.specs.declared.faults.StoreFault.TheVariants.{Memory, Disk, Empty, Damaged}
use Rattle.durable_build.specs.declared.opening.Source.{Source}
use Rattle.durable_build.specs.declared.load.Loaded.{Loaded}
use Rattle.durable_build.specs.declared.load.Read.{Read}
use Rattle.build_images.specs.Images.{world_image, image_in}
use Rattle.durable_build.specs.Kinds.{is_whole, weights_of, weights_with}
use Rattle.durable_build.specs.Standing.{Breaks, IsDamagedAt, IsWhole, Kept, Keeps, Opening, StandsBy}
use Rattle.jp_disk.specs.View.{DiskView}

-- the setting of a numbered script on a site
abbrev pub setting_with : List Row → Site → Setting
setting_with code site = W.setting_of W.run_limits (script_of code) site

-- `Damaged` with this place
abbrev pub DamagedAt : ℕ → StoreFault → Type 0 → Type 0
DamagedAt at Memory Why = Unit {0}
DamagedAt at Disk Why = ⊥
DamagedAt at Empty Why = ⊥
DamagedAt at (Damaged n) Why = (n ≡ at) × Why

-- the code of a script, or that it has a fault
abbrev pub CodeOf : List ℕ → ℕ → Result (List Row) StoreFault → Type 0
CodeOf script at (Ok code) = (tree : Tree) × (length script ≤ script_limit) × IsFaultless script tree × (script_of code ≡ term 0 (tree_node tree))
CodeOf script at (Err e) = DamagedAt at e ((tree : Tree) → length script ≤ script_limit → IsFaultless script tree → ⊥)

-- the site of an agents file, or that it has a fault
abbrev pub SiteOf : List ℕ → ℕ → Result Site StoreFault → Type 0
SiteOf agents at (Ok site) = agents_file agents ≡ Means site
SiteOf agents at (Err e) = DamagedAt at e ((site : Site) → agents_file agents ≡ Means site → ⊥)

-- what both mean, or that one has a fault
abbrev pub SourceOf : List ℕ → List ℕ → ℕ → Result Source StoreFault → Type 0
SourceOf script agents at (Ok o) = (o.script ≡ script) × (o.agents ≡ agents) × Mean script agents (setting_with o.code o.site)
SourceOf script agents at (Err e) = DamagedAt at e ((setting : Setting) → Mean script agents setting → ⊥)

-- what a first event means, or that it is none
abbrev pub EventOpens : Event → ℕ → Result Source StoreFault → Type 0
EventOpens e at (Ok o) = (e ≡ event.Start o.script o.agents) × Mean o.script o.agents (setting_with o.code o.site)
EventOpens e at (Err f) = DamagedAt at f ((setting : Setting) (script agents : List ℕ) → e ≡ event.Start script agents → Mean script agents setting → ⊥)

-- what a first record means, or that it is none
abbrev pub OpensBy : List ℕ → ℕ → Result Source StoreFault → Type 0
OpensBy payload at (Ok o) = Opening (setting_with o.code o.site) o.script o.agents payload
OpensBy payload at (Err e) = DamagedAt at e ((setting : Setting) (script agents : List ℕ) → ¬ (Opening setting script agents payload))

-- the payload that bytes spell, or that they spell none
abbrev pub HasPayload : List ℕ → ℕ → Result Payload StoreFault → Type 0
HasPayload bytes at (Ok q) = payload_in bytes ≡ Some q
HasPayload bytes at (Err e) = DamagedAt at e (payload_in bytes ≡ None)

-- the image of a payload behind this image, or that it has none
abbrev pub MakesImage : Option Image → Payload → ℕ → Result Image StoreFault → Type 0
MakesImage before q at (Ok image) = next_image before q ≡ Some image
MakesImage before q at (Err e) = DamagedAt at e (next_image before q ≡ None)

-- the image of a record behind the record with this image, or that it has none
abbrev pub FindsImage : Option Image → List ℕ → ℕ → Result Image StoreFault → Type 0
FindsImage before payload at (Ok image) = image_at before payload ≡ Some image
FindsImage before payload at (Err e) = DamagedAt at e (image_at before payload ≡ None)

-- what a record makes behind the record with this image
abbrev pub NextBy : Option Image → Weights → List ℕ → ℕ → Result Read StoreFault → Type 0
NextBy before w payload at (Ok read) = (image_at before payload ≡ Some read.image) × (read.weights ≡ weights_with w payload)
NextBy before w payload at (Err e) = DamagedAt at e (image_at before payload ≡ None)

-- the payload at this place holds a whole image, or is the first; and none behind it holds one
abbrev pub IsLastWhole : List (List ℕ) → ℕ → Type 0
IsLastWhole payloads k = ((k ≡ 0) ⊎ IfSome (slice_get payloads k) (λ p. is_whole p ≡ true)) × AllAre (λ p. is_whole p ≡ false) (drop (suc k) payloads)

-- what the first payload makes, and k behind it
pub record ReadUp (payloads : List (List ℕ)) (k : ℕ) (read : Read) : Type 0 where
  pub image : last_image (take (suc k) payloads) ≡ Some read.image
  pub weights : read.weights ≡ weights_of (take (suc k) payloads)

-- the first of these payloads that has no image; they stand behind those in front
pub record BreaksFrom (front payloads : List (List ℕ)) (at : ℕ) : Type 0 where
  pub passed : ℕ
  pub payload : List ℕ
  pub is : slice_get payloads passed ≡ Some payload
  pub place : at ≡ length (framed front) + length (framed (take passed payloads))
  pub none : image_at (last_image (take passed payloads)) payload ≡ None
  pub first : (passed ≡ 0) ⊎ IsSome (last_image (take passed payloads))

-- what these payloads make, from the first of them on
abbrev pub FoundFrom : List (List ℕ) → List (List ℕ) → Result Read StoreFault → Type 0
FoundFrom front payloads (Ok read) = (last_image payloads ≡ Some read.image) × (read.weights ≡ weights_of payloads)
FoundFrom front payloads (Err Memory) = Unit {0}
FoundFrom front payloads (Err Disk) = Unit {0}
FoundFrom front payloads (Err Empty) = ⊥
FoundFrom front payloads (Err (Damaged at)) = BreaksFrom front payloads at

-- what all payloads make
abbrev pub LastFound : List (List ℕ) → Result Read StoreFault → Type 0
LastFound payloads (Ok read) = (last_image payloads ≡ Some read.image) × (read.weights ≡ weights_of payloads)
LastFound payloads (Err Memory) = Unit {0}
LastFound payloads (Err Disk) = Unit {0}
LastFound payloads (Err Empty) = ⊥
LastFound payloads (Err (Damaged at)) = Breaks payloads at

-- the build that goes on from an image, or that the image is not whole
abbrev pub GoesOnFrom : {T : Type 0} → (T → Stance) → Setting → Image → ℕ → Result (Parts T) StoreFault → Type 0
GoesOnFrom stance setting image at (Ok b) = (setting_in b ≡ setting) × (has_begun b.phase ≡ true) × (image_in stance b ≡ image)
GoesOnFrom stance setting image at (Err e) = DamagedAt at e (IsWhole setting image → ⊥)

-- it stands for each build of the definitions that has begun and has its image
abbrev pub StandsWhere : {T : Type 0} → (T → Stance) → Parts T → Type 0
StandsWhere stance b =
    (events : List Event) → (W.world_in (setting_in b) events).started ≡ true → image_in stance b ≡ world_image (setting_in b) (W.world_in (setting_in b) events)
    → StandsFor stance b (W.world_in (setting_in b) events)

-- what all records of a store make
abbrev pub LoadFinds : {T : Type 0} → (T → Stance) → List (List ℕ) → Result (Loaded T) StoreFault → Type 0
LoadFinds stance payloads (Ok l) = StandsBy stance l.build l.script l.agents payloads × (l.last.weights ≡ weights_of payloads)
LoadFinds stance payloads (Err Memory) = Unit {0}
LoadFinds stance payloads (Err Disk) = Unit {0}
LoadFinds stance payloads (Err Empty) = ⊥
LoadFinds stance payloads (Err (Damaged at)) = IsDamagedAt payloads at

-- Empty exactly where the file has no record; Damaged exactly where its framing is at fault, or a record that is read, with the
-- place of that record's gate.
abbrev pub OpenFails : List ℕ → StoreFault → Type 0
OpenFails file Memory = Unit {0}
OpenFails file Disk = Unit {0}
OpenFails file Empty = Has [] file
OpenFails file (Damaged at) = (payloads : List (List ℕ)) × ((HasThenDamaged payloads file × (at ≡ length (framed payloads))) ⊎ (Has payloads file × IsDamagedAt payloads at))

-- the file has records, and the opened build stands by them
pub record Opened {D T : Type 0} (disk : DiskView D) (stance : T → Stance) (file : List ℕ) (k : Kept D T) : Type 0 where
  pub payloads : List (List ℕ)
  pub some : 0 < length payloads
  pub has : Has payloads file
  pub keeps : Keeps disk stance k payloads
