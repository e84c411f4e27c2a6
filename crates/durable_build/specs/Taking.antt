-- When each answer to an event comes, and what it leaves (this product's own).
use Rattle.std.specs.Prelude.{◌≡◌, ◌<◌, ◌≤◌, ◌+◌, ◌-◌, ◌^◌, ℕ, true, false, List, [], ◌∷◌, ◌++◌, length, min, Option, Some, None, IfSome, Result, Ok, Err}
use Rattle.jp_disk.specs.Runs.{AtEachMoment}
use Rattle.journal_core.specs.Records.{HasWithOrWithout}
use Rattle.journal_core.specs.State.{State}
use Rattle.field_form.specs.Forms.{Spells}
use Rattle.delta_records.specs.Lower.record_form.Records.{record_of}
use Rattle.delta_records.specs.Payloads.{payload_form}
use Rattle.delta_records.specs.declared.payload.Payload.{Payload}
use Rattle.delta_records.specs.declared.payload.Payload.TheVariants as payload
use Rattle.delta_records.specs.declared.weights.Weights.{Weights}
use Rattle.build_images.specs.Lower.image_changes.Least.{IsLeast}
use Rattle.delta_records.specs.Lower.record_form.declared.record.EventRecord.{EventRecord}
use Rattle.image_form.specs.declared.image.Image.{Image}
use Rattle.model_run.specs.declared.event.Event.{Event}
use Rattle.model_run.specs.declared.event.Event.TheVariants as event
use Rattle.model_run.specs.declared.taken.Taken.{Taken}
use Rattle.model_run.specs.declared.taken.Taken.TheVariants.{Accepted, NotOpen, WrongPlace, Finished}
use Rattle.model_run.specs.State.{Setting}
use Rattle.model_run.specs.Taking.{taken}
use Rattle.model_run.specs.World as W
use Rattle.settle_laws.specs.Stances.{Stance}
use Rattle.build_images.specs.Lower.build_core.Builds.{Parts, StandsFor, setting_in, standing_of}
use Rattle.build_images.specs.Lower.build_core.Phases.{has_begun}
use Rattle.store_laws.specs.Store.{Mean, last_image, record_at, record_with}
use Rattle.journal_core.specs.declared.faults.TakeFault.{TakeFault}
use Rattle.journal_core.specs.declared.faults.TakeFault.TheVariants.{Memory, Disk, Full, Stopped}
use Rattle.durable_build.specs.declared.store.Sources.{Sources}
use Rattle.build_images.specs.Images.{world_image, image_in}
use Rattle.durable_build.specs.Kinds.{is_whole_due, weights_of, weights_with}
use Rattle.durable_build.specs.Standing.{IsWhole, Kept, Keeps, image_before, world_before}
use Rattle.jp_disk.specs.View.{DiskView}

-- how many bytes a record of this payload adds to a journal, or the greatest number of 64 bits where it adds more
abbrev pub added : Payload → ℕ
added q = min (5 + length (payload_form.spelling q)) (2 ^ 64 - 1)

-- The kind of a payload: it holds a whole image exactly where one is due, else the changes alone.
abbrev pub IsKind : Weights → Payload → Type 0
IsKind w (payload.Whole e image) = is_whole_due w ≡ true
IsKind w (payload.Changed e delta) = is_whole_due w ≡ false

-- A payload of changes holds what changed of the image before alone.
abbrev pub HoldsLeast : Option Image → Payload → Type 0
HoldsLeast before (payload.Whole e image) = Unit {0}
HoldsLeast before (payload.Changed e delta) = IfSome before (λ image. IsLeast image delta)

-- The payload that is due for an event and the image after it.
pub record IsDue (w : Weights) (before : Option Image) (e : Event) (image : Image) (q : Payload) : Type 0 where
  pub tells : record_with before q ≡ Some (record_of e image)
  pub kind : IsKind w q
  pub least : HoldsLeast before q

-- what the payload that is due adds
abbrev pub DueAdds : Weights → Option Image → Event → Image → ℕ → Type 0
DueAdds w before e image add = (q : Payload) × IsDue w before e image q × (add ≡ added q)

-- what the payload that is due adds, is so
abbrev pub ForDue : {D T : Type 0} → (T → Stance) → Kept D T → Kept D T → Event → (ℕ → Type 0) → Type 0
ForDue stance old new e IsSo = (q : Payload) × IsDue old.weights (image_before stance old.build) e (image_in stance new.build) q × IsSo (added q)

-- a first event is of the build's own script and agents file
abbrev pub MayStart : Setting → Event → Type 0
MayStart setting (event.Start script agents) = Mean script agents setting
MayStart setting e = Unit {0}

-- Stopped exactly where an earlier fault stopped the build. Else the answer of the build; of an accepted event Full exactly
-- where its record is too much for the journal, with its length and what the record adds, and Disk only where it is not.
abbrev pub TakeAnswers : {D T : Type 0} → (T → Stance) → Kept D T → Kept D T → Event → Result Taken TakeFault → Type 0
TakeAnswers stance old new e (Ok answer) = (old.stopped ≡ false) × (answer ≡ taken (standing_of old.build) e)
TakeAnswers stance old new e (Err Memory) = old.stopped ≡ false
TakeAnswers stance old new e (Err Disk) = (old.stopped ≡ false) × (taken (standing_of old.build) e ≡ Accepted) × ForDue stance old new e (λ add. old.journal.len + add ≤ 2 ^ 30)
TakeAnswers stance old new e (Err (Full len add)) =
    (old.stopped ≡ false) × (taken (standing_of old.build) e ≡ Accepted) × (len ≡ old.journal.len) × (2 ^ 30 < len + add) × ForDue stance old new e (λ due. add ≡ due)
TakeAnswers stance old new e (Err Stopped) = old.stopped ≡ true

-- The journal is longer by the record of the payload that is due, and this one is counted.
pub record Longer {D T : Type 0} (stance : T → Stance) (old new : Kept D T) (e : Event) : Type 0 where
  pub payload : Payload
  pub due : IsDue old.weights (image_before stance old.build) e (image_in stance new.build) payload
  pub len : new.journal.len ≡ old.journal.len + added payload
  pub weights : new.weights ≡ weights_with old.weights (payload_form.spelling payload)
  pub records : new.records ≡ old.records + 1

-- what is counted of the records stays so
abbrev pub SameCounts : {D T : Type 0} → Kept D T → Kept D T → Type 0
SameCounts old new = (new.weights ≡ old.weights) × (new.records ≡ old.records)

-- Each fault stops the build, and leaves what is counted of the records. Memory, Full and Stopped leave the journal, and what is not
-- accepted leaves all.
abbrev pub TakeLeaves : {D T : Type 0} → (T → Stance) → Kept D T → Kept D T → Event → Result Taken TakeFault → Type 0
TakeLeaves stance old new e (Ok Accepted) = (new.stopped ≡ false) × (has_begun new.build.phase ≡ true) × Longer stance old new e × (new.journal.len ≤ 2 ^ 30)
TakeLeaves stance old new e (Ok NotOpen) = new ≡ old
TakeLeaves stance old new e (Ok (WrongPlace kept)) = new ≡ old
TakeLeaves stance old new e (Ok Finished) = new ≡ old
TakeLeaves stance old new e (Err Memory) = (new.stopped ≡ true) × (new.journal ≡ old.journal) × SameCounts old new
TakeLeaves stance old new e (Err Disk) = (new.stopped ≡ true) × (new.journal.len ≡ old.journal.len) × SameCounts old new
TakeLeaves stance old new e (Err (Full len add)) = (new.stopped ≡ true) × (new.journal ≡ old.journal) × SameCounts old new
TakeLeaves stance old new e (Err Stopped) = new ≡ old

-- The image after an accepted event is whole for the build's setting, whether its record was added, refused or failed: `open` goes on
-- from a store that ends with it.
abbrev pub LeavesWhole : {T : Type 0} → (T → Stance) → Setting → Parts T → Result Taken TakeFault → Type 0
LeavesWhole stance setting b (Ok Accepted) = IsWhole setting (image_in stance b)
LeavesWhole stance setting b (Err Disk) = IsWhole setting (image_in stance b)
LeavesWhole stance setting b (Err (Full len add)) = IsWhole setting (image_in stance b)
LeavesWhole stance setting b r = Unit {0}

-- the script and the agents file behind an accepted event: those of a `Start`, or those from before
abbrev pub script_after : Event → List ℕ → List ℕ
script_after (event.Start script agents) old = script
script_after e old = old

abbrev pub agents_after : Event → List ℕ → List ℕ
agents_after (event.Start script agents) old = agents
agents_after e old = old

-- An accepted `Start` brings its script and its agents file. No other event and no other answer, a fault too, changes the kept ones.
abbrev pub TakeSources : {D T : Type 0} → Kept D T → Kept D T → Event → Result Taken TakeFault → Type 0
TakeSources old new e (Ok Accepted) = (new.script ≡ script_after e old.script) × (new.agents ≡ agents_after e old.agents)
TakeSources old new e r = (new.script ≡ old.script) × (new.agents ≡ old.agents)

-- where the build stood for one of the definitions, it has the image of that one after the event
abbrev pub IsAfter : {D T : Type 0} → (T → Stance) → Kept D T → Kept D T → Event → Type 0
IsAfter stance old new e = (w : W.Build) → StandsFor stance old.build w → image_in stance new.build ≡ world_image (setting_in old.build) (W.after_one (setting_in old.build) w e)

-- where the build stood for one of the definitions, the image of the last record is that one's
abbrev pub IsBehind : {D T : Type 0} → (T → Stance) → Kept D T → Type 0
IsBehind stance old = (w : W.Build) → StandsFor stance old.build w → image_before stance old.build ≡ world_before (setting_in old.build) w

-- The size that `Full` tells is that of the event's own record, behind the last one.
abbrev pub IsSized : {D T : Type 0} → (T → Stance) → Kept D T → Kept D T → Event → Result Taken TakeFault → Type 0
IsSized stance old new e (Ok answer) = Unit {0}
IsSized stance old new e (Err Memory) = Unit {0}
IsSized stance old new e (Err Disk) = Unit {0}
IsSized stance old new e (Err (Full len add)) = IsAfter stance old new e × IsBehind stance old
IsSized stance old new e (Err Stopped) = Unit {0}

-- a record was to be added: a crash meanwhile leaves the records from before, or these and the new one, of the kind that is due
pub record Puts {D : Type 0} (disk : DiskView D) (old new : State D) (item : EventRecord) (payloads : List (List ℕ)) : Type 0 where
  pub payload : List ℕ
  pub tells : record_at (last_image payloads) payload ≡ Some item
  pub spelled : Payload
  pub spells : Spells payload_form spelled payload
  pub kind : IsKind (weights_of payloads) spelled
  pub least : HoldsLeast (last_image payloads) spelled
  pub room : old.len + (5 + length payload) ≤ 2 ^ 30
  pub moments : AtEachMoment disk old.disk new.disk (HasWithOrWithout payloads payload)

-- The accepted event has its record behind those from before, and the build stands by them all. Where it stood for a build of
-- the definitions, the record has the image of that one after the event.
pub record Adds {D T : Type 0} (disk : DiskView D) (stance : T → Stance) (old new : Kept D T) (e : Event) (payloads : List (List ℕ)) : Type 0 where
  pub puts : Puts disk old.journal new.journal (record_of e (image_in stance new.build)) payloads
  pub keeps : Keeps disk stance new (payloads ++ puts.payload ∷ [])
  pub image : IsAfter stance old new e

-- The disk failed: the record of the accepted event is there or not, now and after a crash.
pub record Risks {D T : Type 0} (disk : DiskView D) (stance : T → Stance) (old new : Kept D T) (e : Event) (payloads : List (List ℕ)) : Type 0 where
  pub puts : Puts disk old.journal new.journal (record_of e (image_in stance new.build)) payloads
  pub image : IsAfter stance old new e

-- the store after a take; with another answer nothing was written
abbrev pub TakeKeeps : {D T : Type 0} → DiskView D → (T → Stance) → Kept D T → Kept D T → Event → List (List ℕ) → Result Taken TakeFault → Type 0
TakeKeeps disk stance old new e payloads (Ok Accepted) = Adds disk stance old new e payloads
TakeKeeps disk stance old new e payloads (Err Disk) = Risks disk stance old new e payloads
TakeKeeps disk stance old new e payloads r = Unit {0}

-- Of private functions alone: the sources that an event brings, and those that are kept then.
abbrev pub IsSource : Event → Option Sources → Type 0
IsSource (event.Start script agents) o = o ≡ Some (record { script = script; agents = agents })
IsSource e o = o ≡ None

abbrev pub kept_script : Option Sources → List ℕ → List ℕ
kept_script None old = old
kept_script (Some s) old = s.script

abbrev pub kept_agents : Option Sources → List ℕ → List ℕ
kept_agents None old = old
kept_agents (Some s) old = s.agents
