-- How a command ends that lets a build go on, by the counts of its devices and what is written: over any disk, also one that tells none of its
-- bytes (this product's own).
use Rattle.std.specs.Prelude.{◌≡◌, ◌⊎◌, ◌+◌, ◌<◌, ◌≤◌, ◌^◌, ℕ, true, List, [], ◌∷◌, ◌++◌, length, take, Option, Some}
use Rattle.std.specs.List.{AllByRecursion as AllAre}
use Rattle.device_faults.specs.Faults.{Rose}
use Rattle.jp_disk.specs.Runs.{AtEachMoment}
use Rattle.journal_core.specs.Records.{Has, framed}
use Rattle.image_form.specs.declared.image.Image.{Image}
use Rattle.build_life.specs.Lower.record_form.declared.record.EventRecord.{EventRecord}
use Rattle.model_run.specs.declared.event.Event.{Event}
use Rattle.model_run.specs.State.{Setting}
use Rattle.build_life.specs.Lower.store_laws.Store.{Told, events_of, last_image}
use Rattle.journal_core.specs.declared.faults.TakeFault.TheVariants.{Full}
use Rattle.build_life.specs.Lower.delta_records.declared.weights.Weights.{Weights}
use Rattle.build_life.specs.Lower.durable_build.Kinds.{weights_of}
use Rattle.build_life.specs.Lower.durable_build.Standing.{Closing, IsWhole, Opening}
use Rattle.build_life.specs.Lower.durable_build.Taking.{DueAdds}
use Rattle.build_life.specs.Lower.locked_build.declared.ask.Entry.{Entry}
use Rattle.build_life.specs.Lower.locked_build.declared.ask.Entry.TheVariants.{Failed}
use Rattle.build_life.specs.Lower.locked_build.Facts.{HasFront}
use Rattle.build_life.specs.Lower.locked_build.Histories.{pending, tooks}
use Rattle.build_life.specs.Lower.member_turns.Tales.{is_grant}
use Rattle.build_commands.specs.Statuses.{HasLog, status_of}
use Rattle.build_commands.specs.Lines.{read_failed_text}
use Rattle.build_commands.specs.Texts.{disk_failed_text, full_text, out_of_memory_text}
use Rattle.build_commands.specs.Writing.{Writes, Tells}
use Rattle.jp_disk.specs.View.{DiskView}

module _ (disk_before disk_after answers_before answers_after : ℕ) (old new : Option (List ℕ)) (sink_before sink_after : ℕ) where
  pub data Reports : ℕ → Type 0 where
    -- a build has ended or waits, and its log is written
    rested : {log : List ℕ} {ended status : ℕ} → disk_after ≡ disk_before → HasLog ended → Writes old new sink_before sink_after log ended status → Reports status
    answers_failed : disk_after ≡ disk_before → Rose answers_before answers_after → Tells old new sink_before sink_after read_failed_text → Reports 6
    disk_failed : Rose disk_before disk_after → Tells old new sink_before sink_after disk_failed_text → Reports 5
    full : (len add : ℕ) → 2 ^ 30 < len + add → disk_after ≡ disk_before → Tells old new sink_before sink_after (full_text len add) → Reports 14
    no_memory : disk_after ≡ disk_before → Tells old new sink_before sink_after out_of_memory_text → Reports 8

-- the status of a build that broke off: the answers or the disk failed, memory was wanting, or a record does not fit
abbrev pub IsBroken : ℕ → Type 0
IsBroken status = (status ≡ 6) ⊎ (status ≡ 5) ⊎ (status ≡ 14) ⊎ (status ≡ 8)

-- the status of the build of this image
abbrev pub image_status : Image → ℕ
image_status image = status_of image.ended image.result

-- the length of a journal of these records: they in their frames, and the gate behind the last of them
abbrev pub length_with : List (List ℕ) → ℕ
length_with payloads = length (framed payloads) + 1

-- A log was written, or its front: that of the image of the last of these records, with the status of the build of that image. The image is whole, by this setting: the
-- next opening of the store goes on from it.
pub record ShowsEnd (setting : Setting) (payloads : List (List ℕ)) (written now : Option (List ℕ)) (sink_before sink_after status : ℕ) : Type 0 where
  pub image : Image
  pub ends : Closing image payloads
  pub whole : IsWhole setting image
  pub wrote : Writes written now sink_before sink_after image.log (image_status image) status

-- all of these events are grants, which nobody asks for
abbrev pub AreGrants : List Event → Type 0
AreGrants events = AllAre (λ e. is_grant e ≡ true) events

-- These are the records of a life with this history, behind the record with the image before: one of each event that was taken, in order, and before them those of the grants that were made at its opening.
pub record TellTaken (before : Option Image) (history : List Entry) (payloads : List (List ℕ)) : Type 0 where
  pub granted : List Event
  pub are_grants : AreGrants granted
  pub records : List EventRecord
  pub events : events_of records ≡ granted ++ tooks history
  pub spelled : Told before records payloads

-- The record that may be on the disk though its take failed: that of the event which the history says that the disk failed; or where the history is empty, that of
-- a grant.
pub record TellRisked (before : Option Image) (history : List Entry) (payloads : List (List ℕ)) : Type 0 where
  pub records : List EventRecord
  pub events : (events_of records ≡ pending history) ⊎ ((history ≡ []) × AreGrants (events_of records))
  pub spelled : Told before records payloads

-- the history says that the record of this event did not fit, with these two numbers: the length of the journal, and what it would add
abbrev pub IsNoted : List Entry → ℕ → ℕ → Event → Type 0
IsNoted history len add event = (before : List Entry) × (behind : List Entry) × (history ≡ before ++ Failed (Full len add) (Some event) ∷ behind)

-- The record that is due for this event behind these records did not fit: the history says so; or no history tells of it, and it is a grant. The text tells how long the
-- journal of these records is, and what the due record would add, with some image behind the event.
pub record IsFullBehind (payloads : List (List ℕ)) (history : List Entry) (written now : Option (List ℕ)) (sink_before sink_after : ℕ) : Type 0 where
  pub event : Event
  pub image : Image
  pub add : ℕ
  pub adds : DueAdds (weights_of payloads) (last_image payloads) event image add
  pub noted : IsNoted history (length_with payloads) add event ⊎ ((history ≡ []) × (is_grant event ≡ true))
  pub too_long : 2 ^ 30 < length_with payloads + add
  pub told : Tells written now sink_before sink_after (full_text (length_with payloads) add)

-- the last of these records has an image, which is whole
abbrev pub EndsWhole : Setting → List (List ℕ) → Type 0
EndsWhole setting payloads = (image : Image) × Closing image payloads × IsWhole setting image

-- What becomes of a store that kept these records, whatever they tell, in a life from there on with this history: it has them still, and behind them the records of the
-- life, and no other; and with 5 perhaps that of the event whose take the disk failed. A crash meanwhile leaves them and the first of those behind them, and the last of
-- all that it leaves has a whole image, so that the next opening goes on from it. A log, or
-- its front, is that of the image of the last record of all, which has one then, with the status of the build of that image; and 14 tells the length of the journal of all of them, which the record that was due for an event would have made too long. Which image a new record has,
-- nothing says of a build that is no world's.
pub record KeepsRecords {D : Type 0} (disk : DiskView D) (setting : Setting) (old : D) (payloads : List (List ℕ)) (history : List Entry) (state : D) (written now : Option (List ℕ)) (sink_before sink_after status : ℕ) : Type 0 where
  pub more : List (List ℕ)
  pub taken : TellTaken (last_image payloads) history more
  pub risked : List (List ℕ)
  pub at_risk : TellRisked (last_image (payloads ++ more)) history risked
  pub one : length risked ≤ 1
  pub sure : ¬ (status ≡ 5) → risked ≡ []
  pub at_end : (image : List ℕ) → disk.may_leave state image → Has (payloads ++ more) image ⊎ Has (payloads ++ more ++ risked) image
  pub moments : AtEachMoment disk old state (HasFront payloads (more ++ risked))
  pub sound : (k : ℕ) → EndsWhole setting (payloads ++ take k (more ++ risked))
  pub shown : IsBroken status ⊎ ShowsEnd setting (payloads ++ more) written now sink_before sink_after status
  pub full : status ≡ 14 → IsFullBehind (payloads ++ more) history written now sink_before sink_after

-- the first of these records is that of a `Start` of this setting
abbrev pub StartsBy : Setting → List (List ℕ) → Type 0
StartsBy setting [] = ⊥
StartsBy setting (p ∷ ps) = (script : List ℕ) × (agents : List ℕ) × Opening setting script agents p

-- What becomes of a store whose build is gone on with, whatever its records tell; the setting of the build is that of the first record. Up to a moment a crash
-- leaves nothing new.
pub record LeavesStore {D : Type 0} (disk : DiskView D) (setting : Setting) (file : List ℕ) (history : List Entry) (old state : D) (written now : Option (List ℕ)) (sink_before sink_after status : ℕ) : Type 0 where
  pub payloads : List (List ℕ)
  pub has : Has payloads file
  pub begun : StartsBy setting payloads
  pub opened : D
  pub up_to : AtEachMoment disk old opened (disk.may_leave old)
  pub keeps : ∥ KeepsRecords disk setting opened payloads history state written now sink_before sink_after status ∥₁

-- The record that was due for this event did not fit into the store: the history says so, of an event that was asked for or of a grant behind one; or the history
-- is empty and nobody had a turn, and it is a grant. The text tells how long the journal is, and what the record would add, by some weights of the records of the
-- journal, with some image behind the event and some image of the record before.
pub record IsTooLong (Asked : Event → Type 0) (Idle : Type 0) (history : List Entry) (written now : Option (List ℕ)) (sink_before sink_after : ℕ) : Type 0 where
  pub event : Event
  pub asked : (is_grant event ≡ true) ⊎ Asked event
  pub before : Option Image
  pub image : Image
  pub len : ℕ
  pub add : ℕ
  pub weights : Weights
  pub adds : DueAdds weights before event image add
  pub noted : IsNoted history len add event ⊎ ((history ≡ []) × Idle × (is_grant event ≡ true))
  pub too_long : 2 ^ 30 < len + add
  pub told : Tells written now sink_before sink_after (full_text len add)
