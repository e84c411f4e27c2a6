-- How a record comes into the journal (of private functions alone).
use Rattle.std.specs.Prelude.{◌≡◌, ◌<◌, ◌≤◌, ◌+◌, ◌-◌, ◌^◌, ℕ, Bool, true, false, List, [], ◌∷◌, ◌++◌, length, min, Option, Some, None, IfSome, Result, Ok, Err}
use Rattle.journal_core.specs.State.{State, Holds}
use Rattle.field_form.specs.Forms.{Spells}
use Rattle.delta_records.specs.Lower.record_form.Records.{record_of}
use Rattle.delta_records.specs.Lower.record_form.declared.record.EventRecord.{EventRecord}
use Rattle.image_form.specs.declared.image.Image.{Image}
use Rattle.delta_records.specs.Lower.delta_form.After.{after}
use Rattle.delta_records.specs.Lower.delta_form.Applying.{◌>>=◌}
use Rattle.delta_records.specs.Lower.delta_form.declared.delta.Delta.{Delta}
use Rattle.delta_records.specs.Payloads.{payload_form}
use Rattle.delta_records.specs.declared.payload.Payload.{Payload}
use Rattle.delta_records.specs.declared.payload.Payload.TheVariants as payload
use Rattle.delta_records.specs.declared.weights.Weights.{Weights}
use Rattle.build_images.specs.Lower.image_changes.Least.{IsLeast}
use Rattle.build_images.specs.Lower.image_changes.Seen.{KeepsUnmarked}
use Rattle.model_run.specs.Among.{AreAmong}
use Rattle.model_run.specs.FlowNodes.{IsFront}
use Rattle.model_run.specs.Requests.{RequestsStay}
use Rattle.model_run.specs.World.{Build}
use Rattle.settle_laws.specs.Stances.{Stance}
use Rattle.cps_code.specs.Script.{script_of}
use Rattle.build_images.specs.Lower.build_core.Builds.{Parts, StandsFor, setting_in}
use Rattle.build_images.specs.Fronts.{ThreadsStand}
use Rattle.build_images.specs.Images.{image_in}
use Rattle.model_run.specs.declared.event.Event.{Event}
use Rattle.journal_core.specs.declared.faults.TakeFault.{TakeFault}
use Rattle.journal_core.specs.declared.faults.TakeFault.TheVariants.{Memory, Disk, Full, Stopped}
use Rattle.store_laws.specs.Store.{last_image}
use Rattle.durable_build.specs.Kinds.{is_whole_due, weights_of, weights_with}
use Rattle.durable_build.specs.Taking.{IsDue, Puts, added}
use Rattle.jp_disk.specs.View.{DiskView}

-- What is known of the image before, and the marks of the cells and of the threads, tell what changed since: its
-- binding variables stand now, each unmarked cell stands as it stood in it, its flow nodes and its log are the beginning
-- of those now, an open request that it has is the same but for what was taken and came to the output, and of a thread
-- that it has the frames are the same that count as untouched, and all but its parent and what it waits for where it took
-- no turn.
pub record MarksChanges {T : Type 0} (low : T → ℕ) (touched : T → Bool) (stance : T → Stance) (before : Image) (now : Parts T) : Type 0 where
  pub bindings : AreAmong before.bindings now.shared.binding.items
  pub cells : KeepsUnmarked before.cells now.shared.heap
  pub nodes : IsFront before.nodes now.shared.graph
  pub log : IsFront before.log now.shared.log
  pub requests : RequestsStay before.requests now.shared.requests
  pub threads : ThreadsStand low touched stance (script_of now.shared.code) before.threads now.group.seats

-- The build is the same but for the marks of its cells and of its threads, which nothing else hangs on.
pub record IsSameButMarks {T : Type 0} (stance : T → Stance) (old new : Parts T) : Type 0 where
  pub setting : setting_in new ≡ setting_in old
  pub phase : new.phase ≡ old.phase
  pub image : image_in stance new ≡ image_in stance old
  pub stands : (w : Build) → StandsFor stance old w → StandsFor stance new w

-- the changes that the next record is to hold, or that it is to hold a whole image
abbrev pub IsDueDelta : Weights → Option Image → Image → Option Delta → Type 0
IsDueDelta w before image None = is_whole_due w ≡ true
IsDueDelta w before image (Some delta) = (is_whole_due w ≡ false) × ((before >>= λ i. after i delta) ≡ Some image) × IfSome before (λ i. IsLeast i delta)

-- the payload that holds them
abbrev pub payload_of : Event → Image → Option Delta → Payload
payload_of e image None = payload.Whole e image
payload_of e image (Some delta) = payload.Changed e delta

-- a payload of so many bytes has room in a journal of this length, or not
abbrev pub HasRoom : ℕ → ℕ → Result (Unit {0}) TakeFault → Type 0
HasRoom len size (Ok _) = len + (5 + size) ≤ 2 ^ 30
HasRoom len size (Err (Full l a)) = (l ≡ len) × (2 ^ 30 < l + a) × (a ≡ min (5 + size) (2 ^ 64 - 1))
HasRoom len size (Err e) = ⊥

-- the spelling of a payload that has room in a journal of this length
abbrev pub SpellsDue : ℕ → Payload → Result (List ℕ) TakeFault → Type 0
SpellsDue len q (Ok bytes) = Spells payload_form q bytes × (len + (5 + length bytes) ≤ 2 ^ 30)
SpellsDue len q (Err (Full l a)) = (l ≡ len) × (2 ^ 30 < l + a) × (a ≡ added q)
SpellsDue len q (Err Memory) = Unit {0}
SpellsDue len q (Err e) = ⊥

-- adding a record, of so many bytes with its frame, to a journal of this length
abbrev pub AddAnswers : ℕ → ℕ → Result (Unit {0}) TakeFault → Type 0
AddAnswers len add (Ok _) = len + add ≤ 2 ^ 30
AddAnswers len add (Err Memory) = Unit {0}
AddAnswers len add (Err Disk) = len + add ≤ 2 ^ 30
AddAnswers len add (Err (Full l a)) = (l ≡ len) × (2 ^ 30 < l + a) × (a ≡ add)
AddAnswers len add (Err Stopped) = ⊥

abbrev pub AddLeaves : {D : Type 0} → State D → State D → ℕ → Result (Unit {0}) TakeFault → Type 0
AddLeaves old new add (Ok _) = (new.len ≡ old.len + add) × (new.stopped ≡ false)
AddLeaves old new add (Err Memory) = new ≡ old
AddLeaves old new add (Err Disk) = new.len ≡ old.len
AddLeaves old new add (Err (Full l a)) = new ≡ old
AddLeaves old new add (Err Stopped) = new ≡ old

-- the weights are those with the payload more where it was added, and stay so at each fault
abbrev pub AddWeighs : Weights → Payload → Weights → Result (Unit {0}) TakeFault → Type 0
AddWeighs old q new (Ok _) = new ≡ weights_with old (payload_form.spelling q)
AddWeighs old q new (Err e) = new ≡ old

-- the weights afterwards are those of the records with the new one
abbrev pub AddKeeps : {D : Type 0} → DiskView D → State D → State D → EventRecord → Weights → List (List ℕ) → Result (Unit {0}) TakeFault → Type 0
AddKeeps disk old new item weights payloads (Ok _) =
    (puts : Puts disk old new item payloads) × Holds disk new (payloads ++ puts.payload ∷ []) × (weights ≡ weights_of (payloads ++ puts.payload ∷ []))
AddKeeps disk old new item weights payloads (Err Disk) = Puts disk old new item payloads
AddKeeps disk old new item weights payloads r = Unit {0}

-- What became of the payload that is due, with the weights and the image of the record before.
pub record Adding {D : Type 0} (disk : DiskView D) (w : Weights) (before : Option Image) (e : Event) (image : Image) (old new : State D) (w' : Weights)
    (r : Result (Unit {0}) TakeFault) : Type 0 where
  pub payload : Payload
  pub due : IsDue w before e image payload
  pub answers : AddAnswers old.len (added payload) r
  pub leaves : AddLeaves old new (added payload) r
  pub weighs : AddWeighs w payload w' r
  pub keeps : (payloads : List (List ℕ)) → Holds disk old payloads → before ≡ last_image payloads → w ≡ weights_of payloads
      → AddKeeps disk old new (record_of e image) w' payloads r

abbrev pub AddDone : {D : Type 0} → DiskView D → Weights → Option Image → Event → Image → State D → State D → Weights → Result (Unit {0}) TakeFault → Type 0
AddDone disk w before e image old new w' (Err Memory) = (new ≡ old) × (w' ≡ w)
AddDone disk w before e image old new w' r = Adding disk w before e image old new w' r
