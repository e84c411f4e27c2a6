-- What holds of a life over a store, and of an event that was not taken (this product's own).
use Rattle.std.specs.Prelude.{◌≡◌, ◌⊎◌, ◌+◌, ◌<◌, ◌^◌, ℕ, true, false, List, ◌∷◌, ◌++◌, Option, Some, None, IfSome, IsSome, IsSomeAnd, []}
use Rattle.jp_disk.specs.Images.{IsOnlyImage}
use Rattle.jp_disk.specs.Runs.{AtEachMoment}
use Rattle.journal_core.specs.Answers.{IsStarted}
use Rattle.journal_core.specs.Moments.{SinceSync}
use Rattle.journal_core.specs.Records.{Has, records}
use Rattle.journal_core.specs.declared.faults.TakeFault.{TakeFault}
use Rattle.journal_core.specs.declared.faults.TakeFault.TheVariants.{Memory, Disk, Full, Stopped}
use Rattle.model_run.specs.declared.event.Event.{Event}
use Rattle.model_run.specs.declared.event.Event.TheVariants as event
use Rattle.model_run.specs.State.{Setting}
use Rattle.model_run.specs.declared.taken.Taken.TheVariants.{Accepted}
use Rattle.model_run.specs.World.{answer_to, next_grant, world_in}
use Rattle.image_form.specs.declared.image.Image.{Image}
use Rattle.durable_build.specs.Lower.build_images.Images.{image_in, world_image}
use Rattle.durable_build.specs.Lower.store_laws.Store.{grant_of}
use Rattle.durable_build.specs.Lower.delta_records.declared.weights.Weights.{Weights}
use Rattle.durable_build.specs.Kinds.{weights_of}
use Rattle.durable_build.specs.Taking.{DueAdds}
use Rattle.settle_laws.specs.Stances.{Stance}
use Rattle.durable_build.specs.Lower.build_core.Builds.{StandsFor, setting_in}
use Rattle.durable_build.specs.Standing.{Kept}
use Rattle.durable_build.specs.Settings.{IsProper}
use Rattle.build_store.specs.declared.beginning.BeginFault.{BeginFault}
use Rattle.build_store.specs.declared.beginning.BeginFault.TheVariants.{HasBuild, Take}
use Rattle.build_store.specs.Saved.{Saves, Stores, Survives, journal_length, journal_weights}
use Rattle.jp_disk.specs.View.{DiskView}

-- What a fault of the take of an event tells, at a journal of this length, whose records weigh this, with this image before the event and this one behind it: of `Full`
-- the journal's length, and what the record that is due for the event would have added, which together are more than 1,073,741,824 bytes.
abbrev pub IsFull : Weights → Option Image → Event → Image → ℕ → TakeFault → Type 0
IsFull w before e image len (Full at add) = (at ≡ len) × (2 ^ 30 < at + add) × DueAdds w before e image add
IsFull w before e image len Memory = Unit {0}
IsFull w before e image len Disk = Unit {0}
IsFull w before e image len Stopped = ⊥

-- the image of the build of these events
abbrev pub image_after : Setting → List Event → Image
image_after setting events = world_image setting (world_in setting events)

-- What a fault of the take of a `Start` tells: the journal has one byte, and no record.
abbrev pub StartFaults : Setting → Event → TakeFault → Type 0
StartFaults setting start fault = IsFull (weights_of []) None start (image_after setting (start ∷ [])) 1 fault

-- What the refusal of a build tells, on each disk: the fault of a `Start` that was not taken.
abbrev pub TellsStart : Setting → Event → BeginFault → Type 0
TellsStart setting start HasBuild = Unit {0}
TellsStart setting start (Take fault) = StartFaults setting start fault

-- The build has begun, has taken these events under this setting of a script, and goes on from them; on each disk.
pub record Goes {D T : Type 0} (stance : T → Stance) (setting : Setting) (events : List Event) (kept : Kept D T) : Type 0 where
  pub same : setting_in kept.build ≡ setting
  pub proper : IsProper setting
  pub begun : (world_in setting events).started ≡ true
  pub running : kept.stopped ≡ false
  pub stands : StandsFor stance kept.build (world_in setting events)

-- A build that was begun, on each disk: it has taken its `Start` alone, of which there is a record, and whose bytes are kept.
pub record IsBegun {D T : Type 0} (stance : T → Stance) (setting : Setting) (script agents : List ℕ) (kept : Kept D T) : Type 0 where
  pub goes : Goes stance setting (event.Start script agents ∷ []) kept
  pub counted : kept.records ≡ 1
  pub has_script : kept.script ≡ script
  pub has_agents : kept.agents ≡ agents

-- What the fault of a life tells, on each disk: `Full` is that of the record that is due for some event, by what the kept payloads weigh, with the image that the build
-- has now, and behind some image. `Stopped` is none.
abbrev pub TellsFault : {D T : Type 0} → (T → Stance) → Kept D T → TakeFault → Type 0
TellsFault stance kept Memory = Unit {0}
TellsFault stance kept Disk = Unit {0}
TellsFault stance kept (Full at add) = (e : Event) × (before : Option Image) × IsFull kept.weights before e (image_in stance kept.build) kept.journal.len (Full at add)
TellsFault stance kept Stopped = ⊥

-- The event that a life would have taken next: it is accepted, and makes a grant where one is due.
pub record IsNext (setting : Setting) (events : List Event) (e : Event) : Type 0 where
  pub accepted : answer_to setting (world_in setting events) e ≡ Accepted
  pub due : next_grant setting (world_in setting events) ≡ grant_of e

-- Want of memory has no event; each other fault is of the next one.
abbrev pub IsOf : Setting → List Event → TakeFault → Option Event → Type 0
IsOf setting events Memory refused = Unit {0}
IsOf setting events fault refused = IsSomeAnd refused (IsNext setting events)

-- The first number of `Full` is the length of the journal in this file, and the weights by which a record is due are those of its records.
abbrev pub TellsStore : Weights → TakeFault → List ℕ → Type 0
TellsStore w (Full at add) file = (at ≡ journal_length file) × (w ≡ journal_weights file)
TellsStore w fault file = Unit {0}

-- Only a fault of the disk leaves it open whether the refused event is on it.
abbrev pub MayRisk : TakeFault → Option Event → Option Event → Type 0
MayRisk Disk refused risked = risked ≡ refused
MayRisk fault refused risked = risked ≡ None

module _ {D T : Type 0} (disk : DiskView D) (stance : T → Stance) where
  -- The build goes on from these events, and the store has them.
  pub record Stands (setting : Setting) (events : List Event) (kept : Kept D T) : Type 0 where
    pub goes : Goes stance setting events kept
    pub saves : Saves disk stance kept events

  -- A life since the moment `origin` of its disk, at which these were the events. `entry` is what the disk told of its bytes before that:
  -- where it told them, the store has the events of now, and a crash since `origin` leaves a front of them.
  pub record Lasts (setting : Setting) (entry : Option (List ℕ)) (origin : D) (before events : List Event) (kept : Kept D T) : Type 0 where
    pub goes : Goes stance setting events kept
    pub goes_on : (more : List Event) × (events ≡ before ++ more)
    pub saves : IsSome entry → Saves disk stance kept events
    pub moments : IsSome entry → AtEachMoment disk origin kept.journal.disk (Survives setting before events None)

  -- The take of an accepted event answered this fault. Where the disk told its bytes, all events from before it are durable, and a crash leaves
  -- a front of them; or them and that event, where the disk failed.
  pub record Fails (setting : Setting) (entry : Option (List ℕ)) (origin : D) (before events : List Event) (fault : TakeFault) (kept : Kept D T) : Type 0 where
    pub refused : Option Event
    pub is_next : IsOf setting events fault refused
    pub full : IfSome refused (λ e. IsFull kept.weights (Some (image_after setting events)) e (image_after setting (events ++ e ∷ [])) kept.journal.len fault)
    pub sized : IsSome entry → IfSome (disk.reads kept.journal.disk) (TellsStore kept.weights fault)
    pub risked : Option Event
    pub may_risk : MayRisk fault refused risked
    pub moments : IsSome entry → AtEachMoment disk origin kept.journal.disk (Survives setting before events risked)
    pub images : IsSome entry → (image : List ℕ) → disk.may_leave kept.journal.disk image → Stores setting events image ⊎ IsSomeAnd risked (λ e. Stores setting (events ++ e ∷ []) image)

  -- A build was begun, over a file without a record.
  pub record Begins (setting : Setting) (start : Event) (file : List ℕ) (state : D) (kept : Kept D T) : Type 0 where
    pub fresh : ¬ (IsStarted file)
    pub stands : Stands setting (start ∷ []) kept
    pub moments : SinceSync disk file state kept.journal.disk (Survives setting [] (start ∷ []) None)

  -- The take of a `Start` failed, over a file without a record: a crash leaves no record, or that of the `Start`, where the disk failed.
  pub record StartFails (setting : Setting) (start : Event) (file : List ℕ) (state now : D) (fault : TakeFault) : Type 0 where
    pub fresh : ¬ (IsStarted file)
    pub none : Has [] file
    pub risked : Option Event
    pub may_risk : MayRisk fault (Some start) risked
    pub moments : SinceSync disk file state now (Survives setting [] [] risked)

  -- A build was not begun. Either a crash leaves what it might have left before; or, since a moment at which the file was durable, what has
  -- the records of the file; or the take of the `Start` failed, as it did where its record did not fit.
  abbrev pub BeginRefuses : Setting → Event → List ℕ → D → BeginFault → D → Type 0
  BeginRefuses setting start file state HasBuild now = IsStarted file × (disk.reads now ≡ Some file) × IsOnlyImage file (disk.may_leave now) × SinceSync disk file state now (λ image. records image ≡ records file)
  BeginRefuses setting start file state (Take (Full at add)) now = StartFaults setting start (Full at add) × StartFails setting start file state now (Full at add)
  BeginRefuses setting start file state (Take fault) now =
      StartFaults setting start fault × (AtEachMoment disk state now (disk.may_leave state) ⊎ (SinceSync disk file state now (λ image. records image ≡ records file) ⊎ StartFails setting start file state now fault))
