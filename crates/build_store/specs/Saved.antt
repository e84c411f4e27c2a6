-- What the store of a build holds at each moment of a life, and what a crash leaves (this product's own).
use Rattle.std.specs.Prelude.{◌≡◌, ◌⊎◌, ◌+◌, ℕ, List, ◌∷◌, ◌++◌, length, Option, None, IsSomeAnd, []}
use Rattle.durable_build.specs.Lower.record_form.declared.record.EventRecord.{EventRecord}
use Rattle.model_run.specs.declared.event.Event.{Event}
use Rattle.model_run.specs.State.{Setting}
use Rattle.model_run.specs.World.{unbegun}
use Rattle.settle_laws.specs.Stances.{Stance}
use Rattle.durable_build.specs.Lower.build_core.Builds.{setting_in}
use Rattle.durable_build.specs.Lower.build_images.Images.{world_image}
use Rattle.durable_build.specs.Lower.store_laws.Store.{AllDue, IsStory, Told, events_of}
use Rattle.journal_core.specs.Records.{Has, framed, records}
use Rattle.durable_build.specs.Lower.delta_records.declared.weights.Weights.{Weights}
use Rattle.durable_build.specs.Kinds.{weights_of}
use Rattle.durable_build.specs.Standing.{Kept, Keeps}
use Rattle.jp_disk.specs.View.{DiskView}

-- These payloads are the records of one build, with just these events: each was accepted, has the image of the build behind it, and makes a
-- grant where one is due.
pub record IsTold (setting : Setting) (events : List Event) (payloads : List (List ℕ)) : Type 0 where
  pub records : List EventRecord
  pub spelled : Told None records payloads
  pub story : IsStory world_image setting records
  pub due : AllDue setting unbegun records
  pub are : events_of records ≡ events

-- A consistent store of these events.
pub record Stores (setting : Setting) (events : List Event) (file : List ℕ) : Type 0 where
  pub payloads : List (List ℕ)
  pub has : Has payloads file
  pub told : IsTold setting events payloads

-- The length of the journal in a file: its records in their frames, and the gate behind the last of them.
abbrev pub journal_length : List ℕ → ℕ
journal_length file = length (framed (records file).payloads) + 1

-- How many bytes the last payload with a whole image has in a file, and those behind it.
abbrev pub journal_weights : List ℕ → Weights
journal_weights file = weights_of (records file).payloads

-- These events begin with those from before, and are a front of the taken ones, or all of them and the one whose take the disk failed.
pub record IsFront (before taken : List Event) (risked : Option Event) (kept : List Event) : Type 0 where
  pub begins : (more : List Event) × (kept ≡ before ++ more)
  pub within : ((rest : List Event) × (taken ≡ kept ++ rest)) ⊎ IsSomeAnd risked (λ event. kept ≡ taken ++ event ∷ [])

-- what a crash leaves
pub record Survives (setting : Setting) (before taken : List Event) (risked : Option Event) (file : List ℕ) : Type 0 where
  pub kept : List Event
  pub front : IsFront before taken risked kept
  pub stores : Stores setting kept file

-- The disk holds the records of these events, all of them durable, and the build goes on from them.
pub record Saves {D T : Type 0} (disk : DiskView D) (stance : T → Stance) (kept : Kept D T) (events : List Event) : Type 0 where
  pub payloads : List (List ℕ)
  pub keeps : Keeps disk stance kept payloads
  pub told : IsTold (setting_in kept.build) events payloads
