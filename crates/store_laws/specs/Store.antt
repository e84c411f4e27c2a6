-- The store of a build: what the records of its journal tell (this product's own). A record is an event and the image of the
-- build after it; its payload holds the event, and the image or what the event changed of the image before.
use Rattle.std.specs.Prelude.{◌≡◌, ◌≤◌, ℕ, List, [], ◌∷◌, length, map, Option, Some, None, Result, Ok, Err}
use Rattle.std.specs.Option.{option_map}
use Rattle.journal_core.specs.Records.{Has}
use Rattle.field_form.specs.Forms.{Spells, whole_of}
use Rattle.delta_records.specs.Lower.record_form.Records.{record_form, record_of}
use Rattle.delta_records.specs.Lower.record_form.declared.record.EventRecord.{EventRecord}
use Rattle.delta_records.specs.Lower.delta_form.Applying.{◌>>=◌}
use Rattle.delta_records.specs.Payloads.{payload_form, event_of_payload, next_image}
use Rattle.delta_records.specs.declared.payload.Payload.{Payload}
use Rattle.image_form.specs.declared.image.Image.{Image}
use Rattle.model_syntax.specs.declared.tree.Tree.{Tree}
use Rattle.model_syntax.specs.FirstFault.{IsFaultless}
use Rattle.model_syntax.specs.TreeNodes.{tree_node}
use Rattle.model_run.specs.AgentsFile.{agents_file, Means}
use Rattle.model_run.specs.declared.event.Event.{Event}
use Rattle.model_run.specs.declared.event.Event.TheVariants as event
use Rattle.model_run.specs.declared.taken.Taken.TheVariants.{Accepted}
use Rattle.model_run.specs.State.{Setting}
use Rattle.model_run.specs.Terms.{term}
use Rattle.model_run.specs.World.{Build, unbegun, run_limits, setting_of, answer_to, after_one, next_grant}

-- what was read, where nothing was at fault
abbrev pub when_read : {V : Type 0} → Result V ℕ → Option V
when_read (Ok v) = Some v
when_read (Err place) = None

-- the payload that the bytes, all of them, spell (docs/FORMATS.md)
unfoldable pub payload_in : List ℕ → Option Payload
payload_in bytes = when_read (whole_of payload_form bytes)

-- What a payload tells behind the record with this image: its event, and the image that it holds or that its changes make.
abbrev pub record_with : Option Image → Payload → Option EventRecord
record_with before payload = option_map (record_of (event_of_payload payload)) (next_image before payload)

-- what bytes tell there
abbrev pub record_at : Option Image → List ℕ → Option EventRecord
record_at before bytes = payload_in bytes >>= record_with before

-- The payloads tell these records, one behind the other, the first of them behind the record with this image.
abbrev pub Told : Option Image → List EventRecord → List (List ℕ) → Type 0
Told before [] [] = Unit {0}
Told before (r ∷ records) (payload ∷ payloads) = (record_at before payload ≡ Some r) × Told (Some r.image) records payloads
Told before records payloads = ⊥

-- The image of the record that bytes tell behind the record with this image, and that of the last of more payloads. Where bytes
-- tell none there is none, up to the next payload that holds a whole image.
abbrev pub image_at : Option Image → List ℕ → Option Image
image_at before bytes = payload_in bytes >>= next_image before

abbrev pub image_from : Option Image → List (List ℕ) → Option Image
image_from before [] = before
image_from before (payload ∷ payloads) = image_from (image_at before payload) payloads

-- the image of the last of all payloads
abbrev pub last_image : List (List ℕ) → Option Image
last_image payloads = image_from None payloads

-- Each payload holds the whole image of its record: so the program wrote all of them before it wrote changes.
abbrev pub AllWhole : List EventRecord → List (List ℕ) → Type 0
AllWhole [] [] = Unit {0}
AllWhole (r ∷ records) (payload ∷ payloads) = Spells record_form r payload × AllWhole records payloads
AllWhole records payloads = ⊥

abbrev pub events_of : List EventRecord → List Event
events_of records = map (λ r. r.event) records

-- the journal of this file has just these records
pub record Tells (records : List EventRecord) (file : List ℕ) : Type 0 where
  pub payloads : List (List ℕ)
  pub has : Has payloads file
  pub spelled : Told None records payloads

-- the events that a store has taken
pub record HasEvents (events : List Event) (file : List ℕ) : Type 0 where
  pub records : List EventRecord
  pub tells : Tells records file
  pub are : events_of records ≡ events

-- the most bytes of a script
abbrev pub script_limit : ℕ
script_limit = 1048576

-- A script and an agents file without a fault, and the setting that they mean.
pub record Mean (script agents : List ℕ) (setting : Setting) : Type 0 where
  pub tree : Tree
  pub within : length script ≤ script_limit
  pub faultless : IsFaultless script tree
  pub means : agents_file agents ≡ Means setting.site
  pub is : setting ≡ setting_of run_limits (term 0 (tree_node tree)) setting.site

-- the event is the `Start` of a script and an agents file that mean this setting
abbrev pub Starts : Setting → Event → Type 0
Starts setting (event.Start script agents) = Mean script agents setting
Starts setting e = ⊥

abbrev pub FirstStarts : Setting → List EventRecord → Type 0
FirstStarts setting [] = Unit {0}
FirstStarts setting (first ∷ records) = Starts setting first.event

-- the grant that an event makes
abbrev pub grant_of : Event → Option (ℕ × ℕ)
grant_of (event.Granted request executor) = Some (request, executor)
grant_of e = None

-- From a build on: where a grant is due the next event makes it, and where none is due it makes none.
abbrev pub AllDue : Setting → Build → List EventRecord → Type 0
AllDue setting b [] = Unit {0}
AllDue setting b (r ∷ records) = (next_grant setting b ≡ grant_of r.event) × AllDue setting (after_one setting b r.event) records

-- What the image of a build is in a setting, is said elsewhere.
module _ (image_of : Setting → Build → Image) where
  -- From a build on: each event is accepted, and its record has the image of the build after it.
  abbrev pub Follows : Setting → Build → List EventRecord → Type 0
  Follows setting b [] = Unit {0}
  Follows setting b (r ∷ records) =
      (answer_to setting b r.event ≡ Accepted) × (r.image ≡ image_of setting (after_one setting b r.event)) × Follows setting (after_one setting b r.event) records

  -- the records of one build of this setting, from its `Start` on
  pub record IsStory (setting : Setting) (records : List EventRecord) : Type 0 where
    pub starts : FirstStarts setting records
    pub follows : Follows setting unbegun records

  -- A consistent store: it has no record, or the records of one build, with each grant where it was due.
  pub record IsConsistent (file : List ℕ) : Type 0 where
    pub setting : Setting
    pub records : List EventRecord
    pub tells : Tells records file
    pub story : IsStory setting records
    pub due : AllDue setting unbegun records
