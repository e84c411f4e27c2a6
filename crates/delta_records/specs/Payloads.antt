-- How the payload of a record is spelled that holds a whole image or changes alone, and which image it has: this
-- product's own (docs/FORMATS.md, "Records of changes").
use Rattle.std.specs.Prelude.{◌≡◌, List, [], ◌∷◌, Option, Some, None, refl, ◌⊎◌}
use Rattle.std.proofs.Common.{inl, inr}
use Rattle.field_form.specs.Forms.{Form, Lawful, last, ◌or◌, kinds, of_parts, pair}
use Rattle.field_form.specs.FormLaws.{last_lawful, or_lawful, kinds_lawful, of_parts_lawful, pair_lawful}
use Rattle.field_form.specs.Events.{event_form, event_lawful}
use Rattle.model_run.specs.declared.event.Event.{Event}
use Rattle.image_form.specs.Images.{image_form, image_lawful}
use Rattle.image_form.specs.declared.image.Image.{Image}
use Rattle.delta_form.specs.Deltas.{delta_form, delta_lawful}
use Rattle.delta_form.specs.After.{after}
use Rattle.delta_form.specs.Applying.{◌>>=◌}
use Rattle.delta_form.specs.declared.delta.Delta.{Delta}
use Rattle.delta_records.specs.Gaps.{gap, gap_lawful}
use Rattle.delta_records.specs.declared.payload.Payload.{Payload}
use Rattle.delta_records.specs.declared.payload.Payload.TheVariants as payload

-- `01`, an event and an image, or `02`, an event and a delta, and nothing behind.
abbrev pub PayloadParts : Type 0
PayloadParts = (Event × Image) ⊎ (Event × Delta)

abbrev pub payload_of : PayloadParts → Payload
payload_of (inl w) = payload.Whole w.0 w.1
payload_of (inr c) = payload.Changed c.0 c.1

abbrev pub payload_parts : Payload → PayloadParts
payload_parts (payload.Whole event image) = inl (event, image)
payload_parts (payload.Changed event delta) = inr (event, delta)

abbrev pub payload_form : Form Payload
payload_form = of_parts payload_of payload_parts (kinds (gap (pair event_form image_form or last (pair event_form delta_form))))

payload_there : (x : PayloadParts) → payload_parts (payload_of x) ≡ x
payload_there (inl w) = refl
payload_there (inr c) = refl

payload_back : (p : Payload) → payload_of (payload_parts p) ≡ p
payload_back (payload.Whole event image) = refl
payload_back (payload.Changed event delta) = refl

pub payload_lawful : Lawful payload_form
payload_lawful = of_parts_lawful payload_of payload_parts _ payload_there payload_back (kinds_lawful _ (gap_lawful _ (or_lawful _ _ (pair_lawful _ _ event_lawful image_lawful) (last_lawful _ (pair_lawful _ _ event_lawful delta_lawful)))))

-- what a payload of the program needs to have a spelling
abbrev pub CanBeWritten : Payload → Type 0
CanBeWritten p = payload_form.Needs p

-- The image of a payload: its own, or that of the payload before with its changes.
abbrev pub next_image : Option Image → Payload → Option Image
next_image before (payload.Whole event image) = Some image
next_image before (payload.Changed event delta) = before >>= λ image. after image delta

-- The image of the last of some payloads. It is defined where each of them that holds changes has an image before it
-- that they are changes of, from the last whole one on.
abbrev pub image_behind : Option Image → List Payload → Option Image
image_behind before [] = before
image_behind before (p ∷ ps) = image_behind (next_image before p) ps

abbrev pub image_of_last : List Payload → Option Image
image_of_last ps = image_behind None ps

abbrev pub event_of_payload : Payload → Event
event_of_payload (payload.Whole event image) = event
event_of_payload (payload.Changed event delta) = event
