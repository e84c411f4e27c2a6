-- How the record of an event is spelled: form 1 of the payload of a record, which is this product's own.
use Rattle.std.specs.Prelude.{refl}
use Rattle.std.proofs.Common.{arith}
use Rattle.field_form.specs.Forms.{Form, Lawful, mark, of_parts, pair}
use Rattle.field_form.specs.FormLaws.{mark_lawful, of_parts_lawful, pair_lawful}
use Rattle.field_form.specs.Events.{event_form, event_lawful}
use Rattle.model_run.specs.declared.event.Event.{Event}
use Rattle.image_form.specs.declared.image.Image.{Image}
use Rattle.image_form.specs.Images.{image_form, image_lawful}
use Rattle.record_form.specs.declared.record.EventRecord.{EventRecord}

abbrev pub record_of : Event → Image → EventRecord
record_of event image = record { event = event; image = image }

-- The kind `01`, an event, an image, and nothing behind. Any other kind is a fault at its place.
abbrev pub RecordParts : Type 0
RecordParts = Unit {0} × (Event × Image)

abbrev pub record_of_parts : RecordParts → EventRecord
record_of_parts p = record_of p.1.0 p.1.1

abbrev pub record_parts : EventRecord → RecordParts
record_parts r = (tt, (r.event, r.image))

abbrev pub record_form : Form EventRecord
record_form = of_parts record_of_parts record_parts (pair (mark 1) (pair event_form image_form))

pub record_lawful : Lawful record_form
record_lawful = of_parts_lawful record_of_parts record_parts _ (λ p. refl) (λ r. refl) (pair_lawful _ _ (mark_lawful 1 (omega arith)) (pair_lawful _ _ event_lawful image_lawful))
