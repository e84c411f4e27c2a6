-- Small journals, worked out.
use Rattle.std.proofs.Common.{◌≡◌, ℕ, false, List, [], ◌∷◌, length, Some, None, refl}
use Rattle.std.specs.Prelude.{pos}
use Rattle.std.specs.Option.{option_map}
use Rattle.model_values.specs.declared.value.Value.TheVariants.{Null}
use Rattle.model_values.specs.declared.cell.Cell.TheVariants.{Variable}
use Rattle.model_run.specs.declared.event.Event.{Event}
use Rattle.model_run.specs.declared.event.Event.TheVariants.{Exited}
use Rattle.model_run.specs.declared.result.BuildResult.TheVariants.{Success}
use Rattle.image_form.specs.declared.image.Image.{Image}
use Rattle.delta_form.specs.declared.delta.Delta.{Delta}
use Rattle.delta_form.specs.declared.delta.NumberedCell.{NumberedCell}
use Rattle.delta_form.specs.declared.delta.WrittenCell.TheVariants as written
use Rattle.delta_records.specs.Payloads.{image_of_last, payload_form}
use Rattle.delta_records.specs.declared.payload.Payload.{Payload}
use Rattle.delta_records.specs.declared.payload.Payload.TheVariants.{Whole, Changed}

-- task 2 exited with 3: an event of nine bytes
abbrev event : Event
event = Exited 2 (pos 3)

abbrev image : List ℕ → Image
image log = record { next_request = 1; next_thread = 0; result = Success; ended = false; bindings = []; cells = []; nodes = []; log = log; requests = []; held = []; threads = [] }

abbrev delta : List NumberedCell → List ℕ → Delta
delta cells log = record { next_request = 1; next_thread = 0; result = Success; ended = false; bindings = []; cells = cells; nodes = []; log = log; closed_requests = []; requests = []; held = []; ended_threads = []; threads = [] }

-- a whole payload of 48 bytes, one of a log of ten bytes more, and changes of 57 bytes
abbrev whole : Payload
whole = Whole event (image [])

abbrev longer : Payload
longer = Whole event (image (1 ∷ 2 ∷ 3 ∷ 4 ∷ 5 ∷ 6 ∷ 7 ∷ 8 ∷ 9 ∷ 10 ∷ []))

abbrev logged : Payload
logged = Changed event (delta [] (7 ∷ []))

abbrev with_a_gap : Payload
with_a_gap = Changed event (delta (record { number = 5; cell = written.Whole (Variable Null) } ∷ []) [])

abbrev bytes_of : Payload → ℕ
bytes_of p = length (payload_form.spelling p)

sizes : (bytes_of whole ≡ 48) × (bytes_of longer ≡ 58) × (bytes_of logged ≡ 57)
sizes = (refl, refl, refl)

-- Each change is one of the image before it; changes that do not fit it have no image, until a whole one comes.
both : option_map (λ i. i.log) (image_of_last (whole ∷ logged ∷ logged ∷ [])) ≡ Some (7 ∷ 7 ∷ [])
both = refl

none : image_of_last (whole ∷ with_a_gap ∷ logged ∷ []) ≡ None
none = refl

behind_it : option_map (λ i. i.log) (image_of_last (with_a_gap ∷ whole ∷ logged ∷ [])) ≡ Some (7 ∷ [])
behind_it = refl
