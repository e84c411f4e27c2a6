-- A kind and what stands behind it were written.
use Rattle.std.proofs.Common.{◌≡◌, ◌∙◌, ℕ, List, [], ◌∷◌, ◌++◌, refl, sym, ap, subst, append_assoc, arith}
use Rattle.record_form.specs.Records.{record_form, record_of}
use Rattle.field_form.specs.Events.{event_form}
use Rattle.field_form.specs.Forms.{Written, pair}
use Rattle.model_run.specs.declared.event.Event.{Event}
use Rattle.image_form.specs.Images.{image_form}
use Rattle.image_form.specs.declared.image.Image.{Image}
use Rattle.delta_form.specs.Deltas.{delta_form}
use Rattle.delta_form.specs.declared.delta.Delta.{Delta}
use Rattle.delta_records.specs.Payloads.{payload_form}
use Rattle.delta_records.specs.declared.payload.Payload.{Payload}
use Rattle.delta_records.specs.declared.payload.Payload.TheVariants as payload

pub whole_written : (p : Payload) (event : Event) (image : Image) (old mid new : List ℕ) → p ≡ payload.Whole event image → mid ≡ old ++ 1 ∷ [] → Written (pair event_form image_form) (event, image) mid new → Written payload_form p old new
whole_written p event image old mid new is kind w =
    let behind = (pair event_form image_form).spelling (event, image) in
    subst (λ (q : Payload). Written payload_form q old new) (sym is) (record {
      fits = (omega arith, w.fits);
      spelled = w.spelled ∙ ap (λ (l : List ℕ). l ++ behind) kind ∙ append_assoc old (1 ∷ []) behind;
    })

pub changed_written : (p : Payload) (event : Event) (delta : Delta) (old mid new : List ℕ) → p ≡ payload.Changed event delta → mid ≡ old ++ 2 ∷ [] → Written (pair event_form delta_form) (event, delta) mid new → Written payload_form p old new
changed_written p event delta old mid new is kind w =
    let behind = (pair event_form delta_form).spelling (event, delta) in
    subst (λ (q : Payload). Written payload_form q old new) (sym is) (record {
      fits = (omega arith, w.fits);
      spelled = w.spelled ∙ ap (λ (l : List ℕ). l ++ behind) kind ∙ append_assoc old (2 ∷ []) behind;
    })

-- a whole payload is spelled as the record of an event is
pub same_record : (event : Event) (image : Image) → payload_form.spelling (payload.Whole event image) ≡ record_form.spelling (record_of event image)
same_record event image = refl
