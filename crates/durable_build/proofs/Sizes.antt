-- What the record that is due adds.
use Rattle.std.proofs.Common.{◌≡◌, ◌∙◌, ℕ, Option, Some, None, ap, subst}
use Rattle.image_form.specs.declared.image.Image.{Image}
use Rattle.model_run.specs.declared.event.Event.{Event}
use Rattle.delta_records.specs.Lower.record_form.Records.{record_of}
use Rattle.delta_records.specs.Lower.record_form.declared.record.EventRecord.{EventRecord}
use Rattle.delta_records.specs.declared.payload.Payload.{Payload}
use Rattle.delta_records.specs.declared.payload.Payload.TheVariants as payload
use Rattle.delta_records.specs.declared.weights.Weights.{Weights}
use Rattle.store_laws.specs.Store.{record_with}
use Rattle.durable_build.specs.Taking.{DueAdds, added}

-- the record that is due adds so much by the same weights, behind the same image, with the same image
pub due_adds : (w v : Weights) (before front : Option Image) (image now : Image) (e : Event) (add : ℕ) → w ≡ v → before ≡ front → image ≡ now → DueAdds w before e image add → DueAdds v front e now add
due_adds w v before front image now e add same first next adds =
    subst (λ (x : Weights). DueAdds x front e now add) same (subst (λ (i : Image). DueAdds w front e i add) next (subst (λ (o : Option Image). DueAdds w o e image add) first adds))

-- and where there is no record before, all of the image
whole_alone : (q : Payload) (e : Event) (image : Image) → record_with None q ≡ Some (record_of e image) → q ≡ payload.Whole e image
whole_alone (payload.Whole e i) event image is =
    let same : record_of e i ≡ record_of event image = cc in
    ap (λ (r : EventRecord). payload.Whole r.event r.image) same
whole_alone (payload.Changed e delta) event image is = absurd (cc)

pub start_adds : (w : Weights) (e : Event) (image : Image) (add : ℕ) → DueAdds w None e image add → add ≡ added (payload.Whole e image)
start_adds w e image add (q, due, is) = is ∙ ap added (whole_alone q e image due.tells)
