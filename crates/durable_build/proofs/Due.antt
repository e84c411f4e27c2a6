-- Of an event, the image before and the image after it one payload alone is due.
use Rattle.std.proofs.Common.{◌≡◌, ◌∙◌, ℕ, true, false, List, Option, Some, None, sym, ap, subst}
use Rattle.std.specs.Prelude.{IfSome}
use Rattle.std.specs.Option.{option_map}
use Rattle.model_run.specs.declared.event.Event.{Event}
use Rattle.model_run.specs.State.{Setting}
use Rattle.settle_laws.specs.Stances.{Stance}
use Rattle.image_form.specs.declared.image.Image.{Image}
use Rattle.delta_records.specs.Lower.record_form.Records.{record_of}
use Rattle.delta_records.specs.Lower.record_form.declared.record.EventRecord.{EventRecord}
use Rattle.delta_records.specs.Lower.delta_form.After.{after}
use Rattle.delta_records.specs.Lower.delta_form.declared.delta.Delta.{Delta}
use Rattle.delta_records.specs.declared.payload.Payload.{Payload}
use Rattle.delta_records.specs.declared.payload.Payload.TheVariants as payload
use Rattle.delta_records.specs.declared.weights.Weights.{Weights}
use Rattle.build_images.proofs.Lower.image_changes.Least.{least_is_one}
use Rattle.store_laws.specs.Store.{last_image}
use Rattle.durable_build.specs.Kinds.{weights_of}
use Rattle.durable_build.specs.Standing.{IsWhole, Keeps, Kept, image_before}
use Rattle.durable_build.specs.Taking.{IsDue}
use Rattle.durable_build.proofs.OrderLemmas.{whole_in_order}
use Rattle.durable_build.proofs.TakeLemmas.{stands_last}
use Rattle.jp_disk.specs.View.{DiskView}

-- what is due by what a build keeps of its records is due by the records
pub due_next : {D T : Type 0} (disk : DiskView D) (stance : T → Stance) (k : Kept D T) (payloads : List (List ℕ)) (e : Event) (image : Image) (q : Payload)
    → Keeps disk stance k payloads → IsDue k.weights (image_before stance k.build) e image q → IsDue (weights_of payloads) (last_image payloads) e image q
due_next disk stance k payloads e image q keeps due =
    subst (λ (w : Weights). IsDue w (last_image payloads) e image q) keeps.weighs
    (subst (λ (o : Option Image). IsDue k.weights o e image q) (stands_last stance k.build k.script k.agents payloads keeps.stands) due)

some_is : (a b : Image) → Some a ≡ Some b → a ≡ b
some_is a b same = cc

-- the changes of a record, and its event
changes_of : (o : Option Image) (e f : Event) (image : Image) → option_map (record_of e) o ≡ Some (record_of f image) → (o ≡ Some image) × (e ≡ f)
changes_of None e f image is = absurd (cc)
changes_of (Some i) e f image is =
    let same : record_of e i ≡ record_of f image = cc in
    (ap (λ (r : EventRecord). Some r.image) same, ap (λ (r : EventRecord). r.event) same)

-- a whole payload and one of changes are not due both
never_both : (w : Weights) (before : Option Image) (e : Event) (image : Image) (f g : Event) (i : Image) (d : Delta) → IsDue w before e image (payload.Whole f i) → IsDue w before e image (payload.Changed g d) → ⊥
never_both w before e image f g i d whole changed = let bad : true ≡ false = sym whole.kind ∙ changed.kind in absurd (cc)

module _ (setting : Setting) (w : Weights) (before : Option Image) (e : Event) (image : Image) (whole_before : IfSome before (IsWhole setting)) where
  -- behind a whole image one payload alone is due for an event and an image after it
  pub one_is_due : (q r : Payload) → IsDue w before e image q → IsDue w before e image r → q ≡ r
  one_is_due (payload.Whole f i) (payload.Whole g j) one other =
      let first = changes_of (Some i) f e image one.tells in
      let second = changes_of (Some j) g e image other.tells in
      ap (λ (x : Event). payload.Whole x i) (first.1 ∙ sym second.1) ∙ ap (payload.Whole g) (some_is i j (first.0 ∙ sym second.0))
  one_is_due (payload.Whole f i) (payload.Changed g d) one other = absurd (never_both w before e image f g i d one other)
  one_is_due (payload.Changed g d) (payload.Whole f i) one other = absurd (never_both w before e image f g i d other one)
  one_is_due (payload.Changed f c) (payload.Changed g d) one other = by before whole_before one other
    where
      by : (o : Option Image) → IfSome o (IsWhole setting) → IsDue w o e image (payload.Changed f c) → IsDue w o e image (payload.Changed g d) → payload.Changed f c ≡ payload.Changed g d
      by None here a b = let bad : None ≡ Some image = (changes_of None f e image a.tells).0 in absurd (cc)
      by (Some i) here a b =
          let first = changes_of (after i c) f e image a.tells in
          let second = changes_of (after i d) g e image b.tells in
          ap (λ (x : Event). payload.Changed x c) (first.1 ∙ sym second.1) ∙ ap (payload.Changed g) (least_is_one i image (whole_in_order setting i here) c d first.0 a.least second.0 b.least)
