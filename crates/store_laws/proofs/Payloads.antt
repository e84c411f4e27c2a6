-- What payloads tell, one behind the other: one record at most each, and the last of them the image of the last record.
use Rattle.std.proofs.Common.{◌≡◌, ℕ, List, [], ◌∷◌, ◌++◌, Option, Some, None, Ok, Err, refl, sym, ap, ◌∙◌, subst, arith}
use Rattle.std.specs.Option.{option_map}
use Rattle.field_form.specs.Forms.{Spells, whole_of}
use Rattle.field_form.proofs.Wholes.{read_again}
use Rattle.delta_records.specs.Lower.record_form.Records.{record_form, record_of}
use Rattle.delta_records.specs.Lower.record_form.declared.record.EventRecord.{EventRecord}
use Rattle.image_form.specs.declared.image.Image.{Image}
use Rattle.delta_records.specs.Lower.delta_form.Applying.{◌>>=◌}
use Rattle.delta_records.specs.Payloads.{payload_form, payload_lawful, event_of_payload, next_image}
use Rattle.delta_records.specs.declared.payload.Payload.{Payload}
use Rattle.delta_records.specs.declared.payload.Payload.TheVariants as payload
use Rattle.store_laws.specs.Store.{AllWhole, Told, image_at, image_from, payload_in, record_at, record_with, when_read}

-- bytes that spell a payload have it
pub payload_spelled : (q : Payload) (bytes : List ℕ) → Spells payload_form q bytes → payload_in bytes ≡ Some q
unfolding payload_in
payload_spelled q bytes spells = ap when_read (read_again payload_form payload_lawful bytes q spells)

-- and so have those that were read; those that were refused have none
pub payload_read : (q : Payload) (bytes : List ℕ) → whole_of payload_form bytes ≡ Ok q → payload_in bytes ≡ Some q
unfolding payload_in
payload_read q bytes is = ap when_read is

pub payload_refused : (place : ℕ) (bytes : List ℕ) → whole_of payload_form bytes ≡ Err place → payload_in bytes ≡ None
unfolding payload_in
payload_refused place bytes is = ap when_read is

-- the spelling of a record with its whole image is that of a payload
pub whole_spelled : (r : EventRecord) (bytes : List ℕ) → Spells record_form r bytes → Spells payload_form (payload.Whole r.event r.image) bytes
whole_spelled r bytes spells = record { fits = (omega arith, spells.fits.1); is_spelling = spells.is_spelling }

-- and tells it, behind whatever image
pub whole_tells : (before : Option Image) (r : EventRecord) (bytes : List ℕ) → Spells record_form r bytes → record_at before bytes ≡ Some r
whole_tells before r bytes spells = ap (λ (o : Option Payload). o >>= record_with before) (payload_spelled (payload.Whole r.event r.image) bytes (whole_spelled r bytes spells))

some_is : {A : Type 0} (x y : A) → Some x ≡ Some y → x ≡ y
some_is x y e = cc

-- the image of the record that bytes tell
image_with : (event_of : Image → EventRecord) → ((i : Image) → (event_of i).image ≡ i) → (o : Option Image) (r : EventRecord) → option_map event_of o ≡ Some r → o ≡ Some r.image
image_with event_of same None r is = absurd (cc)
image_with event_of same (Some i) r is = ap (λ (x : Image). Some x) (sym (same i) ∙ ap (λ (x : EventRecord). x.image) (some_is (event_of i) r is))

told_with : (before : Option Image) (o : Option Payload) (r : EventRecord) → (o >>= record_with before) ≡ Some r → (o >>= next_image before) ≡ Some r.image
told_with before None r is = absurd (cc)
told_with before (Some q) r is = image_with (record_of (event_of_payload q)) (λ i. refl) (next_image before q) r is

pub told_image : (before : Option Image) (bytes : List ℕ) (r : EventRecord) → record_at before bytes ≡ Some r → image_at before bytes ≡ Some r.image
told_image before bytes r is = told_with before (payload_in bytes) r is

-- the last image behind more payloads
pub image_behind_more : (before : Option Image) (front more : List (List ℕ)) → image_from before (front ++ more) ≡ image_from (image_from before front) more
image_behind_more before [] more = refl
image_behind_more before (p ∷ ps) more = image_behind_more (image_at before p) ps more

-- the image of the last record, where there was this one before
abbrev pub image_of_last : Option Image → List EventRecord → Option Image
image_of_last before [] = before
image_of_last before (r ∷ rs) = image_of_last (Some r.image) rs

pub told_last : (before : Option Image) (records : List EventRecord) (payloads : List (List ℕ)) → Told before records payloads → image_from before payloads ≡ image_of_last before records
told_last before [] [] told = refl
told_last before (r ∷ rs) (p ∷ ps) told = ap (λ (o : Option Image). image_from o ps) (told_image before p r told.0) ∙ told_last (Some r.image) rs ps told.1
told_last before [] (p ∷ ps) told = absurd told
told_last before (r ∷ rs) [] told = absurd told

-- more records told behind these
pub told_append : (before : Option Image) (front more : List EventRecord) (payloads others : List (List ℕ)) → Told before front payloads → Told (image_from before payloads) more others → Told before (front ++ more) (payloads ++ others)
told_append before [] more [] others told next = next
told_append before (r ∷ rs) more (p ∷ ps) others told next =
    (told.0, told_append (Some r.image) rs more ps others told.1 (subst (λ (o : Option Image). Told (image_from o ps) more others) (told_image before p r told.0) next))
told_append before [] more (p ∷ ps) others told next = absurd told
told_append before (r ∷ rs) more [] others told next = absurd told

-- Payloads that hold whole images tell their records.
pub whole_told : (before : Option Image) (records : List EventRecord) (payloads : List (List ℕ)) → AllWhole records payloads → Told before records payloads
whole_told before [] [] whole = tt
whole_told before (r ∷ rs) (p ∷ ps) whole = (whole_tells before r p whole.0, whole_told (Some r.image) rs ps whole.1)
whole_told before [] (p ∷ ps) whole = absurd whole
whole_told before (r ∷ rs) [] whole = absurd whole
