-- A payload begins with 1 where it holds a whole image, and nowhere else; and what hangs on that.
use Rattle.std.proofs.Common.{◌≡◌, ◌+◌, ℕ, zero, suc, Bool, true, false, inl, inr, List, [], ◌∷◌, ◌++◌, length, take, drop, Option, Some, None, Result, Ok, Err, refl, sym, ap, ◌∙◌, subst, arith, cond}
use Rattle.std.specs.Prelude.{nat_eq, slice_index}
use Rattle.std.specs.List.{AllByRecursion as AllAre}
use Rattle.std.proofs.lemmas.Bool.{le-ltb}
use Rattle.field_form.specs.Forms.{Spells, last, ◌or◌, kinds, pair, read_first, read_other, u8_form, whole_of}
use Rattle.field_form.specs.Places.{bind_ok, test_ok, ok_is}
use Rattle.field_form.specs.Reading.{Read}
use Rattle.field_form.specs.Events.{event_form}
use Rattle.image_form.specs.Images.{image_form}
use Rattle.image_form.specs.declared.image.Image.{Image}
use Rattle.delta_records.specs.Lower.record_form.declared.record.EventRecord.{EventRecord}
use Rattle.delta_records.specs.Lower.delta_form.Deltas.{delta_form}
use Rattle.delta_records.specs.Lower.delta_form.declared.delta.Delta.{Delta}
use Rattle.model_run.specs.declared.event.Event.{Event}
use Rattle.delta_records.specs.Lower.delta_form.Applying.{◌>>=◌ as ◌>>◌}
use Rattle.delta_records.specs.Gaps.{gap}
use Rattle.delta_records.specs.Payloads.{PayloadParts, next_image, payload_form, payload_of}
use Rattle.delta_records.specs.declared.payload.Payload.{Payload}
use Rattle.delta_records.specs.declared.payload.Payload.TheVariants as payload
use Rattle.delta_records.specs.declared.weights.Weights.{Weights}
use Rattle.store_laws.specs.Store.{image_at, image_from, last_image, payload_in, record_at, when_read}
use Rattle.store_laws.proofs.Payloads.{image_behind_more, told_image}
use Rattle.durable_build.specs.Kinds.{is_whole, weights_from, weights_of, weights_with}
use Rattle.durable_build.specs.Standing.{Breaks}

-- the payload holds a whole image, or changes
abbrev pub IsOfKind : Bool → Payload → Type 0
IsOfKind true (payload.Whole event image) = Unit {0}
IsOfKind false (payload.Changed event delta) = Unit {0}
IsOfKind kind q = ⊥

first_is : (r : Read (Event × Image)) (x : PayloadParts × ℕ) → read_first r ≡ Ok x → IsOfKind true (payload_of x.0)
first_is (Ok y) x is = let same : (inl y.0, y.1) ≡ x = ok_is _ _ is in subst (λ (z : PayloadParts × ℕ). IsOfKind true (payload_of z.0)) same tt
first_is (Err at) x is = absurd (cc)

other_is : (r : Read (Event × Delta)) (x : PayloadParts × ℕ) → read_other r ≡ Ok x → IsOfKind false (payload_of x.0)
other_is (Ok y) x is = let same : (inr y.0, y.1) ≡ x = ok_is _ _ is in subst (λ (z : PayloadParts × ℕ). IsOfKind false (payload_of z.0)) same tt
other_is (Err at) x is = absurd (cc)

by_kind : (kind : ℕ) (bytes : List ℕ) (at behind : ℕ) (x : PayloadParts × ℕ) → (gap (pair event_form image_form or last (pair event_form delta_form))).reading kind bytes at behind ≡ Ok x → IsOfKind (nat_eq kind 1) (payload_of x.0)
by_kind zero bytes at behind x is = absurd (cc)
by_kind (suc zero) bytes at behind x is = first_is ((pair event_form image_form).reading bytes behind) x is
by_kind (suc (suc zero)) bytes at behind x is = other_is ((pair event_form delta_form).reading bytes behind) x is
by_kind (suc (suc (suc kind))) bytes at behind x is = absurd (cc)

-- the first byte of some
first_byte : (kind : ℕ) (bytes : List ℕ) (k : ℕ × ℕ) → u8_form.reading (kind ∷ bytes) 0 ≡ Ok k → k.0 ≡ kind
first_byte kind bytes k is =
    let there : u8_form.reading (kind ∷ bytes) 0 ≡ Ok (kind, 1) =
    ap (λ (b : Bool). cond b (Err 0) (Ok (slice_index (take 1 (drop 0 (kind ∷ bytes))) 0, 0 + 1))) (le-ltb (length (kind ∷ bytes)) 1 (omega arith)) in
    sym (ap (λ (x : ℕ × ℕ). x.0) (ok_is _ _ (sym there ∙ is)))

read_kind : (bytes : List ℕ) (q : Payload) → whole_of payload_form bytes ≡ Ok q → IsOfKind (is_whole bytes) q
read_kind [] q is = absurd (cc)
read_kind (kind ∷ bytes) q is =
    let all = kind ∷ bytes in
    let choice = gap (pair event_form image_form or last (pair event_form delta_form)) in
    let p = bind_ok (payload_form.reading all 0) (λ (x : Payload × ℕ). cond (nat_eq x.1 (length all)) (Ok x.0) (Err x.1)) q is in
    let g = test_ok (nat_eq p.0.1 (length all)) p.0.1 (Ok p.0.0) q p.2 in
    let y = bind_ok ((kinds choice).reading all 0) (λ (x : PayloadParts × ℕ). Ok (payload_of x.0, x.1)) p.0 p.1 in
    let k = bind_ok (u8_form.reading all 0) (λ (k : ℕ × ℕ). choice.reading k.0 all 0 k.1) y.0 y.1 in
    let same : payload_of y.0.0 ≡ q = ap (λ (x : Payload × ℕ). x.0) (ok_is _ _ y.2) ∙ ok_is p.0.0 q g.1 in
    subst (λ (n : ℕ). IsOfKind (nat_eq n 1) q) (first_byte kind bytes k.0 k.1) (subst (IsOfKind (nat_eq k.0.0 1)) same (by_kind k.0.0 all 0 k.0.1 y.0 k.2))

read_is : (r : Result Payload ℕ) (q : Payload) → when_read r ≡ Some q → r ≡ Ok q
read_is (Ok p) q is = cc
read_is (Err at) q is = absurd (cc)

pub payload_kind : (bytes : List ℕ) (q : Payload) → payload_in bytes ≡ Some q → IsOfKind (is_whole bytes) q
unfolding payload_in
payload_kind bytes q is = read_kind bytes q (read_is (whole_of payload_form bytes) q is)

-- bytes that spell a payload are of its kind
pub whole_kind : (e : Event) (image : Image) (bytes : List ℕ) → Spells payload_form (payload.Whole e image) bytes → is_whole bytes ≡ true
whole_kind e image bytes spells = ap is_whole spells.is_spelling

pub changed_kind : (e : Event) (delta : Delta) (bytes : List ℕ) → Spells payload_form (payload.Changed e delta) bytes → is_whole bytes ≡ false
changed_kind e delta bytes spells = ap is_whole spells.is_spelling

-- a whole image hangs on nothing before it
whole_with : (q : Payload) (a b : Option Image) → IsOfKind true q → next_image a q ≡ next_image b q
whole_with (payload.Whole e image) a b kind = refl
whole_with (payload.Changed e delta) a b kind = absurd kind

whole_of_any : (o : Option Payload) (a b : Option Image) → ((q : Payload) → o ≡ Some q → IsOfKind true q) → (o >> next_image a) ≡ (o >> next_image b)
whole_of_any None a b kind = refl
whole_of_any (Some q) a b kind = whole_with q a b (kind q refl)

pub whole_image : (p : List ℕ) (a b : Option Image) → is_whole p ≡ true → image_at a p ≡ image_at b p
whole_image p a b whole = whole_of_any (payload_in p) a b (λ q is. subst (λ (kind : Bool). IsOfKind kind q) whole (payload_kind p q is))

-- and without an image before changes make none
changed_with : (q : Payload) → IsOfKind false q → next_image None q ≡ None
changed_with (payload.Whole e image) kind = absurd kind
changed_with (payload.Changed e delta) kind = refl

changed_of_any : (o : Option Payload) → ((q : Payload) → o ≡ Some q → IsOfKind false q) → (o >> next_image None) ≡ None
changed_of_any None kind = refl
changed_of_any (Some q) kind = changed_with q (kind q refl)

pub changed_image : (p : List ℕ) → is_whole p ≡ false → image_at None p ≡ None
changed_image p whole = changed_of_any (payload_in p) (λ q is. subst (λ (kind : Bool). IsOfKind kind q) whole (payload_kind p q is))

-- a first record holds a whole image
pub first_whole : (p : List ℕ) (r : EventRecord) → record_at None p ≡ Some r → is_whole p ≡ true
first_whole p r tells = go (is_whole p) refl
  where
    go : (kind : Bool) → is_whole p ≡ kind → is_whole p ≡ true
    go true is = is
    go false is = let none : None ≡ Some r.image = sym (changed_image p is) ∙ told_image None p r tells in absurd (cc)

-- behind a whole image nothing hangs on what stands before it
pub from_whole : (front ps : List (List ℕ)) (p : List ℕ) → is_whole p ≡ true → last_image (front ++ p ∷ ps) ≡ last_image (p ∷ ps)
from_whole front ps p whole = image_behind_more None front (p ∷ ps) ∙ ap (λ (o : Option Image). image_from o ps) (whole_image p (last_image front) None whole)

weights_more : (w : Weights) (front more : List (List ℕ)) → weights_from w (front ++ more) ≡ weights_from (weights_from w front) more
weights_more w [] more = refl
weights_more w (p ∷ ps) more = weights_more (weights_with w p) ps more

pub weights_push : (front : List (List ℕ)) (p : List ℕ) → weights_of (front ++ p ∷ []) ≡ weights_with (weights_of front) p
weights_push front p = weights_more (record { whole = 0; behind = 0 }) front (p ∷ [])

pub image_push : (front : List (List ℕ)) (p : List ℕ) → last_image (front ++ p ∷ []) ≡ image_at (last_image front) p
image_push front p = image_behind_more None front (p ∷ [])

whole_weights : (p : List ℕ) (a b : Weights) (kind : Bool) → is_whole p ≡ kind → kind ≡ true → weights_with a p ≡ weights_with b p
whole_weights p a b true is whole = rw is refl
whole_weights p a b false is whole = absurd (cc)

pub weights_from_whole : (front ps : List (List ℕ)) (p : List ℕ) → is_whole p ≡ true → weights_of (front ++ p ∷ ps) ≡ weights_of (p ∷ ps)
weights_from_whole front ps p whole =
    weights_more (record { whole = 0; behind = 0 }) front (p ∷ ps) ∙ ap (λ (w : Weights). weights_from w ps) (whole_weights p (weights_of front) (record { whole = 0; behind = 0 }) (is_whole p) refl whole)

-- without an image before, changes alone make none
none_behind : (ps : List (List ℕ)) → AllAre (λ p. is_whole p ≡ false) ps → image_from None ps ≡ None
none_behind [] changes = refl
none_behind (p ∷ ps) changes = ap (λ (o : Option Image). image_from o ps) (changed_image p changes.0) ∙ none_behind ps changes.1

-- where a record that is read is at fault, the last one has no image
pub breaks_unclosed : (payloads : List (List ℕ)) (at : ℕ) → Breaks payloads at → last_image payloads ≡ None
breaks_unclosed payloads at b =
    ap last_image b.are ∙ image_behind_more None b.front (b.payload ∷ b.behind) ∙ ap (λ (o : Option Image). image_from o b.behind) b.none ∙ none_behind b.behind b.changes
