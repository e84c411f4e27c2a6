-- What becomes of the payload that is due.
use Rattle.std.proofs.Common.{◌≡◌, ◌+◌, ◌^◌, ◌≤◌, ◌<◌, ℕ, ◌⊎◌, inl, inr, List, [], ◌∷◌, ◌++◌, length, Option, Some, None, Ok, Err, refl, sym, ap, ◌∙◌, subst, arith}
use Rattle.std.specs.Option.{option_map}
use Rattle.jp_disk.specs.Runs.{AtEachMoment}
use Rattle.journal_core.specs.Records.{HasWithOrWithout}
use Rattle.journal_core.specs.State.{State, Holds}
use Rattle.field_form.specs.Forms.{Spells}
use Rattle.delta_records.specs.Lower.record_form.Records.{record_of}
use Rattle.delta_records.specs.Lower.record_form.Sizes.{size_in}
use Rattle.image_form.specs.declared.image.Image.{Image}
use Rattle.delta_records.specs.Lower.delta_form.After.{after}
use Rattle.delta_records.specs.Lower.delta_form.Applying.{◌>>=◌}
use Rattle.delta_records.specs.Lower.delta_form.declared.delta.Delta.{Delta}
use Rattle.delta_records.specs.Payloads.{payload_form}
use Rattle.delta_records.specs.declared.payload.Payload.{Payload}
use Rattle.delta_records.specs.declared.weights.Weights.{Weights}
use Rattle.model_run.specs.declared.event.Event.{Event}
use Rattle.journal_core.specs.declared.faults.TakeFault.{TakeFault}
use Rattle.journal_core.specs.declared.faults.TakeFault.TheVariants.{Memory, Disk, Full, Stopped}
use Rattle.store_laws.specs.Store.{last_image, record_at, record_with}
use Rattle.store_laws.proofs.Payloads.{payload_spelled}
use Rattle.durable_build.specs.Kinds.{weights_of, weights_with}
use Rattle.durable_build.specs.Taking.{HoldsLeast, IsDue, IsKind, Puts, added}
use Rattle.durable_build.specs.Adding.{AddDone, AddLeaves, HasRoom, IsDueDelta, SpellsDue, payload_of}
use Rattle.durable_build.proofs.KindLemmas.{weights_push}
use Rattle.jp_disk.specs.View.{DiskView}

-- the payload of the changes that are due, or of the whole image, is due
pub due_is : (w : Weights) (before : Option Image) (e : Event) (image : Image) (delta : Option Delta) → IsDueDelta w before image delta → IsDue w before e image (payload_of e image delta)
due_is w before e image None due = record { tells = refl; kind = due; least = tt }
due_is w before e image (Some delta) due = record { tells = ap (option_map (record_of e)) due.1; kind = due.0; least = due.2 }

-- changes that are due lead from the image before
pub due_leads : (w : Weights) (before : Option Image) (image : Image) (d : Delta) → IsDueDelta w before image (Some d) → (i : Image) × (after i d ≡ Some image)
due_leads w None image d due = let bad : None ≡ Some image = due.1 in absurd (cc)
due_leads w (Some i) image d due = (i, due.1)

-- a payload that has room in a journal, and one that has none
pub room_refused : (len size : ℕ) (q : Payload) (f : TakeFault) → size ≡ size_in payload_form q → HasRoom len size (Err f) → SpellsDue len q (Err f)
room_refused len size q (Full l a) is refused = (refused.0, refused.1, omega (arith, refused.2, is))
room_refused len size q Memory is refused = absurd refused
room_refused len size q Disk is refused = absurd refused
room_refused len size q Stopped is refused = absurd refused

pub spelled_there : (len size : ℕ) (q : Payload) (bytes : List ℕ) → size ≡ size_in payload_form q → len + (5 + size) ≤ 2 ^ 30 → Spells payload_form q bytes → SpellsDue len q (Ok bytes)
spelled_there len size q bytes is room spells = (spells, omega (arith, room, is, ap length spells.is_spelling))

pub short_there : (len size : ℕ) (q : Payload) → size ≡ size_in payload_form q → len + (5 + size) ≤ 2 ^ 30 → length (payload_form.spelling q) < 2 ^ 32
short_there len size q is room = omega (arith, room, is)

-- what a payload adds that has room
pub adds_so : (q : Payload) (p : List ℕ) (len : ℕ) → Spells payload_form q p → len + (5 + length p) ≤ 2 ^ 30 → added q ≡ 5 + length p
adds_so q p len spells room = omega (arith, room, ap length spells.is_spelling)

-- a fault leaves the length of the journal
pub fault_keeps : {D : Type 0} (disk : DiskView D) (w : Weights) (before : Option Image) (e : Event) (image : Image) (old new : State D) (w' : Weights) (f : TakeFault)
    → AddDone disk w before e image old new w' (Err f) → new.len ≡ old.len
fault_keeps disk w before e image old new w' Memory done = ap (λ j. j.len) done.0
fault_keeps disk w before e image old new w' Disk done = done.leaves
fault_keeps disk w before e image old new w' (Full l a) done = ap (λ j. j.len) done.leaves
fault_keeps disk w before e image old new w' Stopped done = absurd done.answers

module _ {D : Type 0} (disk : DiskView D) (w : Weights) (before : Option Image) (e : Event) (image : Image) (old new : State D)
    (q : Payload) (due : IsDue w before e image q) where
  -- no payload was spelled
  pub not_spelled : (f : TakeFault) → new ≡ old → SpellsDue old.len q (Err f) → AddDone disk w before e image old new w (Err f)
  not_spelled Memory same is = (same, refl)
  not_spelled (Full l a) same is = record { payload = q; due = due; answers = is; leaves = same; weighs = refl; keeps = λ payloads holds b k. tt }
  not_spelled Disk same is = absurd is
  not_spelled Stopped same is = absurd is

  module _ (p : List ℕ) (spells : Spells payload_form q p) (room : old.len + (5 + length p) ≤ 2 ^ 30)
      (moments : (payloads : List (List ℕ)) → Holds disk old payloads → AtEachMoment disk old.disk new.disk (HasWithOrWithout payloads p)) where
    abbrev puts : (payloads : List (List ℕ)) → Holds disk old payloads → before ≡ last_image payloads → w ≡ weights_of payloads → Puts disk old new (record_of e image) payloads
    puts payloads holds image_is weights_are = record {
      payload = p;
      tells = subst (λ (o : Option Image). record_at o p ≡ Some (record_of e image)) image_is (ap (λ (o : Option Payload). o >>= record_with before) (payload_spelled q p spells) ∙ due.tells);
      spelled = q;
      spells = spells;
      kind = subst (λ (v : Weights). IsKind v q) weights_are due.kind;
      least = subst (λ (o : Option Image). HoldsLeast o q) image_is due.least;
      room = room;
      moments = moments payloads holds;
    }

    adds : added q ≡ 5 + length p
    adds = adds_so q p old.len spells room

    -- it was put behind the journal
    pub was_added : (x : Unit {0}) → AddLeaves old new (5 + length p) (Ok x) → ((payloads : List (List ℕ)) → Holds disk old payloads → Holds disk new (payloads ++ p ∷ []))
        → AddDone disk w before e image old new (weights_with w p) (Ok x)
    was_added x leaves holds_more = record {
      payload = q;
      due = due;
      answers = subst (λ (n : ℕ). old.len + n ≤ 2 ^ 30) (sym adds) room;
      leaves = (leaves.0 ∙ ap (λ (n : ℕ). old.len + n) (sym adds), leaves.1);
      weighs = ap (weights_with w) spells.is_spelling;
      keeps = λ payloads holds image_is weights_are. (
        puts payloads holds image_is weights_are,
        holds_more payloads holds,
        ap (λ (v : Weights). weights_with v p) weights_are ∙ sym (weights_push payloads p),
      );
    }

    -- or it was not, or perhaps
    pub not_added : (f : TakeFault) → (f ≡ Memory) ⊎ (f ≡ Disk) → AddLeaves old new (5 + length p) (Err f) → AddDone disk w before e image old new w (Err f)
    not_added Memory fault leaves = (leaves, refl)
    not_added Disk fault leaves = record {
      payload = q;
      due = due;
      answers = subst (λ (n : ℕ). old.len + n ≤ 2 ^ 30) (sym adds) room;
      leaves = leaves;
      weighs = refl;
      keeps = λ payloads holds image_is weights_are. puts payloads holds image_is weights_are;
    }
    not_added (Full l a) (inl is) leaves = absurd (cc)
    not_added (Full l a) (inr is) leaves = absurd (cc)
    not_added Stopped (inl is) leaves = absurd (cc)
    not_added Stopped (inr is) leaves = absurd (cc)
