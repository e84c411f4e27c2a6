-- What reading from the last whole image on finds.
use Rattle.std.proofs.Common.{◌≡◌, ◌+◌, ◌-◌, ◌<◌, ℕ, zero, suc, ◌⊎◌, inl, inr, Bool, true, false, List, [], ◌∷◌, ◌++◌, length, take, drop, Option, Some, None, Result, Ok, Err, refl, sym, ap, ◌∙◌, subst, arith, append_assoc, length-drop, slice_get}
use Rattle.std.specs.Prelude.{IfSome, IsSome}
use Rattle.std.specs.List.{All, AllByRecursion as AllAre}
use Rattle.std.proofs.lemmas.List.{drop_all, take-append-drop, take_all}
use Rattle.std.proofs.lemmas.Option.{get_or_from_slice_get, slice_get_within}
use Rattle.journal_core.specs.Records.{framed}
use Rattle.journal_core.specs.Answers.{entries_of}
use Rattle.journal_core.specs.declared.record.Record.{Record}
use Rattle.journal_core.proofs.FindingLemmas.{length-entries}
use Rattle.journal_core.proofs.RecordLemmas.{length-frame}
use Rattle.image_form.specs.declared.image.Image.{Image}
use Rattle.delta_records.specs.declared.weights.Weights.{Weights}
use Rattle.store_laws.specs.Store.{image_at, last_image}
use Rattle.durable_build.specs.declared.faults.StoreFault.{StoreFault}
use Rattle.durable_build.specs.declared.faults.StoreFault.TheVariants.{Memory, Disk, Empty, Damaged}
use Rattle.durable_build.specs.declared.load.Read.{Read}
use Rattle.durable_build.specs.Kinds.{is_whole, weights_of, weights_with}
use Rattle.durable_build.specs.Standing.{Breaks}
use Rattle.durable_build.specs.Opening.{BreaksFrom, FoundFrom, IsLastWhole, LastFound, NextBy, ReadUp}
use Rattle.durable_build.proofs.KindLemmas.{from_whole, image_push, weights_from_whole, weights_push, whole_image}

-- ---- an item of a list, and what stands before and behind it

module _ {A : Type 0} where
  take_more : (xs : List A) (k : ℕ) (x : A) → slice_get xs k ≡ Some x → take (suc k) xs ≡ take k xs ++ x ∷ []
  take_more [] zero x is = absurd (cc)
  take_more [] (suc k) x is = absurd (cc)
  take_more (y ∷ ys) zero x is = let same : y ≡ x = cc in ap (λ (z : A). z ∷ []) same
  take_more (y ∷ ys) (suc k) x is = ap (λ (l : List A). y ∷ l) (take_more ys k x is)

  drop_at_item : (xs : List A) (k : ℕ) (x : A) → slice_get xs k ≡ Some x → drop k xs ≡ x ∷ drop (suc k) xs
  drop_at_item [] zero x is = absurd (cc)
  drop_at_item [] (suc k) x is = absurd (cc)
  drop_at_item (y ∷ ys) zero x is = let same : y ≡ x = cc in ap (λ (z : A). z ∷ ys) same
  drop_at_item (y ∷ ys) (suc k) x is = drop_at_item ys k x is

  all_dropped : (P : A → Type 0) (k : ℕ) (xs : List A) → AllAre P xs → AllAre P (drop k xs)
  all_dropped P zero xs all = all
  all_dropped P (suc k) [] all = all
  all_dropped P (suc k) (x ∷ xs) all = all_dropped P k xs all.1

  behind_front : (front xs : List A) (k : ℕ) → slice_get (front ++ xs) (length front + k) ≡ slice_get xs k
  behind_front [] xs k = let same : 0 + k ≡ k = omega arith in ap (λ (n : ℕ). slice_get xs n) same
  behind_front (y ∷ ys) xs k =
      let same : length (y ∷ ys) + k ≡ suc (length ys + k) = omega arith in
      ap (λ (n : ℕ). slice_get (y ∷ ys ++ xs) n) same ∙ behind_front ys xs k

-- ---- entries of payloads

length-framed_first : (p : List ℕ) (ps : List (List ℕ)) → length (framed (p ∷ ps)) ≡ 5 + length p + length (framed ps)
length-framed_first p ps = length-frame p (framed ps)

-- what holds of all entries
pub all_at : (P : Record → Type 0) (xs : List Record) (k : ℕ) (x : Record) → All P xs → slice_get xs k ≡ Some x → P x
all_at P xs k x all is = subst P (get_or_from_slice_get xs k x x is) (all k x (slice_get_within xs k x is))

-- the payload of an entry, and its place
record EntryOf (at : ℕ) (payloads : List (List ℕ)) (k : ℕ) (e : Record) : Type 0 where
  payload : List ℕ
  is : slice_get payloads k ≡ Some payload
  place : e.at ≡ at + length (framed (take k payloads))

entry_found : (at : ℕ) (payloads : List (List ℕ)) (k : ℕ) (e : Record) → slice_get (entries_of at payloads) k ≡ Some e → EntryOf at payloads k e
entry_found at [] zero e is = absurd (cc)
entry_found at [] (suc k) e is = absurd (cc)
entry_found at (p ∷ ps) zero e is =
    let same : record { at = at; len = length p } ≡ e = cc in
    record { payload = p; is = refl; place = sym (ap (λ (x : Record). x.at) same) ∙ (omega arith) }
entry_found at (p ∷ ps) (suc k) e is =
    let more = entry_found (at + 5 + length p) ps k e is in
    record { payload = more.payload; is = more.is; place = omega (arith, more.place, length-framed_first p (take k ps)) }

entries_behind : (at : ℕ) (front ps : List (List ℕ)) (k : ℕ) → slice_get (entries_of at (front ++ ps)) (length front + k) ≡ slice_get (entries_of (at + length (framed front)) ps) k
entries_behind at [] ps k =
    let here : 0 + k ≡ k = omega arith in
    let same : at ≡ at + length (framed []) = omega arith in
    ap (λ (n : ℕ). slice_get (entries_of at ps) n) here ∙ ap (λ (n : ℕ). slice_get (entries_of n ps) k) same
entries_behind at (p ∷ front) ps k =
    let same : at + 5 + length p + length (framed front) ≡ at + length (framed (p ∷ front)) = omega (arith, length-framed_first p front) in
    let here : length (p ∷ front) + k ≡ suc (length front + k) = omega arith in
    ap (λ (n : ℕ). slice_get (entries_of at (p ∷ front ++ ps)) n) here ∙ entries_behind (at + 5 + length p) front ps k ∙ ap (λ (n : ℕ). slice_get (entries_of n ps) k) same

entries_dropped : (at k : ℕ) (ps : List (List ℕ)) → drop k (entries_of at ps) ≡ entries_of (at + length (framed (take k ps))) (drop k ps)
entries_dropped at zero ps = let same : at ≡ at + length (framed []) = omega arith in ap (λ (n : ℕ). entries_of n ps) same
entries_dropped at (suc k) [] = refl
entries_dropped at (suc k) (p ∷ ps) =
    let same : at + 5 + length p + length (framed (take k ps)) ≡ at + length (framed (p ∷ take k ps)) = omega (arith, length-framed_first p (take k ps)) in
    entries_dropped (at + 5 + length p) k ps ∙ ap (λ (n : ℕ). entries_of n (drop k ps)) same

length-framed-append : (front more : List (List ℕ)) → length (framed (front ++ more)) ≡ length (framed front) + length (framed more)
length-framed-append [] more = omega arith
length-framed-append (p ∷ ps) more = omega (arith, length-framed_first p (ps ++ more), length-framed_first p ps, length-framed-append ps more)

-- ---- one record more

-- the first one
read_first : (payloads : List (List ℕ)) (p : List ℕ) (read : Read) → slice_get payloads 0 ≡ Some p → image_at None p ≡ Some read.image → read.weights ≡ weights_with (weights_of []) p → ReadUp payloads 0 read
read_first [] p read is image weights = absurd (cc)
read_first (q ∷ qs) p read is image weights =
    let same : q ≡ p = cc in
    record { image = ap (image_at None) same ∙ image; weights = weights ∙ ap (weights_with (weights_of [])) (sym same) }

-- the next one
read_more : (payloads : List (List ℕ)) (k : ℕ) (q : List ℕ) (old new : Read) → slice_get payloads (suc k) ≡ Some q → ReadUp payloads k old → image_at (Some old.image) q ≡ Some new.image → new.weights ≡ weights_with old.weights q
    → ReadUp payloads (suc k) new
read_more payloads k q old new is up image weights =
    let more : take (suc (suc k)) payloads ≡ take (suc k) payloads ++ q ∷ [] = take_more payloads (suc k) q is in
    record {
      image = ap last_image more ∙ image_push (take (suc k) payloads) q ∙ ap (λ (o : Option Image). image_at o q) up.image ∙ image;
      weights = weights ∙ ap (λ (w : Weights). weights_with w q) up.weights ∙ sym (weights_push (take (suc k) payloads) q) ∙ ap weights_of (sym more);
    }

-- the last one
read_all : (front payloads : List (List ℕ)) (k : ℕ) (read : Read) → length payloads ≡ suc k → ReadUp payloads k read → FoundFrom front payloads (Ok read)
read_all front payloads k read all up =
    let same : take (suc k) payloads ≡ payloads = take_all (suc k) payloads (omega (arith, all)) in
    (subst (λ (ps : List (List ℕ)). last_image ps ≡ Some read.image) same up.image, subst (λ (ps : List (List ℕ)). read.weights ≡ weights_of ps) same up.weights)

-- one at fault
abbrev IsDiskFault : Result Read StoreFault → Type 0
IsDiskFault r = r ≡ Err Disk

some_is : (o : Option Image) (i : Image) → o ≡ Some i → IsSome o
some_is None i is = absurd (cc)
some_is (Some j) i is = refl

first_broken : (front payloads : List (List ℕ)) (p : List ℕ) (w : Weights) (at : ℕ) (f : StoreFault) → slice_get payloads 0 ≡ Some p → at ≡ length (framed front) → NextBy None w p at (Err f) ⊎ IsDiskFault (Err f) → FoundFrom front payloads (Err f)
first_broken front payloads p w at Memory is place found = tt
first_broken front payloads p w at Disk is place found = tt
first_broken front payloads p w at Empty is place (inl found) = found
first_broken front payloads p w at Empty is place (inr found) = cc
first_broken front payloads p w at (Damaged n) is place (inl found) = record { passed = 0; payload = p; is = is; place = omega (arith, found.0, place); none = found.1; first = inl refl }
first_broken front payloads p w at (Damaged n) is place (inr found) = cc

next_broken : (front payloads : List (List ℕ)) (k : ℕ) (p : List ℕ) (old : Read) (at : ℕ) (f : StoreFault) → slice_get payloads (suc k) ≡ Some p → at ≡ length (framed front) + length (framed (take (suc k) payloads)) → ReadUp payloads k old
    → NextBy (Some old.image) old.weights p at (Err f) ⊎ IsDiskFault (Err f) → FoundFrom front payloads (Err f)
next_broken front payloads k p old at Memory is place up found = tt
next_broken front payloads k p old at Disk is place up found = tt
next_broken front payloads k p old at Empty is place up (inl found) = found
next_broken front payloads k p old at Empty is place up (inr found) = cc
next_broken front payloads k p old at (Damaged n) is place up (inl found) = record {
  passed = suc k;
  payload = p;
  is = is;
  place = found.0 ∙ place;
  none = ap (λ (o : Option Image). image_at o p) up.image ∙ found.1;
  first = inr (some_is (last_image (take (suc k) payloads)) old.image up.image);
}
next_broken front payloads k p old at (Damaged n) is place up (inr found) = cc

-- ---- one record more, by what reading it found

-- an entry of payloads that stand behind those in front
record Placed (front payloads : List (List ℕ)) (k : ℕ) (e : Record) : Type 0 where
  payload : List ℕ
  is : slice_get payloads k ≡ Some payload
  place : e.at ≡ length (framed front) + length (framed (take k payloads))
  entry : slice_get (entries_of 0 (front ++ payloads)) (length front + k) ≡ Some e
  here : slice_get (front ++ payloads) (length front + k) ≡ Some payload

placed : (front payloads : List (List ℕ)) (entries : List Record) (k : ℕ) (e : Record) → entries ≡ entries_of (length (framed front)) payloads → slice_get entries k ≡ Some e → Placed front payloads k e
placed front payloads entries k e are is =
    let at : slice_get (entries_of (length (framed front)) payloads) k ≡ Some e = subst (λ (es : List Record). slice_get es k ≡ Some e) are is in
    let found = entry_found (length (framed front)) payloads k e at in
    let zero_more : 0 + length (framed front) ≡ length (framed front) = omega arith in
    record {
      payload = found.payload;
      is = found.is;
      place = found.place;
      entry = entries_behind 0 front payloads k ∙ ap (λ (n : ℕ). slice_get (entries_of n payloads) k) zero_more ∙ at;
      here = behind_front front payloads k ∙ found.is;
    }

-- what reading an entry of all payloads found
abbrev pub NextFound : Option Image → Weights → List (List ℕ) → Record → Result Read StoreFault → Type 0
NextFound before w all e r = (k : ℕ) (p : List ℕ) → slice_get (entries_of 0 all) k ≡ Some e → slice_get all k ≡ Some p → NextBy before w p e.at r ⊎ (r ≡ Err Disk)

was_read : (before : Option Image) (w : Weights) (p : List ℕ) (at : ℕ) (read : Read) → NextBy before w p at (Ok read) ⊎ (Ok read ≡ Err Disk) → NextBy before w p at (Ok read)
was_read before w p at read (inl is) = is
was_read before w p at read (inr is) = absurd (cc)

module _ (front payloads : List (List ℕ)) (entries : List Record) (are : entries ≡ entries_of (length (framed front)) payloads) where
  module _ (e : Record) (is : slice_get entries 0 ≡ Some e) (w : Weights) (none : w ≡ weights_of []) where
    pub first_refused : (f : StoreFault) → NextFound None w (front ++ payloads) e (Err f) → FoundFrom front payloads (Err f)
    first_refused f found =
        let at = placed front payloads entries 0 e are is in
        let nothing : length (framed (take 0 payloads)) ≡ 0 = refl in
        first_broken front payloads at.payload w e.at f at.is (omega (arith, at.place, nothing)) (found (length front + 0) at.payload at.entry at.here)

    pub first_read : (read : Read) → NextFound None w (front ++ payloads) e (Ok read) → ReadUp payloads 0 read
    first_read read found =
        let at = placed front payloads entries 0 e are is in
        let next = was_read None w at.payload e.at read (found (length front + 0) at.payload at.entry at.here) in
        read_first payloads at.payload read at.is next.0 (next.1 ∙ ap (λ (v : Weights). weights_with v at.payload) none)

  module _ (k : ℕ) (e : Record) (is : slice_get entries (suc k) ≡ Some e) (old : Read) (up : ReadUp payloads k old) where
    pub next_refused : (f : StoreFault) → NextFound (Some old.image) old.weights (front ++ payloads) e (Err f) → FoundFrom front payloads (Err f)
    next_refused f found =
        let at = placed front payloads entries (suc k) e are is in
        next_broken front payloads k at.payload old e.at f at.is at.place up (found (length front + suc k) at.payload at.entry at.here)

    pub next_read : (new : Read) → NextFound (Some old.image) old.weights (front ++ payloads) e (Ok new) → ReadUp payloads (suc k) new
    next_read new found =
        let at = placed front payloads entries (suc k) e are is in
        let next = was_read (Some old.image) old.weights at.payload e.at new (found (length front + suc k) at.payload at.entry at.here) in
        read_more payloads k at.payload old new at.is up next.0 next.1

  pub all_read : (k : ℕ) (read : Read) → length entries ≡ suc k → ReadUp payloads k read → FoundFrom front payloads (Ok read)
  all_read k read all up = read_all front payloads k read (sym (length-entries (length (framed front)) payloads) ∙ sym (ap length are) ∙ all) up

-- ---- from the last whole one on

-- where the payload at k is whole, or is the first and that is whole
whole_there : (p : List ℕ) (ps : List (List ℕ)) (k : ℕ) (q : List ℕ) → is_whole p ≡ true → slice_get (p ∷ ps) k ≡ Some q → (k ≡ 0) ⊎ IfSome (slice_get (p ∷ ps) k) (λ x. is_whole x ≡ true) → is_whole q ≡ true
whole_there p ps k q whole is (inl zero_is) =
    let here : slice_get (p ∷ ps) 0 ≡ Some q = subst (λ (n : ℕ). slice_get (p ∷ ps) n ≡ Some q) zero_is is in
    let same : p ≡ q = cc in
    subst (λ (x : List ℕ). is_whole x ≡ true) same whole
whole_there p ps k q whole is (inr some) = subst (λ (o : Option (List ℕ)). IfSome o (λ x. is_whole x ≡ true)) is some

breaks_last : (front ps : List (List ℕ)) (q : List ℕ) (at : ℕ) → is_whole q ≡ true → AllAre (λ x. is_whole x ≡ false) ps → BreaksFrom front (q ∷ ps) at → Breaks (front ++ q ∷ ps) at
breaks_last front ps q at whole changes b = by b.passed b.is b.place b.none b.first
  where
    by : (n : ℕ) → slice_get (q ∷ ps) n ≡ Some b.payload → at ≡ length (framed front) + length (framed (take n (q ∷ ps))) → image_at (last_image (take n (q ∷ ps))) b.payload ≡ None → (n ≡ 0) ⊎ IsSome (last_image (take n (q ∷ ps)))
        → Breaks (front ++ q ∷ ps) at
    by zero is place none first =
        let same : q ≡ b.payload = cc in
        record {
          front = front;
          payload = q;
          behind = ps;
          are = refl;
          place = omega (arith, place);
          none = whole_image q (last_image front) None whole ∙ ap (image_at None) same ∙ none;
          first = inl whole;
          changes = changes;
        }
    by (suc n) is place none (inl zero_is) = absurd (omega (arith, zero_is))
    by (suc n) is place none (inr some) =
        let before : List (List ℕ) = q ∷ take n ps in
        let here : last_image (front ++ before) ≡ last_image before = from_whole front (take n ps) q whole in
        let split : ps ≡ take n ps ++ b.payload ∷ drop (suc n) ps = sym (take-append-drop n ps) ∙ ap (λ (l : List (List ℕ)). take n ps ++ l) (drop_at_item ps n b.payload is) in
        record {
          front = front ++ before;
          payload = b.payload;
          behind = drop (suc n) ps;
          are = ap (λ (l : List (List ℕ)). front ++ q ∷ l) split ∙ sym (append_assoc front before (b.payload ∷ drop (suc n) ps));
          place = place ∙ sym (length-framed-append front before);
          none = ap (λ (o : Option Image). image_at o b.payload) here ∙ none;
          first = inr (subst IsSome (sym here) some);
          changes = all_dropped (λ x. is_whole x ≡ false) (suc n) ps changes;
        }

found_last : (front ps : List (List ℕ)) (q : List ℕ) (r : Result Read StoreFault) → is_whole q ≡ true → AllAre (λ x. is_whole x ≡ false) ps → FoundFrom front (q ∷ ps) r → LastFound (front ++ q ∷ ps) r
found_last front ps q (Ok read) whole changes found = (from_whole front ps q whole ∙ found.0, found.1 ∙ sym (weights_from_whole front ps q whole))
found_last front ps q (Err Memory) whole changes found = tt
found_last front ps q (Err Disk) whole changes found = tt
found_last front ps q (Err Empty) whole changes found = found
found_last front ps q (Err (Damaged at)) whole changes found = breaks_last front ps q at whole changes found

last_found : (p : List ℕ) (ps : List (List ℕ)) (k : ℕ) (q : List ℕ) (r : Result Read StoreFault) → is_whole p ≡ true → slice_get (p ∷ ps) k ≡ Some q → IsLastWhole (p ∷ ps) k → FoundFrom (take k (p ∷ ps)) (drop k (p ∷ ps)) r → LastFound (p ∷ ps) r
last_found p ps k q r whole is last found =
    let all : List (List ℕ) = p ∷ ps in
    let tail : drop k all ≡ q ∷ drop (suc k) all = drop_at_item all k q is in
    subst (λ (l : List (List ℕ)). LastFound l r) (ap (λ (l : List (List ℕ)). take k all ++ l) (sym tail) ∙ take-append-drop k all)
    (found_last (take k all) (drop (suc k) all) q r (whole_there p ps k q whole is last.0) last.1 (subst (λ (l : List (List ℕ)). FoundFrom (take k all) l r) tail found))

tail_entries : (all : List (List ℕ)) (entries : List Record) (k : ℕ) (e : Record) → entries ≡ entries_of 0 all → slice_get entries k ≡ Some e → e ∷ drop (suc k) entries ≡ entries_of (length (framed (take k all))) (drop k all)
tail_entries all entries k e are is =
    let place : 0 + length (framed (take k all)) ≡ length (framed (take k all)) = omega arith in
    sym (drop_at_item entries k e is) ∙ ap (λ (es : List Record). drop k es) are ∙ entries_dropped 0 k all ∙ ap (λ (n : ℕ). entries_of n (drop k all)) place

-- the entries behind it, as a slice has them
pub behind_whole : (entries : List Record) (k : ℕ) → take (length entries - (k + 1)) (drop (k + 1) entries) ≡ drop (suc k) entries
behind_whole entries k =
    let more : k + 1 ≡ suc k = omega arith in
    take_all (length entries - (k + 1)) (drop (k + 1) entries) (omega (arith, length-drop (k + 1) entries)) ∙ ap (λ (n : ℕ). drop n entries) more

-- what reading from there on found
abbrev pub FoundBehind : List (List ℕ) → Record → List Record → Result Read StoreFault → Type 0
FoundBehind all e behind r = (front payloads : List (List ℕ)) → all ≡ front ++ payloads → e ∷ behind ≡ entries_of (length (framed front)) payloads → FoundFrom front payloads r

pub last_of_all : (p : List ℕ) (ps : List (List ℕ)) (entries : List Record) (k : ℕ) (e : Record) (r : Result Read StoreFault) → is_whole p ≡ true → entries ≡ entries_of 0 (p ∷ ps) → slice_get entries k ≡ Some e → IsLastWhole (p ∷ ps) k
    → FoundBehind (p ∷ ps) e (drop (suc k) entries) r → LastFound (p ∷ ps) r
last_of_all p ps entries k e r whole are is last found =
    let all : List (List ℕ) = p ∷ ps in
    let entry = entry_found 0 all k e (subst (λ (es : List Record). slice_get es k ≡ Some e) are is) in
    last_found p ps k entry.payload r whole entry.is last (found (take k all) (drop k all) (sym (take-append-drop k all)) (tail_entries all entries k e are is))

-- the search for it was refused
pub not_found : (all : List (List ℕ)) (f : StoreFault) → (f ≡ Memory) ⊎ (f ≡ Disk) → LastFound all (Err f)
not_found all f (inl is) = subst (λ (x : StoreFault). LastFound all (Err x)) (sym is) tt
not_found all f (inr is) = subst (λ (x : StoreFault). LastFound all (Err x)) (sym is) tt

-- ---- the search for it, from the end

-- what was found of the payload of an entry
abbrev pub FoundWhole : List (List ℕ) → ℕ → Record → Bool → Type 0
FoundWhole payloads k e whole = (p : List ℕ) → slice_get (entries_of 0 payloads) k ≡ Some e → slice_get payloads k ≡ Some p → whole ≡ is_whole p

-- it is a whole one
pub is_last : (payloads : List (List ℕ)) (entries : List Record) (k : ℕ) (e : Record) (whole : Bool) → entries ≡ entries_of 0 payloads → slice_get entries k ≡ Some e → whole ≡ true → FoundWhole payloads k e whole
    → AllAre (λ p. is_whole p ≡ false) (drop (suc k) payloads) → IsLastWhole payloads k
is_last payloads entries k e whole are is told found all =
    let at : slice_get (entries_of 0 payloads) k ≡ Some e = subst (λ (es : List Record). slice_get es k ≡ Some e) are is in
    let entry = entry_found 0 payloads k e at in
    (inr (subst (λ (o : Option (List ℕ)). IfSome o (λ p. is_whole p ≡ true)) (sym entry.is) (sym (found entry.payload at entry.is) ∙ told)), all)

-- it is none: one more from the end
pub none_more : (payloads : List (List ℕ)) (entries : List Record) (k : ℕ) (e : Record) (whole : Bool) → entries ≡ entries_of 0 payloads → slice_get entries k ≡ Some e → whole ≡ false → FoundWhole payloads k e whole
    → AllAre (λ p. is_whole p ≡ false) (drop (suc k) payloads) → 0 < k → AllAre (λ p. is_whole p ≡ false) (drop (suc (k - 1)) payloads)
none_more payloads entries k e whole are is told found all some =
    let at : slice_get (entries_of 0 payloads) k ≡ Some e = subst (λ (es : List Record). slice_get es k ≡ Some e) are is in
    let entry = entry_found 0 payloads k e at in
    let here : AllAre (λ (p : List ℕ). is_whole p ≡ false) (drop k payloads) =
    subst (AllAre (λ (p : List ℕ). is_whole p ≡ false)) (sym (drop_at_item payloads k entry.payload entry.is)) (sym (found entry.payload at entry.is) ∙ told, all) in
    let same : k ≡ suc (k - 1) = omega (arith, some) in
    subst (λ (n : ℕ). AllAre (λ (p : List ℕ). is_whole p ≡ false) (drop n payloads)) same here

-- behind the last one there is none
pub none_behind_all : (payloads : List (List ℕ)) (entries : List Record) → entries ≡ entries_of 0 payloads → 0 < length entries → AllAre (λ p. is_whole p ≡ false) (drop (suc (length entries - 1)) payloads)
none_behind_all payloads entries are some =
    let same : suc (length entries - 1) ≡ length payloads = omega (arith, some, ap length are, length-entries 0 payloads) in
    subst (λ (n : ℕ). AllAre (λ (p : List ℕ). is_whole p ≡ false) (drop n payloads)) (sym same) (subst (AllAre (λ (p : List ℕ). is_whole p ≡ false)) (sym (drop_all (length payloads) payloads (omega arith))) tt)
