-- What is known of the store goes on through one take.
use Rattle.std.proofs.Common.{◌≡◌, ◌⊎◌, ◌≤◌, ◌∙◌, ℕ, ◌+◌, zero, suc, inl, inr, true, false, List, [], ◌∷◌, ◌++◌, length, take, Option, Some, None, Result, Ok, Err, refl, sym, ap, subst, append_assoc, append-nil, arith, length-append}
use Rattle.std.specs.Prelude.{IsErrOf, OnOk, fold}
use Rattle.device_faults.specs.Faults.{Rose}
use Rattle.jp_disk.specs.Runs.{AtEachMoment}
use Rattle.jp_disk.proofs.MomentLemmas.{starts, runs_on, at_each_weaker, rose_later}
use Rattle.journal_core.specs.Records.{Has, HasWithOrWithout, framed}
use Rattle.journal_core.proofs.StepLemmas.{stores_has}
use Rattle.durable_build.specs.Lower.record_form.Records.{record_of}
use Rattle.durable_build.specs.Lower.record_form.declared.record.EventRecord.{EventRecord}
use Rattle.model_run.specs.declared.event.Event.{Event}
use Rattle.model_run.specs.declared.taken.Taken.{Taken}
use Rattle.model_run.specs.declared.taken.Taken.TheVariants.{Accepted, NotOpen, WrongPlace, Finished}
use Rattle.model_run.specs.State.{Setting}
use Rattle.model_run.specs.World as W
use Rattle.image_form.specs.declared.image.Image.{Image}
use Rattle.settle_laws.specs.Stances.{Stance}
use Rattle.durable_build.specs.Lower.build_core.Builds.{Parts, StandsFor, setting_in}
use Rattle.durable_build.specs.Lower.build_core.Phases.{has_begun}
use Rattle.durable_build.specs.Lower.build_images.Images.{world_image, image_in}
use Rattle.durable_build.specs.Lower.store_laws.Store.{Told, events_of, grant_of, last_image, record_at}
use Rattle.durable_build.proofs.Lower.store_laws.Payloads.{image_behind_more}
use Rattle.durable_build.proofs.Lower.store_laws.Stories.{tell_more, events-more, world-more, due_more, follows_more}
use Rattle.journal_core.specs.declared.faults.TakeFault.{TakeFault}
use Rattle.journal_core.specs.declared.faults.TakeFault.TheVariants.{Memory, Disk, Full, Stopped}
use Rattle.std.specs.List.{AllByRecursion as AllAre}
use Rattle.durable_build.specs.Standing.{IsWhole, Kept, Keeps, image_before, world_before}
use Rattle.durable_build.specs.Lower.delta_records.declared.weights.Weights.{Weights}
use Rattle.durable_build.specs.Kinds.{weights_of}
use Rattle.durable_build.specs.Taking.{Adds, DueAdds, LeavesWhole, Risks, IsSized as TellsSize, TakeAnswers, TakeKeeps, TakeLeaves}
use Rattle.durable_build.proofs.Sizes.{due_adds}
use Rattle.durable_build.proofs.TakeLemmas.{stands_last}
use Rattle.locked_build.specs.declared.ask.Entry.{Entry}
use Rattle.locked_build.specs.declared.ask.Entry.TheVariants.{Took, Failed}
use Rattle.locked_build.specs.Histories.{tooks, kept_fault, at_risk, Quiet}
use Rattle.locked_build.specs.Showing.{answer_of, IsNext, IsShown}
use Rattle.locked_build.specs.Facts.{IsMeant, GoOn, HasFront, Grown, IsFull, IsSized, Facts}
use Rattle.locked_build.specs.Grants.{noted}
use Rattle.locked_build.proofs.HistoryLaws.{tooks-append, kept_fault-append, fault_not_none, pending-append, none_pending, none_full, full-append, none_sized, sized-append}
use Rattle.locked_build.proofs.WorldLaws.{IsInOrder, next_in_order, same_answer}
use Rattle.jp_disk.specs.View.{DiskLaws, DiskView}

fold-append : (s : Setting) (w : W.Build) (es fs : List Event) → fold (W.after_one s) w (es ++ fs) ≡ fold (W.after_one s) (fold (W.after_one s) w es) fs
fold-append s w [] fs = refl
fold-append s w (e ∷ es) fs = fold-append s (W.after_one s w e) es fs

no_last : (es : List Event) (e : Event) → es ++ e ∷ [] ≡ [] → ⊥
no_last [] e is = cc
no_last (x ∷ xs) e is = cc

no_records : (rs : List EventRecord) → events_of rs ≡ [] → rs ≡ []
no_records [] is = refl
no_records (r ∷ rs) is = absurd (cc)

no_payloads : (before : Option Image) (rs : List EventRecord) (ps : List (List ℕ)) → rs ≡ [] → Told before rs ps → ps ≡ []
no_payloads before [] [] none all = refl
no_payloads before [] (p ∷ ps) none all = absurd all
no_payloads before (r ∷ rs) ps none all = absurd (cc)

-- more that are so
pub all_append : {A : Type 0} (P : A → Type 0) (xs ys : List A) → AllAre P xs → AllAre P ys → AllAre P (xs ++ ys)
all_append P [] ys one two = two
all_append P (x ∷ xs) ys one two = (one.0, all_append P xs ys one.1 two)

-- fronts of a list
front_within : (xs ys : List (List ℕ)) (k : ℕ) → (n : ℕ) × (take k xs ≡ take n (xs ++ ys))
front_within [] ys zero = (0, refl)
front_within [] ys (suc k) = (0, refl)
front_within (x ∷ xs) ys zero = (0, refl)
front_within (x ∷ xs) ys (suc k) = let w = front_within xs ys k in (suc w.0, ap (λ (zs : List (List ℕ)). x ∷ zs) w.1)

front_all : (xs ys : List (List ℕ)) → (n : ℕ) × (xs ≡ take n (xs ++ ys))
front_all [] ys = (0, refl)
front_all (x ∷ xs) ys = let w = front_all xs ys in (suc w.0, ap (λ (zs : List (List ℕ)). x ∷ zs) w.1)

-- the same records, with one that may be behind them
front_more : (ps added : List (List ℕ)) (p : List ℕ) (image : List ℕ) → HasFront ps added image → HasFront ps (added ++ p ∷ []) image
front_more ps added p image is = let w = front_within added (p ∷ []) is.0 in (w.0, subst (λ (xs : List (List ℕ)). Has (ps ++ xs) image) w.1 is.1)

either_front : (ps added : List (List ℕ)) (p : List ℕ) (image : List ℕ) → HasWithOrWithout (ps ++ added) p image → HasFront ps (added ++ p ∷ []) image
either_front ps added p image (inl is) = let w = front_all added (p ∷ []) in (w.0, subst (λ (xs : List (List ℕ)). Has (ps ++ xs) image) w.1 is)
either_front ps added p image (inr is) =
    let w = front_all (added ++ p ∷ []) [] in
    (w.0, subst (λ (xs : List (List ℕ)). Has (ps ++ xs) image) (w.1 ∙ ap (λ (xs : List (List ℕ)). take w.0 xs) (append-nil (added ++ p ∷ []))) (subst (λ (xs : List (List ℕ)). Has xs image) (append_assoc ps added (p ∷ [])) is))

module _ {T : Type 0} (stance : T → Stance) where
  -- the build after one event more
  pub shown_more : (opening b after : Parts T) (events : List Event) (e : Event) → has_begun after.phase ≡ true → IsShown stance opening events b → IsNext stance b e after → IsShown stance opening (events ++ e ∷ []) after
  shown_more opening b after events e begun shown next = record {
    begun = begun;
    setting = next.setting ∙ shown.setting;
    unchanged = λ none. absurd (no_last events e none);
    stands = λ w at.
        let s = setting_in opening in
        let before : StandsFor stance b (fold (W.after_one s) w events) = shown.stands w at in
        subst (StandsFor stance after) (sym (world-more s w events e))
        (subst (λ (x : Setting). StandsFor stance after (W.after_one x (fold (W.after_one s) w events) e)) shown.setting (next.stands (fold (W.after_one s) w events) before));
  }

  -- and its record
  pub go_on_more : (opening b : Parts T) (records : List EventRecord) (events : List Event) (r : EventRecord) → GoOn stance opening records → events_of records ≡ events → IsShown stance opening events b
      → answer_of b r.event ≡ Accepted → IsInOrder b r.event → ((w : W.Build) → StandsFor stance b w → r.image ≡ world_image (setting_in b) (W.after_one (setting_in b) w r.event))
      → GoOn stance opening (records ++ r ∷ [])
  go_on_more opening b records events r on are shown accepted order image before meant started at =
      let s = setting_in opening in
      let w = W.world_in s before in
      let so_far = on before meant started at in
      let here : W.Build = fold (W.after_one s) w (events_of records) in
      let at_here : StandsFor stance b here = subst (λ (es : List Event). StandsFor stance b (fold (W.after_one s) w es)) (sym are) (shown.stands w at) in
      let is_world : here ≡ W.world_in s (before ++ events_of records) = sym (fold-append s W.unbegun before (events_of records)) in
      let begun_here : here.started ≡ true = at_here.started ∙ shown.begun in
      let answered : W.answer_to s here r.event ≡ Accepted = subst (λ (x : Setting). W.answer_to x here r.event ≡ Accepted) shown.setting (same_answer stance b here shown.begun at_here r.event ∙ accepted) in
      let pictured : r.image ≡ world_image s (W.after_one s here r.event) = subst (λ (x : Setting). r.image ≡ world_image x (W.after_one x here r.event)) shown.setting (image here at_here) in
      let due_here : W.next_grant s here ≡ grant_of r.event =
      subst (λ (x : W.Build). W.next_grant s x ≡ grant_of r.event) (sym is_world)
      (subst (λ (x : Setting). IsMeant x → (W.world_in x (before ++ events_of records)).started ≡ true → StandsFor stance b (W.world_in x (before ++ events_of records)) → W.next_grant x (W.world_in x (before ++ events_of records)) ≡ grant_of r.event) shown.setting
      (λ m st stands. next_in_order stance b shown.begun r.event accepted order m (before ++ events_of records) st stands)
      meant (subst (λ (x : W.Build). x.started ≡ true) is_world begun_here) (subst (StandsFor stance b) is_world at_here)) in
      (follows_more world_image s w records r so_far.0 answered pictured, due_more s w records r so_far.1 due_here)

module _ {D T : Type 0} (disk : DiskView D) (stance : T → Stance) (opening old : Kept D T) (h : List Entry) (none : kept_fault h ≡ None) (ps : List (List ℕ))
    (g : Grown disk stance opening old h ps) where
  -- while no fault is kept no record is pending
  no_last_records : g.last_records ≡ []
  no_last_records = no_records g.last_records (g.last_events ∙ none_pending h none)

  none_last : g.last ≡ []
  none_last = no_payloads (last_image (ps ++ g.added)) g.last_records g.last no_last_records g.last_spelled

  only_added : g.added ++ g.last ≡ g.added
  only_added = ap (λ (xs : List (List ℕ)). g.added ++ xs) none_last ∙ append-nil g.added

  only_records : g.records ++ g.last_records ≡ g.records
  only_records = ap (λ (rs : List EventRecord). g.records ++ rs) no_last_records ∙ append-nil g.records

  pub on_so_far : GoOn stance opening.build g.records
  on_so_far = subst (GoOn stance opening.build) only_records g.go_on

  pub whole_so_far : AllAre (λ (r : EventRecord). IsWhole (setting_in opening.build) r.image) g.records
  whole_so_far = subst (AllAre (λ (r : EventRecord). IsWhole (setting_in opening.build) r.image)) only_records g.whole

  whole_more : (r : EventRecord) → IsWhole (setting_in opening.build) r.image → AllAre (λ (r : EventRecord). IsWhole (setting_in opening.build) r.image) (g.records ++ r ∷ [])
  whole_more r whole = all_append (λ (r : EventRecord). IsWhole (setting_in opening.build) r.image) g.records (r ∷ []) whole_so_far (whole, tt)

  front_so_far : AtEachMoment disk opening.journal.disk old.journal.disk (HasFront ps g.added)
  front_so_far = subst (λ (xs : List (List ℕ)). AtEachMoment disk opening.journal.disk old.journal.disk (HasFront ps xs)) only_added g.moments

  module _ (new : Kept D T) where
    moments_more : (p : List ℕ) → AtEachMoment disk old.journal.disk new.journal.disk (HasWithOrWithout (ps ++ g.added) p) → AtEachMoment disk opening.journal.disk new.journal.disk (HasFront ps (g.added ++ p ∷ []))
    moments_more p run =
        runs_on disk opening.journal.disk old.journal.disk new.journal.disk (HasFront ps (g.added ++ p ∷ []))
        (at_each_weaker disk opening.journal.disk old.journal.disk (HasFront ps g.added) (HasFront ps (g.added ++ p ∷ [])) (front_more ps g.added p) front_so_far)
        (at_each_weaker disk old.journal.disk new.journal.disk (HasWithOrWithout (ps ++ g.added) p) (HasFront ps (g.added ++ p ∷ [])) (either_front ps g.added p) run)

    -- a record more
    pub grown_more : (e : Event) → Adds disk stance old new e (ps ++ g.added) → GoOn stance opening.build (g.records ++ record_of e (image_in stance new.build) ∷ [])
        → IsWhole (setting_in opening.build) (image_in stance new.build) → Grown disk stance opening new (h ++ Took e ∷ []) ps
    grown_more e a on whole =
        let p = a.puts.payload in
        let all = g.added ++ p ∷ [] in
        let r = record_of e (image_in stance new.build) in
        let here : Keeps disk stance new (ps ++ all) = subst (Keeps disk stance new) (append_assoc ps g.added (p ∷ [])) a.keeps in
        record {
          records = g.records ++ r ∷ [];
          events = events-more g.records r ∙ ap (λ (es : List Event). es ++ e ∷ []) g.events ∙ sym (tooks-append h (Took e ∷ []));
          added = all;
          spelled = tell_more (last_image ps) g.records g.added r p g.spelled (subst (λ (o : Option Image). record_at o p ≡ Some r) (image_behind_more None ps g.added) a.puts.tells);
          last_records = [];
          last_events = sym (pending-append h (Took e ∷ []) none);
          last = [];
          last_spelled = tt;
          go_on = subst (GoOn stance opening.build) (sym (append-nil (g.records ++ r ∷ []))) on;
          whole = subst (AllAre (λ (r : EventRecord). IsWhole (setting_in opening.build) r.image)) (sym (append-nil (g.records ++ r ∷ []))) (whole_more r whole);
          ends = here.holds.ends;
          weighs = here.weighs;
          full = none_full stance (weights_of (ps ++ all)) (last_image (ps ++ all)) new (h ++ Took e ∷ []) (kept_fault-append h (Took e ∷ []) none);
          keeps = λ _. here;
          moments = subst (λ (xs : List (List ℕ)). AtEachMoment disk opening.journal.disk new.journal.disk (HasFront ps xs)) (sym (append-nil all)) (moments_more p a.puts.moments);
          images = λ image left. inl (stores_has disk new.journal.disk new.journal.len (ps ++ all) image here.holds left);
        }

    -- a take that failed, and left the disk
    pub grown_still : (f : TakeFault) (event : Option Event) → at_risk f event ≡ [] → new.journal ≡ old.journal → new.weights ≡ old.weights → IsFull stance (weights_of (ps ++ g.added)) (last_image (ps ++ g.added)) new f event
        → Grown disk stance opening new (h ++ Failed f event ∷ []) ps
    grown_still f event safe same weighs full = record {
      records = g.records;
      events = g.events ∙ sym (append-nil (tooks h)) ∙ sym (tooks-append h (Failed f event ∷ []));
      added = g.added;
      spelled = g.spelled;
      last_records = g.last_records;
      last_events = g.last_events ∙ none_pending h none ∙ sym safe ∙ sym (pending-append h (Failed f event ∷ []) none);
      last = g.last;
      last_spelled = g.last_spelled;
      go_on = g.go_on;
      whole = g.whole;
      ends = ap (λ j. j.len) same ∙ g.ends;
      weighs = weighs ∙ g.weighs;
      full = full-append stance (weights_of (ps ++ g.added)) (last_image (ps ++ g.added)) new h f event none full;
      keeps = λ is. absurd (fault_not_none h f event none is);
      moments = subst (λ j. AtEachMoment disk opening.journal.disk j.disk (HasFront ps (g.added ++ g.last))) (sym same) g.moments;
      images = subst (λ j. (image : List ℕ) → disk.may_leave j.disk image → Has (ps ++ g.added) image ⊎ Has (ps ++ g.added ++ g.last) image) (sym same) g.images;
    }

    -- a take that the disk failed
    pub grown_torn : DiskLaws disk → (e : Event) → new.journal.len ≡ old.journal.len → new.weights ≡ old.weights → Risks disk stance old new e (ps ++ g.added)
        → GoOn stance opening.build (g.records ++ record_of e (image_in stance new.build) ∷ []) → IsWhole (setting_in opening.build) (image_in stance new.build)
        → Grown disk stance opening new (h ++ Failed Disk (Some e) ∷ []) ps
    grown_torn laws e len weighs a on whole =
        let p = a.puts.payload in
        record {
          records = g.records;
          events = g.events ∙ sym (append-nil (tooks h)) ∙ sym (tooks-append h (Failed Disk (Some e) ∷ []));
          added = g.added;
          spelled = g.spelled;
          last_records = record_of e (image_in stance new.build) ∷ [];
          last_events = sym (pending-append h (Failed Disk (Some e) ∷ []) none);
          last = p ∷ [];
          last_spelled = (a.puts.tells, tt);
          go_on = on;
          whole = whole_more (record_of e (image_in stance new.build)) whole;
          ends = len ∙ g.ends;
          weighs = weighs ∙ g.weighs;
          full = full-append stance (weights_of (ps ++ g.added)) (last_image (ps ++ g.added)) new h Disk (Some e) none tt;
          keeps = λ is. absurd (fault_not_none h Disk (Some e) none is);
          moments = moments_more p a.puts.moments;
          images = λ image left. a.puts.moments.each image (laws.counts_now new.journal.disk (disk.clock old.journal.disk) image a.puts.moments.later left);
        }

  -- entries that tell of no event and no fault
  pub grown_quiet : (es : List Entry) → Quiet es → Grown disk stance opening old (h ++ es) ps
  grown_quiet es quiet = record {
    records = g.records;
    events = g.events ∙ sym (append-nil (tooks h)) ∙ sym (ap (λ (xs : List Event). tooks h ++ xs) quiet.0) ∙ sym (tooks-append h es);
    added = g.added;
    spelled = g.spelled;
    last_records = g.last_records;
    last_events = g.last_events ∙ none_pending h none ∙ sym (pending-append h es none ∙ none_pending es quiet.1);
    last = g.last;
    last_spelled = g.last_spelled;
    go_on = g.go_on;
    whole = g.whole;
    ends = g.ends;
    weighs = g.weighs;
    full = none_full stance (weights_of (ps ++ g.added)) (last_image (ps ++ g.added)) old (h ++ es) (kept_fault-append h es none ∙ quiet.1);
    keeps = λ _. g.keeps none;
    moments = g.moments;
    images = g.images;
  }

memory_disk : Memory ≡ Disk → ⊥
memory_disk e = cc

full_disk : (len add : ℕ) → Full len add ≡ Disk → ⊥
full_disk len add e = cc

same_fault : (f g : TakeFault) → Some f ≡ Some g → f ≡ g
same_fault f g e = cc

pub true_false : true ≡ false → ⊥
true_false e = cc

none_disk : None ≡ Some Disk → ⊥
none_disk e = cc

module _ {D T : Type 0} (disk : DiskView D) (stance : T → Stance) where
  abbrev Known : Kept D T → Kept D T → List Entry → Type 0
  Known opening now h = Facts disk stance opening now h

  -- at the opening
  pub facts_start : DiskLaws disk → (k : Kept D T) → k.stopped ≡ false → has_begun k.build.phase ≡ true → Known k k []
  facts_start laws k running begun = record {
    count = omega arith;
    rose = λ bad. absurd (none_disk bad);
    calm = λ _. refl;
    longer = omega arith;
    counted = let none : length (tooks []) ≡ 0 = refl in omega (arith, none);
    full = (None, tt);
    size = λ w at. tt;
    running = λ _. running;
    shown = λ _. record { begun = begun; setting = refl; unchanged = λ _. refl; stands = λ w at. at };
    grown = λ ps held.
        let has : (image : List ℕ) → disk.may_leave k.journal.disk image → Has (ps ++ []) image = λ image left. subst (λ (xs : List (List ℕ)). Has xs image) (sym (append-nil ps)) (stores_has disk k.journal.disk k.journal.len ps image held.holds left) in
        record {
          records = [];
          events = refl;
          added = [];
          spelled = tt;
          last_records = [];
          last_events = refl;
          last = [];
          last_spelled = tt;
          go_on = λ before meant started at. (tt, tt);
          whole = tt;
          ends = subst (λ (xs : List (List ℕ)). k.journal.len ≡ length (framed xs) + 1) (sym (append-nil ps)) held.holds.ends;
          weighs = subst (λ (xs : List (List ℕ)). k.weights ≡ weights_of xs) (sym (append-nil ps)) held.weighs;
          full = tt;
          keeps = λ _. subst (Keeps disk stance k) (sym (append-nil ps)) held;
          moments = starts disk k.journal.disk (HasFront ps []) (λ image left. (0, has image (laws.only_now k.journal.disk image left)));
          images = λ image left. inl (has image left);
        };
  }

  module _ (opening old : Kept D T) (h : List Entry) (none : kept_fault h ≡ None) (k : Known opening old h) where
    -- entries that tell of no event and no fault
    pub facts_quiet : (es : List Entry) → Quiet es → Known opening old (h ++ es)
    facts_quiet es quiet = record {
      count = k.count;
      rose = λ bad. absurd (none_disk (sym (kept_fault-append h es none ∙ quiet.1) ∙ bad));
      calm = λ _. k.calm (λ bad. none_disk (sym none ∙ bad));
      longer = k.longer;
      counted = k.counted ∙ ap (λ (xs : List Event). opening.records + length xs) (sym (append-nil (tooks h)) ∙ sym (ap (λ (xs : List Event). tooks h ++ xs) quiet.0) ∙ sym (tooks-append h es));
      full = (None, none_full stance old.weights None old (h ++ es) (kept_fault-append h es none ∙ quiet.1));
      size = λ w at. none_sized old.weights (setting_in opening.build) w (h ++ es) (kept_fault-append h es none ∙ quiet.1);
      running = λ _. k.running none;
      shown = λ _. subst (λ (xs : List Event). IsShown stance opening.build xs old.build) (sym (append-nil (tooks h)) ∙ sym (ap (λ (xs : List Event). tooks h ++ xs) quiet.0) ∙ sym (tooks-append h es)) (k.shown none);
      grown = λ ps held. grown_quiet disk stance opening old h none ps (k.grown ps held) es quiet;
    }

    module _ (new : Kept D T) (count : disk.faults old.journal.disk ≤ disk.faults new.journal.disk) where
      -- the count of faults stands, where this take did not fail by the disk
      still : disk.faults new.journal.disk ≡ disk.faults old.journal.disk → disk.faults new.journal.disk ≡ disk.faults opening.journal.disk
      still same = same ∙ k.calm (λ bad. none_disk (sym none ∙ bad))

      -- the setting is that of the opening
      whole_here : IsWhole (setting_in old.build) (image_in stance new.build) → IsWhole (setting_in opening.build) (image_in stance new.build)
      whole_here whole = subst (λ (s : Setting). IsWhole s (image_in stance new.build)) (k.shown none).setting whole

      facts_fault : (f : TakeFault) (event : Option Event) → (f ≡ Disk → Rose (disk.faults old.journal.disk) (disk.faults new.journal.disk)) → ((f ≡ Disk → ⊥) → disk.faults new.journal.disk ≡ disk.faults old.journal.disk)
          → old.journal.len ≤ new.journal.len → new.records ≡ old.records → (before : Option Image) × IsFull stance new.weights before new f event
          → ((w : W.Build) → StandsFor stance old.build w → IsSized new.weights (setting_in old.build) w f event)
          → ((ps : List (List ℕ)) → Keeps disk stance opening ps → Grown disk stance opening new (h ++ Failed f event ∷ []) ps)
          → Known opening new (h ++ Failed f event ∷ [])
      facts_fault f event rose calm longer counted full size grown = record {
        count = omega (arith, k.count, count);
        calm = λ other. still (calm (λ is. other (kept_fault-append h (Failed f event ∷ []) none ∙ ap Some is)));
        longer = omega (arith, k.longer, longer);
        counted = counted ∙ k.counted ∙ ap (λ (xs : List Event). opening.records + length xs) (sym (append-nil (tooks h)) ∙ sym (tooks-append h (Failed f event ∷ [])));
        size = λ w at.
            let shown = k.shown none in
            let here : W.Build = fold (W.after_one (setting_in opening.build)) w (tooks h) in
            sized-append new.weights (setting_in opening.build) w h f event none (subst (λ (s : Setting). IsSized new.weights s here f event) shown.setting (size here (shown.stands w at)));
        rose = λ is. rose_later (disk.faults opening.journal.disk) (disk.faults old.journal.disk) (disk.faults new.journal.disk) k.count (rose (same_fault f Disk (sym (kept_fault-append h (Failed f event ∷ []) none) ∙ is)));
        full = (full.0, full-append stance new.weights full.0 new h f event none full.1);
        running = λ is. absurd (fault_not_none h f event none is);
        shown = λ is. absurd (fault_not_none h f event none is);
        grown = grown;
      }

      facts_more : (e : Event) → disk.faults new.journal.disk ≡ disk.faults old.journal.disk → old.journal.len ≤ new.journal.len → new.records ≡ old.records + 1 → new.stopped ≡ false → has_begun new.build.phase ≡ true → IsInOrder old.build e → IsNext stance old.build e new.build
          → ((payloads : List (List ℕ)) → Keeps disk stance old payloads → Adds disk stance old new e payloads)
          → IsWhole (setting_in old.build) (image_in stance new.build) → Known opening new (h ++ Took e ∷ [])
      facts_more e calm longer one running begun order next adds whole = record {
        count = omega (arith, k.count, count);
        calm = λ _. still calm;
        longer = omega (arith, k.longer, longer);
        counted =
            let more : length (tooks (h ++ Took e ∷ [])) ≡ length (tooks h) + 1 = ap (λ (xs : List Event). length xs) (tooks-append h (Took e ∷ [])) ∙ length-append (tooks h) (e ∷ []) in
            let before : old.records ≡ opening.records + length (tooks h) = k.counted in
            omega (arith, one, more, before);
        size = λ w at. none_sized new.weights (setting_in opening.build) w (h ++ Took e ∷ []) (kept_fault-append h (Took e ∷ []) none);
        rose = λ bad. absurd (none_disk (sym (kept_fault-append h (Took e ∷ []) none) ∙ bad));
        full = (None, none_full stance new.weights None new (h ++ Took e ∷ []) (kept_fault-append h (Took e ∷ []) none));
        running = λ _. running;
        shown = λ _. subst (λ (xs : List Event). IsShown stance opening.build xs new.build) (sym (tooks-append h (Took e ∷ []))) (shown_more stance opening.build old.build new.build (tooks h) e begun (k.shown none) next);
        grown = λ ps held.
            let g = k.grown ps held in
            let a = adds (ps ++ g.added) (g.keeps none) in
            grown_more disk stance opening old h none ps g new e a
            (go_on_more stance opening.build old.build g.records (tooks h) (record_of e (image_in stance new.build)) (on_so_far disk stance opening old h none ps g) g.events (k.shown none) next.accepted order a.image)
            (whole_here whole);
      }

      facts_torn : DiskLaws disk → (e : Event) → new.journal.len ≡ old.journal.len → (new.weights ≡ old.weights) × (new.records ≡ old.records) → Rose (disk.faults old.journal.disk) (disk.faults new.journal.disk) → IsInOrder old.build e → answer_of old.build e ≡ Accepted
          → ((payloads : List (List ℕ)) → Keeps disk stance old payloads → Risks disk stance old new e payloads) → IsWhole (setting_in old.build) (image_in stance new.build)
          → Known opening new (h ++ Failed Disk (Some e) ∷ [])
      facts_torn laws e len same rose order accepted risks whole =
          facts_fault Disk (Some e) (λ _. rose) (λ other. absurd (other refl)) (omega (arith, len)) same.1 (None, tt) (λ w at. tt)
          (λ ps held.
          let g = k.grown ps held in
          let a = risks (ps ++ g.added) (g.keeps none) in
          grown_torn disk stance opening old h none ps g new laws e len same.0 a
          (go_on_more stance opening.build old.build g.records (tooks h) (record_of e (image_in stance new.build)) (on_so_far disk stance opening old h none ps g) g.events (k.shown none) accepted order a.image) (whole_here whole))

      facts_still : (f : TakeFault) (event : Option Event) → at_risk f event ≡ [] → (f ≡ Disk → ⊥) → (before : Option Image) × IsFull stance new.weights before new f event
          → ((w : W.Build) → StandsFor stance old.build w → IsSized new.weights (setting_in old.build) w f event)
          → ((ps : List (List ℕ)) → Keeps disk stance old ps → IsFull stance (weights_of ps) (last_image ps) new f event)
          → new.journal ≡ old.journal → (new.weights ≡ old.weights) × (new.records ≡ old.records) → Known opening new (h ++ Failed f event ∷ [])
      facts_still f event safe calm full size behind same counts =
          facts_fault f event (λ bad. absurd (calm bad)) (λ _. ap (λ j. disk.faults j.disk) same) (omega (arith, ap (λ j. j.len) same)) counts.1 full size
          (λ ps held. let g = k.grown ps held in grown_still disk stance opening old h none ps g new f event safe same counts.0 (behind (ps ++ g.added) (g.keeps none)))

      facts_same : new ≡ old → Known opening new (h ++ [])
      facts_same same = subst (λ (es : List Entry). Known opening new es) (sym (append-nil h)) (subst (λ (n : Kept D T). Known opening n h) (sym same) k)

      pub facts_one : DiskLaws disk → (e : Event) (r : Result Taken TakeFault) → old.stopped ≡ false → IsInOrder old.build e
          → TakeAnswers stance old new e r → TakeLeaves stance old new e r → TellsSize stance old new e r → LeavesWhole stance (setting_in old.build) new.build r → OnOk r (setting_in new.build ≡ setting_in old.build)
          → OnOk r ((w : W.Build) → StandsFor stance old.build w → StandsFor stance new.build (W.after_one (setting_in old.build) w e))
          → ((payloads : List (List ℕ)) → Keeps disk stance old payloads → TakeKeeps disk stance old new e payloads r)
          → (IsErrOf r Disk → Rose (disk.faults old.journal.disk) (disk.faults new.journal.disk)) → (¬ (IsErrOf r Disk) → disk.faults new.journal.disk ≡ disk.faults old.journal.disk)
          → Known opening new (h ++ noted e r)
      facts_one laws e (Ok Accepted) run order answers leaves size whole setting stands keeps cause calm =
          facts_more e (calm (λ is. cc)) (omega (arith, leaves.2.len)) leaves.2.records leaves.0 leaves.1 order (record { accepted = sym answers.1; setting = setting; stands = stands }) keeps whole
      facts_one laws e (Ok NotOpen) run order answers leaves size whole setting stands keeps cause calm = facts_same leaves
      facts_one laws e (Ok (WrongPlace kept)) run order answers leaves size whole setting stands keeps cause calm = facts_same leaves
      facts_one laws e (Ok Finished) run order answers leaves size whole setting stands keeps cause calm = facts_same leaves
      facts_one laws e (Err Memory) run order answers leaves size whole setting stands keeps cause calm = facts_still Memory None refl memory_disk (None, tt) (λ w at. tt) (λ ps keeps. tt) leaves.1 leaves.2
      facts_one laws e (Err Disk) run order answers leaves size whole setting stands keeps cause calm = facts_torn laws e leaves.1 leaves.2 (cause refl) order answers.1 keeps whole
      facts_one laws e (Err (Full len add)) run order answers leaves size whole setting stands keeps cause calm =
          let len_is : len ≡ new.journal.len = answers.2 ∙ ap (λ j. j.len) (sym leaves.1) in
          let here = image_in stance new.build in
          facts_still (Full len add) (Some e) refl (full_disk len add)
          (image_before stance old.build, (len_is, answers.3, subst (λ (w : Weights). DueAdds w (image_before stance old.build) e here add) (sym leaves.2.0) answers.4))
          (λ w at. due_adds old.weights new.weights (image_before stance old.build) (world_before (setting_in old.build) w) here (world_image (setting_in old.build) (W.after_one (setting_in old.build) w e)) e add (sym leaves.2.0) (size.1 w at) (size.0 w at) answers.4)
          (λ ps kept. (len_is, answers.3, due_adds old.weights (weights_of ps) (image_before stance old.build) (last_image ps) here here e add kept.weighs (stands_last stance old.build old.script old.agents ps kept.stands) refl answers.4))
          leaves.1 leaves.2
      facts_one laws e (Err Stopped) run order answers leaves size whole setting stands keeps cause calm = absurd (true_false (sym answers ∙ run))

    -- want of memory is noted
    pub facts_wanting : Known opening old (h ++ Failed Memory None ∷ [])
    facts_wanting = facts_still old (omega arith) Memory None refl memory_disk (None, tt) (λ w at. tt) (λ ps keeps. tt) refl (refl, refl)
