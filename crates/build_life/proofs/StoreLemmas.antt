-- What is known of a store behind a history, said of the events: where no fault is kept the build goes on from all that were taken; and else
-- it broke off behind them.
use Rattle.std.proofs.Common.{◌≡◌, ◌⊎◌, ◌∙◌, ◌+◌, inl, inr, ℕ, zero, suc, true, false, List, [], ◌∷◌, ◌++◌, length, take, Option, Some, None, refl, sym, ap, subst, append_assoc, append-nil}
use Rattle.std.proofs.lemmas.List.{map-append, take-map}
use Rattle.std.proofs.Math.Seq.{take-nil}
use Rattle.std.specs.Prelude.{Bool, if◌then◌else◌, fold, IfSome, IsSome, IsSomeAnd}
use Rattle.std.proofs.lemmas.List.Sums.{fold-append}
use Rattle.jp_disk.specs.Runs.{AtEachMoment}
use Rattle.jp_disk.proofs.MomentLemmas.{runs_on, at_each_weaker}
use Rattle.journal_core.specs.Records.{Has, Walked, framed}
use Rattle.journal_core.proofs.StepLemmas.{stores_has}
use Rattle.build_store.specs.Lower.record_form.declared.record.EventRecord.{EventRecord}
use Rattle.journal_core.specs.declared.faults.TakeFault.{TakeFault}
use Rattle.journal_core.specs.declared.faults.TakeFault.TheVariants.{Memory, Disk, Full, Stopped}
use Rattle.model_run.specs.declared.event.Event.{Event}
use Rattle.model_run.specs.declared.event.Event.TheVariants as event
use Rattle.model_run.specs.State.{Setting}
use Rattle.model_run.specs.World as W
use Rattle.image_form.specs.declared.image.Image.{Image}
use Rattle.settle_laws.specs.Stances.{Stance}
use Rattle.build_store.specs.Lower.build_core.Builds.{StandsFor, setting_in}
use Rattle.build_store.specs.Lower.build_images.Images.{world_image}
use Rattle.build_store.specs.Lower.store_laws.Store.{AllDue, FirstStarts, Follows, Starts, Told, events_of, last_image}
use Rattle.build_store.proofs.Lower.store_laws.Payloads.{image_behind_more, told_append}
use Rattle.build_store.proofs.Lower.store_laws.Stories.{world-more}
use Rattle.build_store.specs.Lower.durable_build.Standing.{Kept, world_before}
use Rattle.build_store.specs.Lower.delta_records.declared.weights.Weights.{Weights}
use Rattle.build_store.specs.Lower.durable_build.Kinds.{weights_of}
use Rattle.build_store.specs.Lower.durable_build.Taking.{DueAdds}
use Rattle.build_store.proofs.Lower.durable_build.OpenLemmas.{begun_all}
use Rattle.build_store.proofs.Lower.durable_build.Sizes.{due_adds}
use Rattle.build_store.specs.Saved.{IsTold, IsFront, Saves, Stores, Survives}
use Rattle.build_store.specs.Lives.{IsFull as IsFullOf, IsOf, Lasts, Fails, MayRisk, TellsStore, image_after}
use Rattle.member_turns.specs.Lower.locked_build.declared.ask.Entry.{Entry}
use Rattle.member_turns.specs.Lower.locked_build.declared.ask.Entry.TheVariants.{Took, Claimed, Line, Failed}
use Rattle.member_turns.specs.Lower.locked_build.Facts.{Facts, Grown, HasFront, IsFull, IsFullAt, IsMeant, IsSized, IsSizedAt}
use Rattle.member_turns.specs.Lower.locked_build.Histories.{tooks, kept_fault, pending, at_risk}
use Rattle.member_turns.proofs.Lower.locked_build.HistoryLaws.{tooks-append, no_fault, none_pending, pending-append}
use Rattle.build_life.proofs.WalkLemmas.{IsFaultOf, ShowsAll, shows_shown}
use Rattle.jp_disk.specs.View.{DiskView}

-- records, their events and payloads
pub events-append : (rs qs : List EventRecord) → events_of (rs ++ qs) ≡ events_of rs ++ events_of qs
events-append rs qs = map-append (λ (r : EventRecord). r.event) rs qs

events-take : (k : ℕ) (rs : List EventRecord) → events_of (take k rs) ≡ take k (events_of rs)
events-take k rs = sym (take-map (λ (r : EventRecord). r.event) k rs)

pub told_take : (k : ℕ) (before : Option Image) (rs : List EventRecord) (ps : List (List ℕ)) → Told before rs ps → Told before (take k rs) (take k ps)
told_take zero before rs ps all = tt
told_take (suc k) before [] [] all = tt
told_take (suc k) before [] (p ∷ ps) all = absurd all
told_take (suc k) before (r ∷ rs) [] all = absurd all
told_take (suc k) before (r ∷ rs) (p ∷ ps) all = (all.0, told_take k (Some r.image) rs ps all.1)

module _ (s : Setting) where
  pub follows_append : (b : W.Build) (rs qs : List EventRecord) → Follows world_image s b rs → Follows world_image s (fold (W.after_one s) b (events_of rs)) qs → Follows world_image s b (rs ++ qs)
  follows_append b [] qs one two = two
  follows_append b (r ∷ rs) qs one two = (one.0, one.1, follows_append (W.after_one s b r.event) rs qs one.2 two)

  follows_take : (k : ℕ) (b : W.Build) (rs : List EventRecord) → Follows world_image s b rs → Follows world_image s b (take k rs)
  follows_take zero b rs all = tt
  follows_take (suc k) b [] all = tt
  follows_take (suc k) b (r ∷ rs) all = (all.0, all.1, follows_take k (W.after_one s b r.event) rs all.2)

  pub due_append : (b : W.Build) (rs qs : List EventRecord) → AllDue s b rs → AllDue s (fold (W.after_one s) b (events_of rs)) qs → AllDue s b (rs ++ qs)
  due_append b [] qs one two = two
  due_append b (r ∷ rs) qs one two = (one.0, due_append (W.after_one s b r.event) rs qs one.1 two)

  due_take : (k : ℕ) (b : W.Build) (rs : List EventRecord) → AllDue s b rs → AllDue s b (take k rs)
  due_take zero b rs all = tt
  due_take (suc k) b [] all = tt
  due_take (suc k) b (r ∷ rs) all = (all.0, due_take k (W.after_one s b r.event) rs all.1)

  starts_append : (rs qs : List EventRecord) → (W.world_in s (events_of rs)).started ≡ true → FirstStarts s rs → FirstStarts s (rs ++ qs)
  starts_append [] qs begun starts = let bad : false ≡ true = begun in absurd (cc)
  starts_append (r ∷ rs) qs begun starts = starts

  starts_meant : (e : Event) → Starts s e → IsMeant s
  starts_meant (event.Start script agents) mean = (script, agents, mean)
  starts_meant (event.Granted request executor) mean = absurd mean
  starts_meant (event.Output task stream place bytes) mean = absurd mean
  starts_meant (event.Exited task code) mean = absurd mean
  starts_meant (event.Lost task why) mean = absurd mean
  starts_meant (event.Decided request proceed name) mean = absurd mean

  first_meant : (rs : List EventRecord) → (W.world_in s (events_of rs)).started ≡ true → FirstStarts s rs → IsMeant s
  first_meant [] begun starts = let bad : false ≡ true = begun in absurd (cc)
  first_meant (r ∷ rs) begun starts = starts_meant r.event starts

pub no_records : (rs : List EventRecord) → events_of rs ≡ [] → rs ≡ []
no_records [] is = refl
no_records (r ∷ rs) is = absurd (cc)

pub no_payloads : (before : Option Image) (rs : List EventRecord) (ps : List (List ℕ)) → rs ≡ [] → Told before rs ps → ps ≡ []
no_payloads before [] [] none all = refl
no_payloads before [] (p ∷ ps) none all = absurd all
no_payloads before (r ∷ rs) ps none all = absurd (cc)

-- fronts of events, and of them and one more
front_all : (xs : List Event) (k : ℕ) → (rest : List Event) × (xs ≡ take k xs ++ rest)
front_all xs zero = (xs, refl)
front_all [] (suc k) = ([], refl)
front_all (x ∷ xs) (suc k) = let f = front_all xs k in (f.0, ap (λ (es : List Event). x ∷ es) f.1)

front_or_more : (xs : List Event) (e : Event) (k : ℕ) → ((rest : List Event) × (xs ≡ take k (xs ++ e ∷ []) ++ rest)) ⊎ (take k (xs ++ e ∷ []) ≡ xs ++ e ∷ [])
front_or_more xs e zero = inl (xs, refl)
front_or_more [] e (suc k) = inr (ap (λ (es : List Event). e ∷ es) (take-nil k))
front_or_more (x ∷ xs) e (suc k) = on (front_or_more xs e k)
  where
    on : ((rest : List Event) × (xs ≡ take k (xs ++ e ∷ []) ++ rest)) ⊎ (take k (xs ++ e ∷ []) ≡ xs ++ e ∷ []) → ((rest : List Event) × (x ∷ xs ≡ x ∷ take k (xs ++ e ∷ []) ++ rest)) ⊎ (x ∷ take k (xs ++ e ∷ []) ≡ x ∷ xs ++ e ∷ [])
    on (inl f) = inl (f.0, ap (λ (es : List Event). x ∷ es) f.1)
    on (inr f) = inr (ap (λ (es : List Event). x ∷ es) f)

-- the event that the disk may have though its take failed
abbrev pub risked_of : TakeFault → Option Event → Option Event
risked_of Disk event = event
risked_of Memory event = None
risked_of (Full len add) event = None
risked_of Stopped event = None

may_risk : (fault : TakeFault) (event : Option Event) → MayRisk fault event (risked_of fault event)
may_risk Disk event = refl
may_risk Memory event = refl
may_risk (Full len add) event = refl
may_risk Stopped event = refl

-- a list of one event or none, as an option
abbrev one_or_none : List Event → Option Event → Type 0
one_or_none es None = es ≡ []
one_or_none es (Some e) = es ≡ e ∷ []

risk_is : (fault : TakeFault) (event : Option Event) → one_or_none (at_risk fault event) (risked_of fault event)
risk_is Disk None = refl
risk_is Disk (Some e) = refl
risk_is Memory event = refl
risk_is (Full len add) event = refl
risk_is Stopped event = refl

module _ {D T : Type 0} (stance : T → Stance) (w : Weights) (before : Option Image) (now : Kept D T) where
  full_of : (front : List Entry) (f : TakeFault) (event : Option Event) → kept_fault front ≡ None → IsFullAt stance w before now (front ++ Failed f event ∷ []) → IsFull stance w before now f event
  full_of [] f event none is = is
  full_of (Took e ∷ h) f event none is = full_of h f event none is
  full_of (Claimed executor task keep_out kept_log kept_out ∷ h) f event none is = full_of h f event none is
  full_of (Line line ∷ h) f event none is = full_of h f event none is
  full_of (Failed fault given ∷ h) f event none is = absurd (no_fault fault none)

module _ (x : Weights) (s : Setting) where
  sized_of : (w : W.Build) (front : List Entry) (f : TakeFault) (event : Option Event) → kept_fault front ≡ None → IsSizedAt x s w (front ++ Failed f event ∷ []) → IsSized x s (fold (W.after_one s) w (tooks front)) f event
  sized_of w [] f event none is = is
  sized_of w (Took e ∷ h) f event none is = sized_of (W.after_one s w e) h f event none is
  sized_of w (Claimed executor task keep_out kept_log kept_out ∷ h) f event none is = sized_of w h f event none is
  sized_of w (Line line ∷ h) f event none is = sized_of w h f event none is
  sized_of w (Failed fault given ∷ h) f event none is = absurd (no_fault fault none)

told_nothing : (w : Weights) (o : Option (List ℕ)) → IfSome o (TellsStore w Memory)
told_nothing w None = tt
told_nothing w (Some file) = tt

-- Where memory was wanted nothing more was written.
module _ {D T : Type 0} (disk : DiskView D) (stance : T → Stance)
    (setting : Setting) (entry : Option (List ℕ)) (origin : D) (before es : List Event) (kept : Kept D T) (lasts : Lasts disk stance setting entry origin before es kept) where
  wants_so : Fails disk stance setting entry origin before es Memory kept
  wants_so = record {
    refused = None;
    is_next = tt;
    full = tt;
    sized = λ known. told_nothing kept.weights (disk.reads kept.journal.disk);
    risked = None;
    may_risk = refl;
    moments = lasts.moments;
    images = λ known image left. inl (record {
      payloads = (lasts.saves known).payloads;
      has = stores_has disk kept.journal.disk kept.journal.len (lasts.saves known).payloads image (lasts.saves known).keeps.holds left;
      told = subst (λ (s : Setting). IsTold s es (lasts.saves known).payloads) lasts.goes.same (lasts.saves known).told;
    });
  }

  pub wants : (f : Fails disk stance setting entry origin before es Memory kept) × (f.refused ≡ None)
  unfolding wants_so
  wants = (wants_so, refl)

module _ {D T : Type 0} (disk : DiskView D) (stance : T → Stance)
    (setting : Setting) (entry : Option (List ℕ)) (origin : D) (before es : List Event) (k0 k1 : Kept D T) (h : List Entry)
    (lasts : Lasts disk stance setting entry origin before es k0) (facts : Facts disk stance k0 k1 h) where
  -- the events of before the life, and those of it
  abbrev now : List Event
  now = es ++ tooks h

  abbrev opened : ShowsAll stance setting lasts.goes.proper k0.build es
  opened = record { same = lasts.goes.same; begun = lasts.goes.begun; stands = lasts.goes.stands }

  goes_on : (more : List Event) × (now ≡ before ++ more)
  goes_on = let g = lasts.goes_on in (g.0 ++ tooks h, ap (λ (xs : List Event). xs ++ tooks h) g.1 ∙ append_assoc before g.0 (tooks h))

  -- where the disk told its bytes
  module _ (known : IsSome entry) where
    abbrev saves : Saves disk stance k0 es
    saves = lasts.saves known

    abbrev payloads : List (List ℕ)
    payloads = saves.payloads

    abbrev told : IsTold setting es payloads
    told = subst (λ (s : Setting). IsTold s es payloads) lasts.goes.same saves.told

    abbrev grown : Grown disk stance k0 k1 h payloads
    grown = facts.grown payloads saves.keeps

    begun_told : (W.world_in setting (events_of told.records)).started ≡ true
    begun_told = subst (λ (xs : List Event). (W.world_in setting xs).started ≡ true) (sym told.are) lasts.goes.begun

    meant : IsMeant setting
    meant = first_meant setting told.records begun_told told.story.starts

    -- all records behind those of the opening
    abbrev all_records : List EventRecord
    all_records = grown.records ++ grown.last_records

    abbrev all_payloads : List (List ℕ)
    all_payloads = grown.added ++ grown.last

    all_spelled : Told (last_image payloads) all_records all_payloads
    all_spelled = told_append (last_image payloads) grown.records grown.last_records grown.added grown.last grown.spelled
        (subst (λ (o : Option Image). Told o grown.last_records grown.last) (image_behind_more None payloads grown.added) grown.last_spelled)

    go_on : Follows world_image setting (W.world_in setting es) all_records × AllDue setting (W.world_in setting es) all_records
    go_on = subst (λ (s : Setting). IsMeant s → (W.world_in s es).started ≡ true → StandsFor stance k0.build (W.world_in s es) → Follows world_image s (W.world_in s es) all_records × AllDue s (W.world_in s es) all_records) lasts.goes.same
        (λ m started at. grown.go_on es m started at) meant lasts.goes.begun lasts.goes.stands

    all_events : events_of all_records ≡ tooks h ++ pending h
    all_events = events-append grown.records grown.last_records ∙ ap (λ (xs : List Event). xs ++ events_of grown.last_records) grown.events ∙ ap (λ (xs : List Event). tooks h ++ xs) grown.last_events

    -- a front of them, told behind the others
    told_behind : (rs : List EventRecord) (qs : List (List ℕ)) → Told (last_image payloads) rs qs → Follows world_image setting (W.world_in setting es) rs → AllDue setting (W.world_in setting es) rs → IsTold setting (es ++ events_of rs) (payloads ++ qs)
    told_behind rs qs spelled follows due = record {
      records = told.records ++ rs;
      spelled = told_append None told.records rs payloads qs told.spelled spelled;
      story = record {
        starts = starts_append setting told.records rs begun_told told.story.starts;
        follows = follows_append setting W.unbegun told.records rs told.story.follows (subst (λ (xs : List Event). Follows world_image setting (W.world_in setting xs) rs) (sym told.are) follows);
      };
      due = due_append setting W.unbegun told.records rs told.due (subst (λ (xs : List Event). AllDue setting (W.world_in setting xs) rs) (sym told.are) due);
      are = events-append told.records rs ∙ ap (λ (xs : List Event). xs ++ events_of rs) told.are;
    }

    stores_behind : (rs : List EventRecord) (qs : List (List ℕ)) (image : List ℕ) → Told (last_image payloads) rs qs → Follows world_image setting (W.world_in setting es) rs → AllDue setting (W.world_in setting es) rs → Has (payloads ++ qs) image → Stores setting (es ++ events_of rs) image
    stores_behind rs qs image spelled follows due has = record { payloads = payloads ++ qs; has = has; told = told_behind rs qs spelled follows due }

    front_follows : (k : ℕ) → Follows world_image setting (W.world_in setting es) (take k all_records)
    front_follows k = follows_take setting k (W.world_in setting es) all_records go_on.0

    taken_follows : Follows world_image setting (W.world_in setting es) grown.records
    taken_follows = front_of_follows (W.world_in setting es) grown.records go_on.0
      where
        front_of_follows : (b : W.Build) (rs : List EventRecord) → Follows world_image setting b (rs ++ grown.last_records) → Follows world_image setting b rs
        front_of_follows b [] all = tt
        front_of_follows b (r ∷ rs) all = (all.0, all.1, front_of_follows (W.after_one setting b r.event) rs all.2)

    taken_due : AllDue setting (W.world_in setting es) grown.records
    taken_due = front_of_due (W.world_in setting es) grown.records go_on.1
      where
        front_of_due : (b : W.Build) (rs : List EventRecord) → AllDue setting b (rs ++ grown.last_records) → AllDue setting b rs
        front_of_due b [] all = tt
        front_of_due b (r ∷ rs) all = (all.0, front_of_due (W.after_one setting b r.event) rs all.1)

    taken_told : IsTold setting now (payloads ++ grown.added)
    taken_told = subst (λ (xs : List Event). IsTold setting (es ++ xs) (payloads ++ grown.added)) grown.events (told_behind grown.records grown.added grown.spelled taken_follows taken_due)

    taken_stores : (image : List ℕ) → Has (payloads ++ grown.added) image → Stores setting now image
    taken_stores image has = record { payloads = payloads ++ grown.added; has = has; told = taken_told }

    -- which front of the events a front of the records tells
    front_of : (risked : Option Event) → one_or_none (pending h) risked → (k : ℕ) → IsFront before now risked (es ++ events_of (take k all_records))
    front_of None none k =
        let xs : List Event = events_of (take k all_records) in
        let is : xs ≡ take k (tooks h) = events-take k all_records ∙ ap (take k) (all_events ∙ ap (λ (ps : List Event). tooks h ++ ps) none ∙ append-nil (tooks h)) in
        let f = front_all (tooks h) k in
        record {
          begins = (lasts.goes_on.0 ++ xs, ap (λ (ys : List Event). ys ++ xs) lasts.goes_on.1 ∙ append_assoc before lasts.goes_on.0 xs);
          within = inl (f.0, ap (λ (ys : List Event). es ++ ys) (f.1 ∙ ap (λ (ys : List Event). ys ++ f.0) (sym is)) ∙ sym (append_assoc es xs f.0));
        }
    front_of (Some e) one k =
        let xs : List Event = events_of (take k all_records) in
        let is : xs ≡ take k (tooks h ++ e ∷ []) = events-take k all_records ∙ ap (take k) (all_events ∙ ap (λ (ps : List Event). tooks h ++ ps) one) in
        record { begins = (lasts.goes_on.0 ++ xs, ap (λ (ys : List Event). ys ++ xs) lasts.goes_on.1 ∙ append_assoc before lasts.goes_on.0 xs); within = by is (front_or_more (tooks h) e k) }
      where
        by : events_of (take k all_records) ≡ take k (tooks h ++ e ∷ []) → ((rest : List Event) × (tooks h ≡ take k (tooks h ++ e ∷ []) ++ rest)) ⊎ (take k (tooks h ++ e ∷ []) ≡ tooks h ++ e ∷ [])
            → ((rest : List Event) × (now ≡ (es ++ events_of (take k all_records)) ++ rest)) ⊎ (es ++ events_of (take k all_records) ≡ now ++ e ∷ [])
        by is (inl f) = inl (f.0, ap (λ (ys : List Event). es ++ ys) (f.1 ∙ ap (λ (ys : List Event). ys ++ f.0) (sym is)) ∙ sym (append_assoc es (events_of (take k all_records)) f.0))
        by is (inr f) = inr (ap (λ (ys : List Event). es ++ ys) (is ∙ f) ∙ sym (append_assoc es (tooks h) (e ∷ [])))

    -- what a crash leaves of the life
    survives : (risked : Option Event) → one_or_none (pending h) risked → (image : List ℕ) → HasFront payloads all_payloads image → Survives setting before now risked image
    survives risked is image front =
        let k : ℕ = front.0 in
        record {
          kept = es ++ events_of (take k all_records);
          front = front_of risked is k;
          stores = stores_behind (take k all_records) (take k all_payloads) image (told_take k (last_image payloads) all_records all_payloads all_spelled) (front_follows k) (due_take setting k (W.world_in setting es) all_records go_on.1) front.1;
        }

    -- what survives of the events from before the life survives of all
    survives_still : (risked : Option Event) (image : List ℕ) → Survives setting before es None image → Survives setting before now risked image
    survives_still risked image s = record { kept = s.kept; front = record { begins = s.front.begins; within = by s.front.within }; stores = s.stores }
      where
        by : ((rest : List Event) × (es ≡ s.kept ++ rest)) ⊎ IsSomeAnd {T = Event} None (λ x. s.kept ≡ es ++ x ∷ []) → ((rest : List Event) × (now ≡ s.kept ++ rest)) ⊎ IsSomeAnd risked (λ x. s.kept ≡ now ++ x ∷ [])
        by (inl r) = inl (r.0 ++ tooks h, ap (λ (xs : List Event). xs ++ tooks h) r.1 ∙ append_assoc s.kept r.0 (tooks h))
        by (inr none) = absurd none

    moments_of : (risked : Option Event) → one_or_none (pending h) risked → AtEachMoment disk origin k1.journal.disk (Survives setting before now risked)
    moments_of risked is =
        runs_on disk origin k0.journal.disk k1.journal.disk (Survives setting before now risked)
        (at_each_weaker disk origin k0.journal.disk (Survives setting before es None) (Survives setting before now risked) (survives_still risked) (lasts.moments known))
        (at_each_weaker disk k0.journal.disk k1.journal.disk (HasFront payloads all_payloads) (Survives setting before now risked) (survives risked is) grown.moments)

    images_of : (risked : Option Event) → one_or_none (pending h) risked → (image : List ℕ) → disk.may_leave k1.journal.disk image → Stores setting now image ⊎ IsSomeAnd risked (λ e. Stores setting (now ++ e ∷ []) image)
    images_of risked is image left = by risked is (grown.images image left)
      where
        all_have : Has (payloads ++ grown.added ++ grown.last) image → Stores setting (es ++ (tooks h ++ pending h)) image
        all_have has = subst (λ (xs : List Event). Stores setting (es ++ xs) image) all_events
            (stores_behind all_records all_payloads image all_spelled go_on.0 go_on.1 (subst (λ (qs : List (List ℕ)). Has qs image) (append_assoc payloads grown.added grown.last) has))

        by : (r : Option Event) → one_or_none (pending h) r → Has (payloads ++ grown.added) image ⊎ Has (payloads ++ grown.added ++ grown.last) image → Stores setting now image ⊎ IsSomeAnd r (λ e. Stores setting (now ++ e ∷ []) image)
        by r one (inl has) = inl (taken_stores image has)
        by None one (inr has) = inl (subst (λ (xs : List Event). Stores setting (es ++ xs) image) (ap (λ (ps : List Event). tooks h ++ ps) one ∙ append-nil (tooks h)) (all_have has))
        by (Some e) one (inr has) = inr (subst (λ (xs : List Event). Stores setting xs image) (ap (λ (ps : List Event). es ++ (tooks h ++ ps)) one ∙ sym (append_assoc es (tooks h) (e ∷ []))) (all_have has))

  -- Where no fault is kept the life goes on.
  pub lasts_on : kept_fault h ≡ None → Lasts disk stance setting entry origin before now k1
  lasts_on none =
      let all = shows_shown stance setting lasts.goes.proper k0.build k1.build es (tooks h) opened (facts.shown none) in
      record {
        goes = record { same = all.same; proper = lasts.goes.proper; begun = all.begun; running = facts.running none; stands = all.stands };
        goes_on = goes_on;
        saves = λ known. record {
          payloads = payloads known ++ (grown known).added;
          keeps = (grown known).keeps none;
          told = subst (λ (s : Setting). IsTold s now (payloads known ++ (grown known).added)) (sym all.same) (taken_told known);
        };
        moments = λ known. moments_of known None (none_pending h none);
      }

  module _ (front : List Entry) (fault : TakeFault) (event : Option Event) (is : h ≡ front ++ Failed fault event ∷ []) (none : kept_fault front ≡ None) where
    same_tooks : tooks h ≡ tooks front
    same_tooks = ap tooks is ∙ tooks-append front (Failed fault event ∷ []) ∙ append-nil (tooks front)

    risks : one_or_none (pending h) (risked_of fault event)
    risks = subst (λ (ps : List Event). one_or_none ps (risked_of fault event)) (sym (ap pending is ∙ pending-append front (Failed fault event ∷ []) none)) (risk_is fault event)

    is_of : (f : TakeFault) (ev : Option Event) → IsFaultOf setting now f ev → IsOf setting now f ev
    is_of Memory ev of = tt
    is_of Disk None of = of
    is_of Disk (Some e) of = of.0
    is_of (Full len add) None of = of
    is_of (Full len add) (Some e) of = of.0
    is_of Stopped ev of = absurd of

    sizes : (f : TakeFault) (ev : Option Event) → IsFaultOf setting now f ev → (before_image : Option Image) → IsFull stance k1.weights before_image k1 f ev
        → ((w : W.Build) → StandsFor stance k0.build w → IsSized k1.weights (setting_in k0.build) (fold (W.after_one (setting_in k0.build)) w (tooks front)) f ev)
        → IfSome ev (λ e. IsFullOf k1.weights (Some (image_after setting now)) e (image_after setting (now ++ e ∷ [])) k1.journal.len f)
    sizes f None of behind_image full size = tt
    sizes Memory (Some e) of behind_image full size = tt
    sizes Disk (Some e) of behind_image full size = tt
    sizes (Full len add) (Some e) of behind_image full size =
        let behind : W.Build = fold (W.after_one setting) (W.world_in setting es) (tooks front) in
        let at : DueAdds k1.weights (world_before setting behind) e (world_image setting (W.after_one setting behind e)) add =
        subst (λ (s : Setting). StandsFor stance k0.build (W.world_in s es) → let w : W.Build = fold (W.after_one s) (W.world_in s es) (tooks front) in DueAdds k1.weights (world_before s w) e (world_image s (W.after_one s w e)) add) lasts.goes.same
        (λ at. size (W.world_in (setting_in k0.build) es) at) lasts.goes.stands in
        let here : fold (W.after_one setting) (W.world_in setting es) (tooks front) ≡ W.world_in setting now = sym (fold-append (W.after_one setting) W.unbegun es (tooks front)) ∙ ap (λ (xs : List Event). W.world_in setting (es ++ xs)) (sym same_tooks) in
        let world : W.Build = W.world_in setting now in
        let at_now : DueAdds k1.weights (world_before setting world) e (world_image setting (W.after_one setting world e)) add = subst (λ (w : W.Build). DueAdds k1.weights (world_before setting w) e (world_image setting (W.after_one setting w e)) add) here at in
        let before_is : world_before setting world ≡ Some (image_after setting now) = ap (λ (b : Bool). if b then Some (image_after setting now) else None) (begun_all setting es (tooks h) lasts.goes.begun) in
        let after_is : world_image setting (W.after_one setting world e) ≡ image_after setting (now ++ e ∷ []) = ap (world_image setting) (sym (world-more setting W.unbegun now e)) in
        (full.0, full.1, due_adds k1.weights k1.weights (world_before setting world) (Some (image_after setting now)) (world_image setting (W.after_one setting world e)) (image_after setting (now ++ e ∷ [])) e add refl before_is after_is at_now)
    sizes Stopped (Some e) of behind_image full size = absurd of

    -- the journal ends behind the records of the events that were taken, and they are what is weighed
    length_told : (known : IsSome entry) (f : TakeFault) (ev : Option Event) → one_or_none (pending h) (risked_of f ev) → (before_image : Option Image) → IsFull stance k1.weights before_image k1 f ev → (file : List ℕ) → disk.may_leave k1.journal.disk file
        → TellsStore k1.weights f file
    length_told known Memory ev one behind_image full file left = tt
    length_told known Disk ev one behind_image full file left = tt
    length_told known Stopped ev one behind_image full file left = tt
    length_told known (Full len add) None one behind_image full file left = absurd full
    length_told known (Full len add) (Some e) one behind_image full file left =
        let has = only ((grown known).images file left) in (
          full.0 ∙ (grown known).ends ∙ ap (λ (r : Walked). length (framed r.payloads) + 1) (sym has),
          (grown known).weighs ∙ ap (λ (r : Walked). weights_of r.payloads) (sym has),
        )
      where
        no_last : (grown known).last ≡ []
        no_last = no_payloads (last_image (payloads known ++ (grown known).added)) (grown known).last_records (grown known).last (no_records (grown known).last_records ((grown known).last_events ∙ one)) (grown known).last_spelled

        only : Has (payloads known ++ (grown known).added) file ⊎ Has (payloads known ++ (grown known).added ++ (grown known).last) file → Has (payloads known ++ (grown known).added) file
        only (inl has) = has
        only (inr has) = subst (λ (ps : List (List ℕ)). Has ps file) (ap (λ (ps : List (List ℕ)). payloads known ++ (grown known).added ++ ps) no_last ∙ append-nil (payloads known ++ (grown known).added)) has

    told_length : (o : Option (List ℕ)) (f : TakeFault) → IfSome o (disk.may_leave k1.journal.disk) → ((file : List ℕ) → disk.may_leave k1.journal.disk file → TellsStore k1.weights f file) → IfSome o (TellsStore k1.weights f)
    told_length None f left all = tt
    told_length (Some file) f left all = all file left

    -- Where a fault stopped it, it broke off behind the events that were taken.
    fails_so : IfSome (disk.reads k1.journal.disk) (disk.may_leave k1.journal.disk) → IsFaultOf setting now fault event → Fails disk stance setting entry origin before now fault k1
    fails_so told_image of =
        let behind_image : Option Image = facts.full.0 in
        let full : IsFull stance k1.weights behind_image k1 fault event = full_of stance k1.weights behind_image k1 front fault event none (subst (IsFullAt stance k1.weights behind_image k1) is facts.full.1) in
        record {
          refused = event;
          is_next = is_of fault event of;
          full = sizes fault event of behind_image full (λ w at. sized_of k1.weights (setting_in k0.build) w front fault event none (subst (IsSizedAt k1.weights (setting_in k0.build) w) is (facts.size w at)));
          sized = λ known. told_length (disk.reads k1.journal.disk) fault told_image (length_told known fault event risks behind_image full);
          risked = risked_of fault event;
          may_risk = may_risk fault event;
          moments = λ known. moments_of known (risked_of fault event) risks;
          images = λ known. images_of known (risked_of fault event) risks;
        }

    pub fails_on : IfSome (disk.reads k1.journal.disk) (disk.may_leave k1.journal.disk) → IsFaultOf setting now fault event → (f : Fails disk stance setting entry origin before now fault k1) × (f.refused ≡ event)
    unfolding fails_so
    fails_on told_image of = (fails_so told_image of, refl)

  -- Where memory was wanted and no fault is kept, nothing more was written.
  pub wants_on : kept_fault h ≡ None → (f : Fails disk stance setting entry origin before now Memory k1) × (f.refused ≡ None)
  wants_on none = wants disk stance setting entry origin before now k1 (lasts_on none)
