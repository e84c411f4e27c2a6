-- What is known of a store over an opening and the history behind it, as of one history.
use Rattle.std.proofs.Common.{◌≡◌, ◌⊎◌, ◌∙◌, ◌≤◌, ◌+◌, inl, inr, ℕ, zero, suc, true, List, [], ◌∷◌, ◌++◌, length, take, Option, Some, None, Result, Ok, Err, refl, sym, ap, subst, append_assoc, append-nil, arith, length-append}
use Rattle.std.specs.Prelude.{IfOk, fold}
use Rattle.std.proofs.lemmas.List.Sums.{fold-append}
use Rattle.std.proofs.Math.Logic.{∥∥₁_map}
use Rattle.device_faults.specs.Faults.{Rose}
use Rattle.jp_disk.specs.Runs.{AtEachMoment}
use Rattle.jp_disk.proofs.MomentLemmas.{runs_on, at_each_weaker}
use Rattle.journal_core.specs.Records.{Has, framed}
use Rattle.build_store.specs.Lower.record_form.declared.record.EventRecord.{EventRecord}
use Rattle.journal_core.specs.declared.faults.TakeFault.{TakeFault}
use Rattle.journal_core.specs.declared.faults.TakeFault.TheVariants.{Disk}
use Rattle.agent_worker.specs.declared.member.Member.{Member}
use Rattle.model_run.specs.declared.event.Event.{Event}
use Rattle.model_run.specs.State.{Setting}
use Rattle.model_run.specs.World as W
use Rattle.program_lock.specs.declared.program.Memory.{Memory as NoMemory}
use Rattle.image_form.specs.declared.image.Image.{Image}
use Rattle.settle_laws.specs.Stances.{Stance}
use Rattle.build_store.specs.Lower.build_core.Builds.{Parts, StandsFor, setting_in}
use Rattle.build_store.specs.Lower.build_images.Images.{world_image}
use Rattle.build_store.specs.Lower.store_laws.Store.{AllDue, Follows, Told, events_of, last_image}
use Rattle.build_store.proofs.Lower.store_laws.Payloads.{image_behind_more, told_append}
use Rattle.build_store.specs.Lower.delta_records.declared.weights.Weights.{Weights}
use Rattle.build_store.specs.Lower.durable_build.Kinds.{weights_of}
use Rattle.std.specs.List.{AllByRecursion as AllAre}
use Rattle.build_store.specs.Lower.durable_build.Standing.{IsWhole, Kept, Keeps}
use Rattle.build_store.proofs.Lower.durable_build.OpenLemmas.{begun_all}
use Rattle.build_life.specs.declared.resting.Rest.{Rest}
use Rattle.member_turns.specs.Lower.locked_build.declared.ask.Entry.{Entry}
use Rattle.member_turns.specs.Lower.locked_build.declared.ask.Entry.TheVariants.{Took, Claimed, Line, Failed}
use Rattle.member_turns.specs.Lower.locked_build.declared.ask.Progress.{Progress}
use Rattle.member_turns.specs.Lower.locked_build.Facts.{Facts, GoOn, Grown, HasFront, IsFullAt, IsMeant, IsSite, IsSizedAt}
use Rattle.member_turns.specs.Lower.locked_build.Histories.{tooks, kept_fault}
use Rattle.member_turns.specs.Lower.locked_build.Showing.{IsShown}
use Rattle.member_turns.proofs.Lower.locked_build.FactLaws.{all_append, on_so_far, whole_so_far}
use Rattle.member_turns.proofs.Lower.locked_build.HistoryLaws.{kept_fault-append, no_fault, none_pending, pending-append, tooks-append}
use Rattle.build_life.specs.Ending.{ended_as}
use Rattle.build_life.specs.Lives.{KeepsOn}
use Rattle.build_life.proofs.StoreLemmas.{due_append, events-append, follows_append, no_payloads, no_records}
use Rattle.jp_disk.specs.View.{DiskView}

-- fronts of records
front_within : (xs ys : List (List ℕ)) (k : ℕ) → (n : ℕ) × (take k xs ≡ take n (xs ++ ys))
front_within [] ys zero = (0, refl)
front_within [] ys (suc k) = (0, refl)
front_within (x ∷ xs) ys zero = (0, refl)
front_within (x ∷ xs) ys (suc k) = let w = front_within xs ys k in (suc w.0, ap (λ (zs : List (List ℕ)). x ∷ zs) w.1)

front_behind : (xs ys : List (List ℕ)) (k : ℕ) → (n : ℕ) × (xs ++ take k ys ≡ take n (xs ++ ys))
front_behind [] ys k = (k, refl)
front_behind (x ∷ xs) ys k = let w = front_behind xs ys k in (suc w.0, ap (λ (zs : List (List ℕ)). x ∷ zs) w.1)

front_first : (ps xs ys : List (List ℕ)) (image : List ℕ) → HasFront ps xs image → HasFront ps (xs ++ ys) image
front_first ps xs ys image is = let w = front_within xs ys is.0 in (w.0, subst (λ (zs : List (List ℕ)). Has (ps ++ zs) image) w.1 is.1)

front_then : (ps xs ys : List (List ℕ)) (image : List ℕ) → HasFront (ps ++ xs) ys image → HasFront ps (xs ++ ys) image
front_then ps xs ys image is =
    let w = front_behind xs ys is.0 in
    (w.0, subst (λ (zs : List (List ℕ)). Has (ps ++ zs) image) w.1 (subst (λ (zs : List (List ℕ)). Has zs image) (append_assoc ps xs (take is.0 ys)) is.1))

pub none_first : (es fs : List Event) → es ++ fs ≡ [] → es ≡ []
none_first [] fs is = refl
none_first (e ∷ es) fs is = absurd (cc)

none_behind : (es fs : List Event) → es ++ fs ≡ [] → fs ≡ []
none_behind [] fs is = is
none_behind (e ∷ es) fs is = absurd (cc)

module _ {D T : Type 0} (stance : T → Stance) (w : Weights) (before : Option Image) (now : Kept D T) where
  full_then : (made h : List Entry) → kept_fault made ≡ None → IsFullAt stance w before now h → IsFullAt stance w before now (made ++ h)
  full_then [] h none full = full
  full_then (Took e ∷ made) h none full = full_then made h none full
  full_then (Claimed executor task keep_out kept_log kept_out ∷ made) h none full = full_then made h none full
  full_then (Line line ∷ made) h none full = full_then made h none full
  full_then (Failed fault event ∷ made) h none full = absurd (no_fault fault none)

sized_then : (x : Weights) (s : Setting) (w : W.Build) (made h : List Entry) → kept_fault made ≡ None → IsSizedAt x s (fold (W.after_one s) w (tooks made)) h → IsSizedAt x s w (made ++ h)
sized_then x s w [] h none sized = sized
sized_then x s w (Took e ∷ made) h none sized = sized_then x s (W.after_one s w e) made h none sized
sized_then x s w (Claimed executor task keep_out kept_log kept_out ∷ made) h none sized = sized_then x s w made h none sized
sized_then x s w (Line line ∷ made) h none sized = sized_then x s w made h none sized
sized_then x s w (Failed fault event ∷ made) h none sized = absurd (no_fault fault none)

module _ {T : Type 0} (stance : T → Stance) (first mid : Parts T) (es : List Event) (shown : IsShown stance first es mid) where
  abbrev s : Setting
  s = setting_in first

  shown_then : (last : Parts T) (fs : List Event) → IsShown stance mid fs last → IsShown stance first (es ++ fs) last
  shown_then last fs more = record {
    begun = more.begun;
    setting = more.setting ∙ shown.setting;
    unchanged = λ none. more.unchanged (none_behind es fs none) ∙ shown.unchanged (none_first es fs none);
    stands = λ w at. subst (StandsFor stance last) (sym (fold-append (W.after_one s) w es fs))
        (subst (λ (x : Setting). StandsFor stance last (fold (W.after_one x) (fold (W.after_one s) w es) fs)) shown.setting (more.stands (fold (W.after_one s) w es) (shown.stands w at)));
  }

  go_on_then : (rs qs : List EventRecord) → events_of rs ≡ es → GoOn stance first rs → GoOn stance mid qs → GoOn stance first (rs ++ qs)
  go_on_then rs qs are on more before meant started at =
      let w = W.world_in s before in
      let here = on before meant started at in
      let now : List Event = before ++ events_of rs in
      let world : W.world_in s now ≡ fold (W.after_one s) w (events_of rs) = fold-append (W.after_one s) W.unbegun before (events_of rs) in
      let stands : StandsFor stance mid (W.world_in s now) = subst (StandsFor stance mid) (sym world) (subst (λ (xs : List Event). StandsFor stance mid (fold (W.after_one s) w xs)) (sym are) (shown.stands w at)) in
      let later : Follows world_image s (W.world_in s now) qs × AllDue s (W.world_in s now) qs =
      subst (λ (x : Setting). IsMeant x → (W.world_in x now).started ≡ true → StandsFor stance mid (W.world_in x now) → Follows world_image x (W.world_in x now) qs × AllDue x (W.world_in x now) qs) shown.setting
      (λ m started at. more now m started at) meant (begun_all s before (events_of rs) started) stands in
      (follows_append s w rs qs here.0 (subst (λ (b : W.Build). Follows world_image s b qs) world later.0), due_append s w rs qs here.1 (subst (λ (b : W.Build). AllDue s b qs) world later.1))

-- a life that rests has kept no fault
pub rest_calm : {H A : Type 0} (members : List (Member H A)) (how : Result Progress NoMemory) (f : Option TakeFault) (rest : Rest) → Ok rest ≡ ended_as f how members → f ≡ None
rest_calm members how None rest is = refl
rest_calm members how (Some fault) rest is = absurd (cc)

none_disk : None ≡ Some Disk → ⊥
none_disk e = cc

module _ {D T : Type 0} (disk : DiskView D) (stance : T → Stance)
    (first mid last : Kept D T) (made h : List Entry) (none : kept_fault made ≡ None) (one : Facts disk stance first mid made) (two : Facts disk stance mid last h) where
  kept_both : kept_fault (made ++ h) ≡ kept_fault h
  kept_both = kept_fault-append made h none

  calm_first : disk.faults mid.journal.disk ≡ disk.faults first.journal.disk
  calm_first = one.calm (λ state. none_disk (sym none ∙ state))

  module _ (payloads : List (List ℕ)) (g : Grown disk stance first mid made payloads) (k : Grown disk stance mid last h (payloads ++ g.added)) where
    none_last : g.last ≡ []
    none_last = no_payloads (last_image (payloads ++ g.added)) g.last_records g.last (no_records g.last_records (g.last_events ∙ none_pending made none)) g.last_spelled

    abbrev both : List (List ℕ)
    both = g.added ++ k.added

    order : (payloads ++ g.added) ++ k.added ≡ payloads ++ both
    order = append_assoc payloads g.added k.added

    moments_first : AtEachMoment disk first.journal.disk mid.journal.disk (HasFront payloads (both ++ k.last))
    moments_first = at_each_weaker disk first.journal.disk mid.journal.disk (HasFront payloads g.added) (HasFront payloads (both ++ k.last))
        (λ image front. subst (λ (xs : List (List ℕ)). HasFront payloads xs image) (sym (append_assoc g.added k.added k.last)) (front_first payloads g.added (k.added ++ k.last) image front))
        (subst (λ (xs : List (List ℕ)). AtEachMoment disk first.journal.disk mid.journal.disk (HasFront payloads xs)) (ap (λ (xs : List (List ℕ)). g.added ++ xs) none_last ∙ append-nil g.added) g.moments)

    moments_then : AtEachMoment disk mid.journal.disk last.journal.disk (HasFront payloads (both ++ k.last))
    moments_then = at_each_weaker disk mid.journal.disk last.journal.disk (HasFront (payloads ++ g.added) (k.added ++ k.last)) (HasFront payloads (both ++ k.last))
        (λ image front. subst (λ (xs : List (List ℕ)). HasFront payloads xs image) (sym (append_assoc g.added k.added k.last)) (front_then payloads g.added (k.added ++ k.last) image front)) k.moments

    images_then : (image : List ℕ) → Has ((payloads ++ g.added) ++ k.added) image ⊎ Has ((payloads ++ g.added) ++ k.added ++ k.last) image → Has (payloads ++ both) image ⊎ Has (payloads ++ both ++ k.last) image
    images_then image (inl has) = inl (subst (λ (xs : List (List ℕ)). Has xs image) order has)
    images_then image (inr has) = inr (subst (λ (xs : List (List ℕ)). Has (xs ++ k.last) image) order has)

    grown_then : Grown disk stance first last (made ++ h) payloads
    grown_then = record {
      records = g.records ++ k.records;
      events = events-append g.records k.records ∙ ap (λ (es : List Event). es ++ events_of k.records) g.events ∙ ap (λ (es : List Event). tooks made ++ es) k.events ∙ sym (tooks-append made h);
      added = both;
      spelled = told_append (last_image payloads) g.records k.records g.added k.added g.spelled (subst (λ (o : Option Image). Told o k.records k.added) (image_behind_more None payloads g.added) k.spelled);
      last_records = k.last_records;
      last_events = k.last_events ∙ sym (pending-append made h none);
      last = k.last;
      last_spelled = subst (λ (xs : List (List ℕ)). Told (last_image xs) k.last_records k.last) order k.last_spelled;
      go_on = subst (GoOn stance first.build) (sym (append_assoc g.records k.records k.last_records))
          (go_on_then stance first.build mid.build (tooks made) (one.shown none) g.records (k.records ++ k.last_records) g.events (on_so_far disk stance first mid made none payloads g) k.go_on);
      whole = subst (AllAre (λ (r : EventRecord). IsWhole (setting_in first.build) r.image)) (sym (append_assoc g.records k.records k.last_records))
          (all_append (λ (r : EventRecord). IsWhole (setting_in first.build) r.image) g.records (k.records ++ k.last_records) (whole_so_far disk stance first mid made none payloads g)
          (subst (λ (s : Setting). AllAre (λ (r : EventRecord). IsWhole s r.image) (k.records ++ k.last_records)) (one.shown none).setting k.whole));
      ends = k.ends ∙ ap (λ (ps : List (List ℕ)). length (framed ps) + 1) order;
      weighs = k.weighs ∙ ap weights_of order;
      full = full_then stance (weights_of (payloads ++ both)) (last_image (payloads ++ both)) last made h none (subst (λ (ps : List (List ℕ)). IsFullAt stance (weights_of ps) (last_image ps) last h) order k.full);
      keeps = λ calm. subst (Keeps disk stance last) order (k.keeps (sym kept_both ∙ calm));
      moments = runs_on disk first.journal.disk mid.journal.disk last.journal.disk (HasFront payloads (both ++ k.last)) moments_first moments_then;
      images = λ image left. images_then image (k.images image left);
    }

  -- both as one
  pub facts_then : Facts disk stance first last (made ++ h)
  facts_then = record {
    count = let a : disk.faults first.journal.disk ≤ disk.faults mid.journal.disk = one.count in let b : disk.faults mid.journal.disk ≤ disk.faults last.journal.disk = two.count in omega (arith, a, b);
    rose = λ is. subst (λ (n : ℕ). Rose n (disk.faults last.journal.disk)) calm_first (two.rose (sym kept_both ∙ is));
    calm = λ other. two.calm (λ is. other (kept_both ∙ is)) ∙ calm_first;
    longer = let a : first.journal.len ≤ mid.journal.len = one.longer in let b : mid.journal.len ≤ last.journal.len = two.longer in omega (arith, a, b);
    counted =
        let a : mid.records ≡ first.records + length (tooks made) = one.counted in
        let b : last.records ≡ mid.records + length (tooks h) = two.counted in
        let c : length (tooks (made ++ h)) ≡ length (tooks made) + length (tooks h) = ap (λ (es : List Event). length es) (tooks-append made h) ∙ length-append (tooks made) (tooks h) in
        omega (arith, a, b, c);
    full = (two.full.0, full_then stance last.weights two.full.0 last made h none two.full.1);
    size = λ w at. sized_then last.weights (setting_in first.build) w made h none
        (subst (λ (s : Setting). IsSizedAt last.weights s (fold (W.after_one (setting_in first.build)) w (tooks made)) h) (one.shown none).setting (two.size (fold (W.after_one (setting_in first.build)) w (tooks made)) ((one.shown none).stands w at)));
    running = λ calm. two.running (sym kept_both ∙ calm);
    shown = λ calm. subst (λ (es : List Event). IsShown stance first.build es last.build) (sym (tooks-append made h)) (shown_then stance first.build mid.build (tooks made) (one.shown none) last.build (tooks h) (two.shown (sym kept_both ∙ calm)));
    grown = λ payloads keeps. let g = one.grown payloads keeps in grown_then payloads g (two.grown (payloads ++ g.added) (g.keeps none));
  }

  -- Where no fault is kept the store has all records from before, and those of the events that were taken.
  keeps_then : kept_fault h ≡ None → (payloads : List (List ℕ)) → Keeps disk stance first payloads → KeepsOn disk stance first last payloads
  keeps_then calm payloads keeps =
      let g = facts_then.grown payloads keeps in
      let nothing : g.last ≡ [] = no_payloads (last_image (payloads ++ g.added)) g.last_records g.last (no_records g.last_records (g.last_events ∙ none_pending (made ++ h) (kept_both ∙ calm))) g.last_spelled in (
        g.added,
        g.keeps (kept_both ∙ calm),
        subst (λ (xs : List (List ℕ)). AtEachMoment disk first.journal.disk last.journal.disk (HasFront payloads xs)) (ap (λ (xs : List (List ℕ)). g.added ++ xs) nothing ∙ append-nil g.added) g.moments,
      )

module _ {D T : Type 0} (disk : DiskView D) (stance : T → Stance)
    (first mid last : Kept D T) (made h : List Entry) (capacity : ℕ) (none : kept_fault made ≡ None) (one : Facts disk stance first mid made)
    (known : ∥ IsSite disk stance mid last h capacity ∥₁) where
  pub facts_all : ∥ Facts disk stance first last (made ++ h) ∥₁
  facts_all = ∥∥₁_map known (λ site. facts_then disk stance first mid last made h none one site.facts)

  pub rests_keep : {H A : Type 0} (members : List (Member H A)) (how : Result Progress NoMemory) (ended : Result Rest TakeFault) → ended ≡ ended_as (kept_fault h) how members
      → IfOk ended (λ rest. (payloads : List (List ℕ)) → Keeps disk stance first payloads → ∥ KeepsOn disk stance first last payloads ∥₁)
  rests_keep members how (Err fault) is = tt
  rests_keep members how (Ok rest) is = λ payloads keeps.
      ∥∥₁_map known (λ site. keeps_then disk stance first mid last made h none one site.facts (rest_calm members how (kept_fault h) rest is) payloads keeps)
