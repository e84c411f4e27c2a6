-- What a build that went on has come to, from how its life finished.
use Rattle.std.proofs.Common.{true, ◌≡◌, ◌⊎◌, ℕ, List, [], ◌∷◌, ◌++◌, Option, None, Some, inl, inr, refl, sym, ap, ◌∙◌, subst, append-nil, append_assoc, max, ⊎_elim}
use Rattle.std.specs.Prelude.{IfSome, IsSome, IsSomeAnd}
use Rattle.device_faults.specs.Faults.{Rose}
use Rattle.jp_disk.specs.Runs.{AtEachMoment}
use Rattle.jp_disk.proofs.MomentLemmas.{if_told}
use Rattle.model_run.specs.declared.event.Event.{Event}
use Rattle.model_run.specs.State.{Setting}
use Rattle.model_run.specs.World.{world_in}
use Rattle.build_commands.specs.Lower.build_life.declared.resting.Rest.TheVariants as why
use Rattle.build_commands.specs.Lower.build_store.Saved.{Stores, Survives}
use Rattle.build_commands.specs.Lower.build_life.Ending.{RestsWith}
use Rattle.build_commands.specs.Lower.build_life.Going as life
use Rattle.build_commands.specs.Statuses.{HasRun, world_status}
use Rattle.build_commands.proofs.StatusLemmas.{going_status}
use Rattle.build_commands.specs.Finishing.{ComesNext, Made, Rests, Breaks, Finishes}
use Rattle.build_commands.specs.Finishing as finish
use Rattle.build_commands.specs.declared.end_text.EndText.{EndText}
use Rattle.build_commands.specs.EndTexts.{world_text}
use Rattle.build_commands.specs.Living.{LivedBy}
use Rattle.build_commands.specs.Writing as writing
use Rattle.build_commands.proofs.LivingLemmas.{crew_read}
use Rattle.controller.specs.Call.{Call, ComesIn, Devices, HeardIn, IsIdle, LifeIn, Takes, Tells}
use Rattle.controller.specs.Causes.{Stops, ended, waits, cut, unheard, disk_failed, full, no_memory, WentOn}
use Rattle.controller.specs.Output as output
use Rattle.controller.specs.Output.{Says, Delivers}
use Rattle.controller.proofs.CallLemmas.{FinishedIn, where_told}
use Rattle.controller.proofs.TextLemmas.{written, says_unrun}
use Rattle.jp_disk.specs.View.{DiskLaws}

-- a life's events begin with those from before
pub goes_more : {setting : Setting} {Reported : Event → Type 0} {before events : List Event} {lines : List (List ℕ)} → life.GoesBy setting Reported before events lines → (rest : List Event) × (events ≡ before ++ rest)
goes_more {before = before} life.begins = ([], sym (append-nil before))
goes_more {before = before} (life.takes e goes comes accepted) =
    let so = goes_more goes in (so.0 ++ e ∷ [], ap (λ (es : List Event). es ++ e ∷ []) so.1 ∙ append_assoc before so.0 (e ∷ []))
goes_more (life.passes line goes none passed) = goes_more goes

module _ {D H A : Type 0} (v : Devices D H A) (laws : DiskLaws v.disk) (kind : EndText) (setting : Setting) (origin : D) (before : List Event) (c : Call D H A)
    (same : v.disk.faults origin ≡ v.disk.faults c.disk) where
  abbrev FinishedSo : ℕ → Type 0
  FinishedSo n = FinishedIn v c kind setting origin before n

  -- its text was shown, and none of its events is open
  abbrev ShownSo : List Event → Option Event → ℕ → Type 0
  ShownSo events risked n = HasRun n → (risked ≡ None) × writing.Writes c.old c.new c.sink_before c.sink_after (world_text kind setting events) (world_status (world_in setting events)) n

  -- what the store has then, and what a crash leaves of it
  pub record Gone (n : ℕ) : Type 0 where
    pub taken : List Event
    pub more : List Event
    pub is : taken ≡ before ++ more
    pub risked : Option Event
    pub takes : Takes v setting before taken c
    pub next : IfSome risked (ComesNext (ComesIn v setting c takes.life) setting taken)
    pub moments : IsSome (v.disk.reads c.disk) → AtEachMoment v.disk origin c.now (Survives setting before taken risked)
    pub images : IsSome (v.disk.reads c.disk) → (image : List ℕ) → v.disk.may_leave c.now image → Stores setting taken image ⊎ IsSomeAnd risked (λ e. Stores setting (taken ++ e ∷ []) image)
    pub sure : ¬ (Rose (v.disk.faults c.disk) (v.disk.faults c.now)) → risked ≡ None
    pub shown : ShownSo taken risked n

  -- what a crash leaves then, and with 5 perhaps the next event too
  abbrev ImagesSo : LifeIn v setting c → List Event → ℕ → Type 0
  ImagesSo life events n = IsSome (v.disk.reads c.disk) → (image : List ℕ) → v.disk.may_leave c.now image
      → Stores setting events image ⊎ ((n ≡ 5) × (event : Event) × ComesNext (ComesIn v setting c life) setting events event × Stores setting (events ++ event ∷ []) image)

  record Went (n : ℕ) : Type 0 where
    events : List Event
    more : List Event
    is : events ≡ before ++ more
    takes : Takes v setting before events c
    images : ImagesSo takes.life events n
    stops : Stops v setting events c takes.life n

  rose_here : Rose (v.disk.faults origin) (v.disk.faults c.now) → Rose (v.disk.faults c.disk) (v.disk.faults c.now)
  rose_here rose = subst (λ (n : ℕ). Rose n (v.disk.faults c.now)) same rose

  module _ (life : LifeIn v setting c) where
    abbrev TakesSo : List Event → Type 0
    TakesSo events = LivedBy v.host v.source (max setting.site.looks 1) setting before life events

    abbrev ComesSo : List Event → Event → Type 0
    ComesSo events event = ComesIn v setting c life events event

    abbrev IdlesSo : List Event → Type 0
    IdlesSo events = RestsWith why.Waits setting (world_in setting events) life.new

    abbrev UnheardSo : List Event → Type 0
    UnheardSo events = RestsWith why.AnswersFailed setting (world_in setting events) life.new

    abbrev HeardSo : Type 0
    HeardSo = HeardIn v c

    abbrev MadeSo : List Event → Option Event → Type 0
    MadeSo events risked = Made v.disk TakesSo ComesSo IdlesSo UnheardSo HeardSo setting (v.disk.reads c.disk) origin before c.now events risked

    abbrev RestsSo : List Event → Type 0
    RestsSo events = Rests v.disk TakesSo ComesSo IdlesSo UnheardSo HeardSo setting (v.disk.reads c.disk) origin before c.now events

    abbrev BreaksSo : ℕ → List ℕ → Type 0
    BreaksSo n text = Breaks v.disk TakesSo ComesSo IdlesSo UnheardSo HeardSo setting (v.disk.reads c.disk) origin before c.now
        (v.disk.faults origin) (v.disk.faults c.now) (v.source.faults c.answers) (v.source.faults c.answers_now) n text

    abbrev FinishesSo : ℕ → Type 0
    FinishesSo n = Finishes v.disk TakesSo ComesSo IdlesSo UnheardSo HeardSo setting (v.disk.reads c.disk) origin before c.now kind
        (v.disk.faults origin) (v.disk.faults c.now) (v.source.faults c.answers) (v.source.faults c.answers_now) c.old c.new c.sink_before c.sink_after n

    takes_of : {events : List Event} {risked : Option Event} → MadeSo events risked → Takes v setting before events c
    takes_of made = record { life = life; goes = made.takes }

    of_made : {events : List Event} {risked : Option Event} (n : ℕ) → (¬ (Rose (v.disk.faults c.disk) (v.disk.faults c.now)) → risked ≡ None) → ShownSo events risked n → MadeSo events risked → Gone n
    unfolding takes_of
    of_made {events = events} {risked = risked} n sure shown made =
        let so = goes_more made.takes.goes in
        record { taken = events; more = so.0; is = so.1; risked = risked; takes = takes_of made; next = made.next; moments = made.moments; images = made.images; sure = sure; shown = shown }

    breaks_say : {n : ℕ} {text : List ℕ} → BreaksSo n text → Says n text
    breaks_say (finish.answers_failed made rests heard rose) = output.read_failed
    breaks_say (finish.disk_failed made going rose) = output.disk_failed
    breaks_say (finish.full len add made going is) = output.full len add is.too_long
    breaks_say (finish.no_memory made) = output.no_memory

    -- one that broke off shows none
    not_shown : {n : ℕ} {text : List ℕ} (events : List Event) (risked : Option Event) → BreaksSo n text → ShownSo events risked n
    not_shown events risked breaks run = absurd (says_unrun (breaks_say breaks) run)

    broke : {n : ℕ} {text : List ℕ} → BreaksSo n text → Gone n
    broke (finish.answers_failed {events = events} made rests heard rose) = of_made 6 (λ calm. refl) (not_shown events None (finish.answers_failed made rests heard rose)) made
    broke (finish.disk_failed {events = events} {risked = risked} made going rose) = of_made 5 (λ calm. absurd (calm (rose_here rose))) (not_shown events risked (finish.disk_failed made going rose)) made
    broke (finish.full {events = events} len add made going is) = of_made 14 (λ calm. refl) (not_shown events None (finish.full len add made going is)) made
    broke (finish.no_memory {events = events} made) = of_made 8 (λ calm. refl) (not_shown events None (finish.no_memory made)) made

    gone_by : {n : ℕ} → FinishesSo n → Gone n
    gone_by {n = n} (finish.by_rest rests writes) = of_made n (λ calm. refl) (λ run. (refl, writes)) rests.made
    gone_by (finish.by_break breaks tells) = broke breaks

    -- all events of a life that the disk did not fail are durable, and what a read gives
    only : {events : List Event} {image : List ℕ} → Stores setting events image ⊎ IsSomeAnd {T = Event} None (λ e. Stores setting (events ++ e ∷ []) image) → Stores setting events image
    only (inl all) = all
    only (inr none) = absurd none

    durable : {events : List Event} → MadeSo events None → IsSome (v.disk.reads c.disk) → (image : List ℕ) → v.disk.may_leave c.now image → Stores setting events image
    durable made known image left = only (made.images known image left)

    stored : {events : List Event} → MadeSo events None → IsSome (v.disk.reads c.disk) → IfSome (v.disk.reads c.now) (Stores setting events)
    stored {events = events} made known = where_told (v.disk.reads c.now) (Stores setting events) (λ file told. durable made known file (if_told (λ f. v.disk.may_leave c.now f) told (laws.told_image c.now)))

    -- nobody goes on
    idle : (events : List Event) → IdlesSo events → IsIdle v setting events c
    idle events rests = record {
      going = rests.0;
      granted = rests.1;
      no_task = rests.2;
      heard = ⊎_elim (λ none. inl none) (λ out. inr (crew_read v.host v.source setting.site.executors c.hosts c.answers c.answers_now life.new life.served life.answers_are out)) rests.3;
    }

    done_so : {events : List Event} → RestsSo events → ((world_in setting events).ended ≡ true) ⊎ IsIdle v setting events c
    done_so {events = events} rests = ⊎_elim (λ done. inl done) (λ idles. inr (idle events idles)) rests.rests

    -- one that rests has its text
    rests_delivered : {events : List Event} {n : ℕ} → RestsSo events
        → writing.Writes c.old c.new c.sink_before c.sink_after (world_text kind setting events) (world_status (world_in setting events)) n → n ≡ c.status → (more : List Event) × Delivers v kind setting before (before ++ more) c
    unfolding takes_of
    rests_delivered {events = events} rests writes is =
        let so = goes_more rests.made.takes.goes in (
          so.0,
          subst (λ (es : List Event). Delivers v kind setting before es c) so.1 (record {
            takes = takes_of rests.made;
            rests = done_so rests;
            heard = rests.heard;
            text = subst (λ (m : ℕ). writing.Writes c.old c.new c.sink_before c.sink_after (world_text kind setting events) (world_status (world_in setting events)) m) is writes;
            stores = stored rests.made;
            durable = durable rests.made;
          }),
        )

    delivers : {n : ℕ} → FinishesSo n → n ≡ c.status → HasRun n → (more : List Event) × Delivers v kind setting before (before ++ more) c
    delivers (finish.by_rest rests writes) is run = rests_delivered rests writes is
    delivers (finish.by_break breaks tells) is run = absurd (says_unrun (breaks_say breaks) run)

    -- why it stopped
    rest_stops : (events : List Event) → HeardSo → ((world_in setting events).ended ≡ true) ⊎ IsIdle v setting events c → Stops v setting events c life (world_status (world_in setting events))
    rest_stops events heard (inl done) = ended done heard
    rest_stops events heard (inr idle) = subst (Stops v setting events c life) (sym (going_status (world_in setting events) idle.going)) (waits idle heard)

    went_so : {events : List Event} {risked : Option Event} (n : ℕ) → MadeSo events risked → ImagesSo life events n → Stops v setting events c life n → Went n
    unfolding takes_of
    went_so {events = events} n made images stops =
        let so = goes_more made.takes.goes in
        record { events = events; more = so.0; is = so.1; takes = takes_of made; images = images; stops = stops }

    -- the event at risk is the next one
    risked_images : {events : List Event} {risked : Option Event} (n : ℕ) → n ≡ 5 → MadeSo events risked → ImagesSo life events n
    risked_images {events = events} {risked = risked} n five made known image left = one risked made.next (made.images known image left)
      where
        one : (o : Option Event) → IfSome o (ComesNext ComesSo setting events) → Stores setting events image ⊎ IsSomeAnd o (λ e. Stores setting (events ++ e ∷ []) image)
            → Stores setting events image ⊎ ((n ≡ 5) × (event : Event) × ComesNext ComesSo setting events event × Stores setting (events ++ event ∷ []) image)
        one o next (inl all) = inl all
        one None next (inr none) = absurd none
        one (Some e) next (inr with_it) = inr (five, e, next, with_it)

    breaks_went : {n : ℕ} {text : List ℕ} → BreaksSo n text → Tells text c → Went n
    breaks_went (finish.answers_failed made rests heard rose) tells =
        went_so 6 made (λ known image left. inl (durable made known image left)) (unheard (record { going = rests.0; granted = rests.1; no_task = rests.2; waits = rests.3 }) heard rose)
    breaks_went (finish.disk_failed made going rose) tells = went_so 5 made (risked_images 5 refl made) (disk_failed going (rose_here rose))
    breaks_went (finish.full len add made going is) tells = went_so 14 made (λ known image left. inl (durable made known image left)) (full len add going is tells)
    breaks_went (finish.no_memory made) tells = went_so 8 made (λ known image left. inl (durable made known image left)) no_memory

    went : {n : ℕ} → FinishesSo n → Went n
    went {n = n} (finish.by_rest {events = events} rests writes) =
        let done = done_so rests in
        went_so n rests.made (λ known image left. inl (durable rests.made known image left))
        (⊎_elim (λ is. subst (Stops v setting events c life) (sym is) (rest_stops events rests.heard done)) (λ failed. subst (Stops v setting events c life) (sym failed.0) (cut done rests.heard failed.1)) (written writes))
    went (finish.by_break breaks tells) = breaks_went breaks tells

  pub gone : {n : ℕ} → FinishedSo n → Gone n
  gone f = gone_by f.lived f.finishes

  pub finish_delivers : FinishedSo c.status → HasRun c.status → (more : List Event) × Delivers v kind setting before (before ++ more) c
  finish_delivers f run = delivers f.lived f.finishes refl run

  -- the same of the events from before and more
  went_on : (events more : List Event) → events ≡ before ++ more → (takes : Takes v setting before events c) → ImagesSo takes.life events c.status → Stops v setting events c takes.life c.status → WentOn v setting before c
  went_on events more is takes images stops =
      let moved : (t : Takes v setting before (before ++ more) c) × ImagesSo t.life (before ++ more) c.status × Stops v setting (before ++ more) c t.life c.status =
      subst (λ (es : List Event). (t : Takes v setting before es c) × ImagesSo t.life es c.status × Stops v setting es c t.life c.status) is (takes, images, stops) in
      record { more = more; takes = moved.0; images = moved.1; stops = moved.2 }

  pub finish_went : FinishedSo c.status → WentOn v setting before c
  finish_went f = let so = went f.lived f.finishes in went_on so.events so.more so.is so.takes so.images so.stops
