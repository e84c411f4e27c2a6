-- What an accepted event adds to a store and its build.
use Rattle.std.proofs.Common.{◌≡◌, ◌+◌, ◌^◌, ◌≤◌, ℕ, Bool, true, false, List, [], ◌∷◌, ◌++◌, Option, Some, None, Result, Ok, Err, refl, sym, ap, ◌∙◌, subst, arith, length-append}
use Rattle.std.specs.Prelude.{IfSome, IsErrOf, if◌then◌else◌}
use Rattle.journal_core.specs.State.{Holds}
use Rattle.delta_records.specs.Lower.record_form.Ordered.{IsInOrder}
use Rattle.delta_records.specs.Lower.record_form.Records.{record_of}
use Rattle.delta_records.specs.declared.payload.Payload.{Payload}
use Rattle.delta_records.specs.declared.weights.Weights.{Weights}
use Rattle.delta_records.specs.Lower.record_form.declared.record.EventRecord.{EventRecord}
use Rattle.image_form.specs.declared.image.Image.{Image}
use Rattle.model_run.specs.declared.event.Event.{Event}
use Rattle.model_run.specs.declared.event.Event.TheVariants as event
use Rattle.model_run.specs.declared.taken.Taken.TheVariants.{Accepted}
use Rattle.model_run.specs.State.{Setting}
use Rattle.model_run.specs.Taking.{taken}
use Rattle.model_run.specs.World as W
use Rattle.settle_laws.specs.Stances.{Stance}
use Rattle.build_images.specs.Lower.build_core.Builds.{Parts, StandsFor, setting_in, standing_of}
use Rattle.build_images.specs.Lower.build_core.Phases.{has_begun}
use Rattle.store_laws.specs.Store.{IsStory, events_of, last_image, record_at}
use Rattle.store_laws.proofs.Payloads.{told_image}
use Rattle.store_laws.proofs.Tellings.{one_record}
use Rattle.store_laws.proofs.Stories.{Apart, apart, events-more, world-more, story_front, IsStart}
use Rattle.store_laws.proofs.Starts.{only_start, no_second_start}
use Rattle.journal_core.specs.declared.faults.TakeFault.{TakeFault}
use Rattle.journal_core.specs.declared.faults.TakeFault.TheVariants.{Memory, Disk, Full, Stopped}
use Rattle.durable_build.specs.declared.store.Sources.{Sources}
use Rattle.build_images.specs.Images.{world_image, image_in}
use Rattle.durable_build.specs.Kinds.{weights_of}
use Rattle.durable_build.specs.Standing.{BeginsWhole, IsWhole, Kept, Keeps, Opening, Remembers, StandsBy, StandsForStory, image_before, world_before}
use Rattle.durable_build.specs.Taking.{Adds, IsBehind, IsDue, IsSized, IsSource, LeavesWhole, MayStart, Puts, Risks, TakeAnswers, TakeKeeps, TakeLeaves, agents_after, kept_agents, kept_script, script_after}
use Rattle.durable_build.specs.Adding.{AddDone, AddKeeps, Adding}
use Rattle.durable_build.proofs.KindLemmas.{image_push}
use Rattle.jp_disk.specs.View.{DiskView}

-- no record tells of the build that has taken no event
pub empty_story : {T : Type 0} (stance : T → Stance) (b : Parts T) → StandsFor stance b W.unbegun → StandsForStory stance b []
empty_story stance b stands [] spelled told = stands
empty_story stance b stands (r ∷ rs) spelled told = absurd spelled

-- the first record, of a `Start`
opens : (s : Setting) (e : Event) (o : Option Sources) (script agents : List ℕ) (image : Image) (p : List ℕ) → IsStart e → MayStart s e → IsSource e o
    → record_at None p ≡ Some (record_of e image) → Opening s (kept_script o script) (kept_agents o agents) p
opens s (event.Start new_script new_agents) o script agents image p start may source tells =
    subst (λ (x : Option Sources). Opening s (kept_script x script) (kept_agents x agents) p) (sym source)
    (record { first = record_of (event.Start new_script new_agents) image; tells = tells; starts = refl; mean = may })
opens s (event.Granted request executor) o script agents image p start may source tells = absurd start
opens s (event.Output task stream from bytes) o script agents image p start may source tells = absurd start
opens s (event.Exited task code) o script agents image p start may source tells = absurd start
opens s (event.Lost task why) o script agents image p start may source tells = absurd start
opens s (event.Decided request proceed name) o script agents image p start may source tells = absurd start

-- any other event leaves the sources
no_source : (e : Event) (o : Option Sources) → (IsStart e → ⊥) → IsSource e o → o ≡ None
no_source (event.Start script agents) o never source = absurd (never tt)
no_source (event.Granted request executor) o never source = source
no_source (event.Output task stream from bytes) o never source = source
no_source (event.Exited task code) o never source = source
no_source (event.Lost task why) o never source = source
no_source (event.Decided request proceed name) o never source = source

-- what an event brings is what is kept behind it
pub kept_after : (e : Event) (o : Option Sources) (script agents : List ℕ) → IsSource e o → (kept_script o script ≡ script_after e script) × (kept_agents o agents ≡ agents_after e agents)
kept_after (event.Start new_script new_agents) o script agents is = (ap (λ (x : Option Sources). kept_script x script) is, ap (λ (x : Option Sources). kept_agents x agents) is)
kept_after (event.Granted request executor) o script agents is = (ap (λ (x : Option Sources). kept_script x script) is, ap (λ (x : Option Sources). kept_agents x agents) is)
kept_after (event.Output task stream from bytes) o script agents is = (ap (λ (x : Option Sources). kept_script x script) is, ap (λ (x : Option Sources). kept_agents x agents) is)
kept_after (event.Exited task code) o script agents is = (ap (λ (x : Option Sources). kept_script x script) is, ap (λ (x : Option Sources). kept_agents x agents) is)
kept_after (event.Lost task why) o script agents is = (ap (λ (x : Option Sources). kept_script x script) is, ap (λ (x : Option Sources). kept_agents x agents) is)
kept_after (event.Decided request proceed name) o script agents is = (ap (λ (x : Option Sources). kept_script x script) is, ap (λ (x : Option Sources). kept_agents x agents) is)

module _ {T : Type 0} (stance : T → Stance) (b b' : Parts T) (e : Event) (accepted : taken (standing_of b) e ≡ Accepted) (same : setting_in b' ≡ setting_in b) where
  -- it stands by its records and the new one
  pub stands_next : (script agents : List ℕ) (ps : List (List ℕ)) (o : Option Sources) (p : List ℕ) → StandsBy stance b script agents ps → MayStart (setting_in b) e → IsSource e o
      → has_begun b'.phase ≡ true → record_at (last_image ps) p ≡ Some (record_of e (image_in stance b')) → StandsBy stance b' (kept_script o script) (kept_agents o agents) (ps ++ p ∷ [])
  stands_next script agents [] o p stands may source begun tells = (
    begun,
    subst (λ (s : Setting). Opening s (kept_script o script) (kept_agents o agents) p) (sym same)
        (opens (setting_in b) e o script agents (image_in stance b') p (only_start (standing_of b) e stands.0 accepted) may source tells),
    told_image None p (record_of e (image_in stance b')) tells,
  )
  stands_next script agents (q ∷ qs) o p stands may source begun tells =
      let none : o ≡ None = no_source e o (no_second_start (standing_of b) e stands.0 accepted) source in (
        begun,
        subst (λ (x : Option Sources). Opening (setting_in b') (kept_script x script) (kept_agents x agents) q) (sym none)
            (subst (λ (s : Setting). Opening s script agents q) (sym same) stands.1),
        image_push (q ∷ qs) p ∙ told_image (last_image (q ∷ qs)) p (record_of e (image_in stance b')) tells,
      )

  module _ (goes : (w : W.Build) → StandsFor stance b w → StandsFor stance b' (W.after_one (setting_in b) w e)) where
    -- and for the build that they tell of
    pub story_next : (ps : List (List ℕ)) (p : List ℕ) → record_at (last_image ps) p ≡ Some (record_of e (image_in stance b')) → StandsForStory stance b ps → StandsForStory stance b' (ps ++ p ∷ [])
    story_next ps p tells story records spelled told =
        let a : Apart None records ps p = apart None records ps p spelled in
        let s = setting_in b in
        let here : IsStory world_image s (a.front ++ a.last ∷ []) = subst (λ (rs : List EventRecord). IsStory world_image s rs) a.are (subst (λ (x : Setting). IsStory world_image x records) same told) in
        let before : StandsFor stance b (W.world_in s (events_of a.front)) = story a.front a.spelled (story_front world_image s a.front a.last here) in
        let event : a.last.event ≡ e = ap (λ (r : EventRecord). r.event) (one_record (last_image ps) a.last (record_of e (image_in stance b')) p a.tells tells) in
        let events : events_of records ≡ events_of a.front ++ e ∷ [] =
        ap events_of a.are ∙ events-more a.front a.last ∙ ap (λ (x : Event). events_of a.front ++ x ∷ []) event in
        let world : W.world_in (setting_in b') (events_of records) ≡ W.after_one s (W.world_in s (events_of a.front)) e =
        ap (λ (x : Setting). W.world_in x (events_of records)) same ∙ ap (W.world_in s) events ∙ world-more s W.unbegun (events_of a.front) e in
        subst (StandsFor stance b') (sym world) (goes (W.world_in s (events_of a.front)) before)

    -- the new record has the image of each build of the definitions that it stands for
    pub image_next : ((w : W.Build) → StandsFor stance b' w → image_in stance b' ≡ world_image (setting_in b') w) → (w : W.Build) → StandsFor stance b w
        → image_in stance b' ≡ world_image (setting_in b) (W.after_one (setting_in b) w e)
    image_next told w stands = told (W.after_one (setting_in b) w e) (goes w stands) ∙ ap (λ (s : Setting). world_image s (W.after_one (setting_in b) w e)) same

module _ {D T : Type 0} (disk : DiskView D) (stance : T → Stance) (old new : Kept D T) (e : Event)
    (accepted : taken (standing_of old.build) e ≡ Accepted) (same : setting_in new.build ≡ setting_in old.build)
    (goes : (w : W.Build) → StandsFor stance old.build w → StandsFor stance new.build (W.after_one (setting_in old.build) w e))
    (told : (w : W.Build) → StandsFor stance new.build w → image_in stance new.build ≡ world_image (setting_in new.build) w) where
  pub adds : (ps : List (List ℕ)) (o : Option Sources) → Keeps disk stance old ps → MayStart (setting_in old.build) e → IsSource e o → has_begun new.build.phase ≡ true
      → new.script ≡ kept_script o old.script → new.agents ≡ kept_agents o old.agents
      → (puts : Puts disk old.journal new.journal (record_of e (image_in stance new.build)) ps) → Holds disk new.journal (ps ++ puts.payload ∷ []) → new.weights ≡ weights_of (ps ++ puts.payload ∷ [])
      → new.records ≡ old.records + 1 → Adds disk stance old new e ps
  adds ps o keeps may source begun script agents puts holds weighs counted = record {
    puts = puts;
    keeps = record {
      holds = holds;
      weighs = weighs;
      counted = omega (arith, counted, keeps.counted, length-append ps (puts.payload ∷ []));
      stands = rw (script, agents) (stands_next stance old.build new.build e accepted same old.script old.agents ps o puts.payload keeps.stands may source begun puts.tells);
      story = story_next stance old.build new.build e accepted same goes ps puts.payload puts.tells keeps.story;
    };
    image = image_next stance old.build new.build e accepted same goes told;
  }

  pub risks : (ps : List (List ℕ)) → Puts disk old.journal new.journal (record_of e (image_in stance new.build)) ps → Risks disk stance old new e ps
  risks ps puts = record { puts = puts; image = image_next stance old.build new.build e accepted same goes told }

-- what the kept image says of the last record
pub kept_behind : {D T : Type 0} (stance : T → Stance) (k : Kept D T) (kept : Option Image) → Remembers stance k.build kept → IsBehind stance k
kept_behind stance k kept remembers = λ w stands. sym remembers.is ∙ remembers.world w stands

begun_is : {T : Type 0} (stance : T → Stance) (b : Parts T) → has_begun b.phase ≡ true → image_before stance b ≡ Some (image_in stance b)
begun_is stance b begun = ap (λ (x : Bool). if x then Some (image_in stance b) else None) begun

unbegun_is : {T : Type 0} (stance : T → Stance) (b : Parts T) → has_begun b.phase ≡ false → image_before stance b ≡ None
unbegun_is stance b begun = ap (λ (x : Bool). if x then Some (image_in stance b) else None) begun

world_begun : {T : Type 0} (stance : T → Stance) (b : Parts T) (w : W.Build) (begun : Bool) → StandsFor stance b w → has_begun b.phase ≡ begun → world_before (setting_in b) w ≡ (if begun then Some (world_image (setting_in b) w) else None)
world_begun stance b w begun stands is = ap (λ (x : Bool). if x then Some (world_image (setting_in b) w) else None) (stands.started ∙ is)

-- of a build that has taken no event
pub remembers_none : {T : Type 0} (stance : T → Stance) (b : Parts T) (kept : Option Image) → has_begun b.phase ≡ false → kept ≡ None → Remembers stance b kept
remembers_none stance b kept begun none = record {
  is = none ∙ sym (unbegun_is stance b begun);
  order = subst (λ (o : Option Image). IfSome o IsInOrder) (sym none) tt;
  whole = subst (λ (o : Option Image). IfSome o (IsWhole (setting_in b))) (sym none) tt;
  world = λ w stands. none ∙ sym (world_begun stance b w false stands begun);
}

-- and of one that has begun
pub remembers_image : {T : Type 0} (stance : T → Stance) (b : Parts T) (image : Image) → has_begun b.phase ≡ true → image ≡ image_in stance b → IsInOrder image → IsWhole (setting_in b) image
    → ((w : W.Build) → StandsFor stance b w → image ≡ world_image (setting_in b) w) → Remembers stance b (Some image)
remembers_image stance b image begun is order whole told = record {
  is = ap (λ (i : Image). Some i) is ∙ sym (begun_is stance b begun);
  order = order;
  whole = whole;
  world = λ w stands. ap (λ (i : Image). Some i) (told w stands) ∙ sym (world_begun stance b w true stands begun);
}

pub remembers_added : {T : Type 0} (stance : T → Stance) (b : Parts T) (kept : Option Image) → has_begun b.phase ≡ true → (kept ≡ Some (image_in stance b)) × IsInOrder (image_in stance b)
    → IsWhole (setting_in b) (image_in stance b) → ((w : W.Build) → StandsFor stance b w → image_in stance b ≡ world_image (setting_in b) w) → Remembers stance b kept
remembers_added stance b kept begun last whole told = subst (Remembers stance b) (sym last.0) (remembers_image stance b (image_in stance b) begun refl last.1 whole told)

-- a build that has begun and its kept image: the build's own image is whole
pub kept_whole : {T : Type 0} (stance : T → Stance) (b : Parts T) (kept : Option Image) → Remembers stance b kept → has_begun b.phase ≡ true → IsWhole (setting_in b) (image_in stance b)
kept_whole stance b kept remembers begun =
    let here : kept ≡ Some (image_in stance b) = remembers.is ∙ begun_is stance b begun in subst (λ (o : Option Image). IfSome o (IsWhole (setting_in b))) here remembers.whole

-- a build that has begun has a record
pub begins_behind : {T : Type 0} (stance : T → Stance) (b : Parts T) (kept : Option Image) (w : Weights) → has_begun b.phase ≡ true → Remembers stance b kept → BeginsWhole kept w
begins_behind stance b kept w begun remembers = subst (λ (o : Option Image). BeginsWhole o w) (sym (remembers.is ∙ begun_is stance b begun)) tt

-- the last image of the records that a build stands by is its own
pub stands_last : {T : Type 0} (stance : T → Stance) (b : Parts T) (script agents : List ℕ) (ps : List (List ℕ)) → StandsBy stance b script agents ps → image_before stance b ≡ last_image ps
stands_last stance b script agents [] stands = unbegun_is stance b stands.0
stands_last stance b script agents (p ∷ ps) stands = begun_is stance b stands.0 ∙ sym stands.2

module _ {D T : Type 0} (disk : DiskView D) (stance : T → Stance) (old new : Kept D T) (e : Event)
    (running : old.stopped ≡ false) (accepted : taken (standing_of old.build) e ≡ Accepted) (before : Option Image) (remembers : Remembers stance old.build before) where
  abbrev image : Image
  image = image_in stance new.build

  abbrev Done : Result (Unit {0}) TakeFault → Type 0
  Done r = AddDone disk old.weights before e image old.journal new.journal new.weights r

  due_here : (q : Payload) → IsDue old.weights before e image q → IsDue old.weights (image_before stance old.build) e image q
  due_here q due = subst (λ (o : Option Image). IsDue old.weights o e image q) remembers.is due

  -- the fault of an accepted event, by what became of its payload
  pub take_answered : (f : TakeFault) → Done (Err f) → TakeAnswers stance old new e (Err f)
  take_answered Memory done = running
  take_answered Disk done = (running, accepted, (done.payload, due_here done.payload done.due, done.answers))
  take_answered (Full len add) done = (running, accepted, done.answers.0, done.answers.1, (done.payload, due_here done.payload done.due, done.answers.2))
  take_answered Stopped done = absurd done.answers

  -- what it leaves of the journal, and of what is counted
  pub take_left : (f : TakeFault) → new.stopped ≡ true → new.records ≡ old.records → Done (Err f) → TakeLeaves stance old new e (Err f)
  take_left Memory stopped records done = (stopped, done.0, (done.1, records))
  take_left Disk stopped records done = (stopped, done.leaves, (done.weighs, records))
  take_left (Full len add) stopped records done = (stopped, done.leaves, (done.weighs, records))
  take_left Stopped stopped records done = absurd done.answers

  pub added_left : (x : Unit {0}) → new.stopped ≡ false → has_begun new.build.phase ≡ true → new.records ≡ old.records + 1 → Done (Ok x) → TakeLeaves stance old new e (Ok Accepted)
  added_left x going begun records done = (
    going,
    begun,
    record { payload = done.payload; due = due_here done.payload done.due; len = done.leaves.0; weights = done.weighs; records = records },
    subst (λ (n : ℕ). n ≤ 2 ^ 30) (sym done.leaves.0) done.answers,
  )

  -- the records, where the journal kept some
  pub puts_of : (r : Result (Unit {0}) TakeFault) (ps : List (List ℕ)) → Adding disk old.weights before e image old.journal new.journal new.weights r → Keeps disk stance old ps
      → AddKeeps disk old.journal new.journal (record_of e image) new.weights ps r
  puts_of r ps done keeps = done.keeps ps keeps.holds (remembers.is ∙ stands_last stance old.build old.script old.agents ps keeps.stands) keeps.weighs

  module _ (same : setting_in new.build ≡ setting_in old.build) (goes : (w : W.Build) → StandsFor stance old.build w → StandsFor stance new.build (W.after_one (setting_in old.build) w e)) where
    -- a fault leaves no trace but that of the disk
    pub take_failed : (f : TakeFault) (ps : List (List ℕ)) → Done (Err f) → Keeps disk stance old ps
        → (¬ (IsErrOf {T = Unit {0}} (Err f) Memory) → (w : W.Build) → StandsFor stance new.build w → image ≡ world_image (setting_in new.build) w) → TakeKeeps disk stance old new e ps (Err f)
    take_failed Disk ps done keeps told = risks disk stance old new e accepted same goes (told (λ is. cc)) ps (puts_of (Err Disk) ps done keeps)
    take_failed Memory ps done keeps told = tt
    take_failed (Full l a) ps done keeps told = tt
    take_failed Stopped ps done keeps told = tt

    -- and `Full` tells the size of the event's own record
    pub take_sized : (f : TakeFault)
        → (¬ (IsErrOf {T = Unit {0}} (Err f) Memory) → (w : W.Build) → StandsFor stance new.build w → image ≡ world_image (setting_in new.build) w) → IsSized stance old new e (Err f)
    take_sized (Full l a) told = (image_next stance old.build new.build e accepted same goes (told (λ is. cc)), kept_behind stance old before remembers)
    take_sized Memory told = tt
    take_sized Disk told = tt
    take_sized Stopped told = tt

-- a fault but want of memory leaves a whole image
pub fault_whole : {T : Type 0} (stance : T → Stance) (setting : Setting) (b : Parts T) (f : TakeFault) → setting_in b ≡ setting → (¬ (IsErrOf {T = Unit {0}} (Err f) Memory) → IsWhole (setting_in b) (image_in stance b)) → LeavesWhole stance setting b (Err f)
fault_whole stance setting b Memory same whole = tt
fault_whole stance setting b Disk same whole = subst (λ (s : Setting). IsWhole s (image_in stance b)) same (whole (λ is. cc))
fault_whole stance setting b (Full l a) same whole = subst (λ (s : Setting). IsWhole s (image_in stance b)) same (whole (λ is. cc))
fault_whole stance setting b Stopped same whole = tt
