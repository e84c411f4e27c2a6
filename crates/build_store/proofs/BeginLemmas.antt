-- How a life begins.
use Rattle.std.proofs.Common.{◌≡◌, ◌⊎◌, ◌<◌, ◌+◌, ℕ, Bool, true, false, List, ◌∷◌, Option, Some, None, Ok, Err, inl, inr, refl, sym, ap, ◌∙◌, subst, length, arith, Result, []}
use Rattle.std.specs.Prelude.{nat_lt, if◌then◌else◌, codes, IfOk, MatchResult}
use Rattle.std.specs.Str.{is_utf8}
use Rattle.serde_json.specs.Data.{Data}
use Rattle.serde_json.specs.Read.{read}
use Rattle.jp_disk.specs.Runs.{AtEachMoment}
use Rattle.jp_disk.proofs.MomentLemmas.{runs_on, at_each_weaker, starts}
use Rattle.journal_core.specs.Answers.{IsStarted}
use Rattle.journal_core.specs.Moments.{SinceSync}
use Rattle.journal_core.specs.Records.{Has, HasWithOrWithout, records, Walked}
use Rattle.journal_core.specs.State.{State}
use Rattle.journal_core.specs.declared.faults.CreateFault.{CreateFault}
use Rattle.journal_core.specs.declared.faults.CreateFault.TheVariants.{Disk as CreateDisk, HasRecord}
use Rattle.durable_build.specs.Lower.record_form.Records.{record_of}
use Rattle.durable_build.specs.Lower.record_form.declared.record.EventRecord.{EventRecord}
use Rattle.journal_core.specs.declared.faults.TakeFault.{TakeFault}
use Rattle.journal_core.specs.declared.faults.TakeFault.TheVariants.{Memory, Disk, Full, Stopped}
use Rattle.model_run.specs.declared.agents.AgentsKind.TheVariants as kind
use Rattle.model_run.specs.declared.event.Event.{Event}
use Rattle.model_run.specs.declared.event.Event.TheVariants as event
use Rattle.model_run.specs.declared.site.Site.{Site}
use Rattle.model_run.specs.declared.taken.Taken.{Taken}
use Rattle.model_run.specs.declared.taken.Taken.TheVariants.{Accepted, NotOpen, WrongPlace, Finished}
use Rattle.model_run.specs.AgentsFaults.{Fault, fault, file_faults}
use Rattle.model_run.specs.AgentsFile.{agents_file, Means, Refused as BadFile, of_json, site_of, judged as judged_file}
use Rattle.model_run.proofs.DueLaws.{site_numbers}
use Rattle.model_run.specs.State.{Setting}
use Rattle.model_run.specs.Taking.{taken, Standing}
use Rattle.model_run.specs.World.{Build, unbegun, after_one, world_in}
use Rattle.settle_laws.specs.Stances.{Stance}
use Rattle.durable_build.specs.Lower.build_core.Builds.{StandsFor, setting_in, standing_of}
use Rattle.durable_build.specs.Lower.build_images.Images.{image_in, world_image}
use Rattle.durable_build.proofs.StaysBegun.{starts_begun}
use Rattle.durable_build.specs.Settings.{AreNumbered, IsProper}
use Rattle.durable_build.specs.Lower.store_laws.Store.{AllDue, IsStory, Mean, Starts, Told, events_of, record_at}
use Rattle.durable_build.proofs.Lower.store_laws.Tellings.{one_record, one_setting}
use Rattle.durable_build.specs.Standing.{Kept, Keeps, Opening, image_before}
use Rattle.durable_build.specs.Kinds.{weights_of}
use Rattle.durable_build.specs.Opening.{OpenFails, Opened}
use Rattle.durable_build.specs.declared.faults.StoreFault.{StoreFault}
use Rattle.durable_build.proofs.Begun.{starts_first}
use Rattle.durable_build.proofs.Sizes.{due_adds}
use Rattle.durable_build.proofs.OpenLemmas.{begun_all, is_start}
use Rattle.durable_build.specs.Taking.{IsSized, Puts, TakeAnswers, TakeLeaves, TakeKeeps, TakeSources}
use Rattle.build_store.specs.Saved.{IsTold, Saves, Stores, Survives}
use Rattle.build_store.specs.declared.beginning.BeginFault.TheVariants.{Take}
use Rattle.build_store.specs.Lives.{image_after, Goes, IsBegun, StartFaults, MayRisk, Stands, Begins, BeginRefuses, StartFails}
use Rattle.build_store.proofs.LifeLemmas.{saves_world}
use Rattle.build_store.proofs.SavedLemmas.{same_standing, told_none, told_start, survives_all, survives_risked}
use Rattle.jp_disk.specs.View.{DiskView}

-- the executors of an agents file have numbers of their own
site_numbered : (a : List ℕ) (site : Site) → agents_file a ≡ Means site → AreNumbered site
site_numbered a site means = file (nat_lt 65536 (length a)) (is_utf8 a) means
  where
    faults : (fs : List Fault) (d : Data) → judged_file fs (site_of d) ≡ Means site → AreNumbered site
    faults [] d e = let is : site_of d ≡ site = cc in subst AreNumbered is (site_numbers d)
    faults (fault path k ∷ fs) d e = absurd (cc)

    json : (o : Option Data) → of_json o ≡ Means site → AreNumbered site
    json None e = absurd (cc)
    json (Some d) e = faults (file_faults d) d e

    file : (long text : Bool) → (if long then BadFile (codes ".") kind.TooLong else (if text then of_json (read a) else BadFile (codes ".") kind.NotJson)) ≡ Means site → AreNumbered site
    file true text e = absurd (cc)
    file false true e = json (read a) e
    file false false e = absurd (cc)

-- the setting of a script and an agents file without a fault
pub mean_proper : (script agents : List ℕ) (setting : Setting) → Mean script agents setting → IsProper setting
mean_proper script agents setting mean = record { tree = mean.tree; is = mean.is; numbered = site_numbered agents setting.site mean.means }

-- a build whose `Start` was accepted goes on from it
goes_begun : {D T : Type 0} (stance : T → Stance) (setting : Setting) (script agents : List ℕ) (fresh new : Kept D T) → Mean script agents setting → setting_in fresh.build ≡ setting → StandsFor stance fresh.build unbegun
    → setting_in new.build ≡ setting_in fresh.build → new.stopped ≡ false → ((w : Build) → StandsFor stance fresh.build w → StandsFor stance new.build (after_one (setting_in fresh.build) w (event.Start script agents)))
    → Goes stance setting (event.Start script agents ∷ []) new
goes_begun stance setting script agents fresh new mean same stands here running goes = record {
  same = here ∙ same;
  proper = mean_proper script agents setting mean;
  begun = starts_begun setting script agents;
  running = running;
  stands = subst (λ (s : Setting). StandsFor stance new.build (after_one s unbegun (event.Start script agents))) same (goes unbegun stands);
}

module _ {D T : Type 0} (disk : DiskView D) (stance : T → Stance) (setting : Setting) (script agents file : List ℕ) (state : D) (fresh new : Kept D T)
    (mean : Mean script agents setting) (same : setting_in fresh.build ≡ setting) (stands : StandsFor stance fresh.build unbegun) (unstarted : IsStarted file → ⊥) (none : Has [] file) (keeps_none : Keeps disk stance fresh [])
    (quiet : SinceSync disk file state fresh.journal.disk (λ image. records image ≡ records file)) where
  abbrev start : Event
  start = event.Start script agents

  starts_accepted : taken (standing_of fresh.build) start ≡ Accepted
  starts_accepted = ap (λ (b : Standing). taken b start) (same_standing stance fresh.build unbegun stands)

  told_here : (puts : Puts disk fresh.journal new.journal (record_of start (image_in stance new.build)) [])
      → ((w : Build) → StandsFor stance fresh.build w → image_in stance new.build ≡ world_image (setting_in fresh.build) (after_one (setting_in fresh.build) w start)) → IsTold setting (start ∷ []) (puts.payload ∷ [])
  told_here puts image =
      told_start setting script agents puts.payload (record_of start (image_in stance new.build)) mean puts.tells refl
      (subst (λ (s : Setting). image_in stance new.build ≡ world_image s (after_one s unbegun start)) same (image unbegun stands))

  stores_none : (image : List ℕ) → Has [] image → Stores setting [] image
  stores_none image has = record { payloads = []; has = has; told = told_none setting }

  module _ (taken : List Event) (risked : Option Event) (some : (image : List ℕ) → Stores setting [] image → Survives setting [] taken risked image) where
    before_start : AtEachMoment disk quiet.synced fresh.journal.disk (Survives setting [] taken risked)
    before_start = at_each_weaker disk quiet.synced fresh.journal.disk (λ image. records image ≡ records file) (Survives setting [] taken risked) (λ image is. some image (stores_none image (is ∙ none))) quiet.from_then

    with_start : ((image : List ℕ) → Stores setting (start ∷ []) image → Survives setting [] taken risked image) → (now : D) (p : List ℕ) → IsTold setting (start ∷ []) (p ∷ []) → AtEachMoment disk fresh.journal.disk now (HasWithOrWithout [] p) → SinceSync disk file state now (Survives setting [] taken risked)
    with_start all now p told moments = record {
      synced = quiet.synced;
      up_to = quiet.up_to;
      durable = quiet.durable;
      from_then = runs_on disk quiet.synced fresh.journal.disk now (Survives setting [] taken risked) before_start
          (at_each_weaker disk fresh.journal.disk now (HasWithOrWithout [] p) (Survives setting [] taken risked) (λ image has. either image has) moments);
    }
      where
        either : (image : List ℕ) → HasWithOrWithout [] p image → Survives setting [] taken risked image
        either image (inl has) = some image (stores_none image has)
        either image (inr has) = all image (record { payloads = p ∷ []; has = has; told = told })

    without_start : (now : State D) → now ≡ fresh.journal → SinceSync disk file state now.disk (Survives setting [] taken risked)
    without_start now is = subst (λ (j : State D). SinceSync disk file state j.disk (Survives setting [] taken risked)) (sym is) (record { synced = quiet.synced; up_to = quiet.up_to; durable = quiet.durable; from_then = before_start })

  pub begins_taken : (answer : Taken) → answer ≡ taken (standing_of fresh.build) start → setting_in new.build ≡ setting_in fresh.build → TakeLeaves stance fresh new start (Ok answer)
      → ((w : Build) → StandsFor stance fresh.build w → StandsFor stance new.build (after_one (setting_in fresh.build) w start)) → TakeKeeps disk stance fresh new start [] (Ok answer) → Begins disk stance setting start file state new
  begins_taken Accepted is here leaves goes a =
      let told = told_here a.puts a.image in
      let now : setting_in new.build ≡ setting = here ∙ same in
      record {
        fresh = unstarted;
        stands = record {
          goes = goes_begun stance setting script agents fresh new mean same stands here leaves.0 goes;
          saves = record { payloads = a.puts.payload ∷ []; keeps = a.keeps; told = subst (λ (s : Setting). IsTold s (start ∷ []) (a.puts.payload ∷ [])) (sym now) told };
        };
        moments = with_start (start ∷ []) None (λ image stores. record { kept = []; front = record { begins = ([], refl); within = inl (start ∷ [], refl) }; stores = stores })
            (λ image stores. survives_all setting [] (start ∷ []) None image (start ∷ [], refl) stores) new.journal.disk a.puts.payload told a.puts.moments;
      }
  begins_taken NotOpen is here leaves goes keeps = let bad : NotOpen ≡ Accepted = is ∙ starts_accepted in absurd (cc)
  begins_taken (WrongPlace kept) is here leaves goes keeps = let bad : WrongPlace kept ≡ Accepted = is ∙ starts_accepted in absurd (cc)
  begins_taken Finished is here leaves goes keeps = let bad : Finished ≡ Accepted = is ∙ starts_accepted in absurd (cc)

  unrisked : (f : TakeFault) → new.journal ≡ fresh.journal → MayRisk f (Some start) None → StartFails disk stance setting start file state new.journal.disk f
  unrisked f is may = record {
    fresh = unstarted;
    none = none;
    risked = None;
    may_risk = may;
    moments = without_start [] None (λ image stores. survives_all setting [] [] None image ([], refl) stores) new.journal is;
  }

  pub start_fails : (f : TakeFault) → fresh.stopped ≡ false → TakeAnswers stance fresh new start (Err f) → TakeLeaves stance fresh new start (Err f)
      → TakeKeeps disk stance fresh new start [] (Err f) → StartFails disk stance setting start file state new.journal.disk f
  start_fails Memory running answers leaves keeps = unrisked Memory leaves.1 refl
  start_fails (Full len add) running answers leaves keeps = unrisked (Full len add) leaves.1 refl
  start_fails Stopped running answers leaves keeps = let bad : false ≡ true = sym running ∙ answers in absurd (cc)
  start_fails Disk running answers leaves r = record {
    fresh = unstarted;
    none = none;
    risked = Some start;
    may_risk = refl;
    moments = with_start [] (Some start) (λ image stores. survives_all setting [] [] (Some start) image ([], refl) stores) (λ image stores. survives_risked setting [] [] start image ([], refl) stores) new.journal.disk r.puts.payload
        (told_here r.puts r.image) r.puts.moments;
  }

-- a build that has taken its `Start` alone
pub is_begun : {D T : Type 0} (stance : T → Stance) (setting : Setting) (script agents : List ℕ) (fresh new : Kept D T) → Mean script agents setting → setting_in fresh.build ≡ setting → StandsFor stance fresh.build unbegun → fresh.records ≡ 0
    → (answer : Taken) → answer ≡ taken (standing_of fresh.build) (event.Start script agents) → setting_in new.build ≡ setting_in fresh.build → TakeLeaves stance fresh new (event.Start script agents) (Ok answer)
    → TakeSources fresh new (event.Start script agents) (Ok answer) → ((w : Build) → StandsFor stance fresh.build w → StandsFor stance new.build (after_one (setting_in fresh.build) w (event.Start script agents)))
    → IsBegun stance setting script agents new
is_begun stance setting script agents fresh new mean same stands none answer is here leaves sources goes = by_answer answer (is ∙ ap (λ (b : Standing). taken b (event.Start script agents)) (same_standing stance fresh.build unbegun stands)) leaves sources
  where
    by_answer : (a : Taken) → a ≡ Accepted → TakeLeaves stance fresh new (event.Start script agents) (Ok a) → TakeSources fresh new (event.Start script agents) (Ok a) → IsBegun stance setting script agents new
    by_answer Accepted at left kept = record { goes = goes_begun stance setting script agents fresh new mean same stands here left.0 goes; counted = left.2.records ∙ ap (λ (n : ℕ). n + 1) none; has_script = kept.0; has_agents = kept.1 }
    by_answer NotOpen at left kept = absurd (cc)
    by_answer (WrongPlace place) at left kept = absurd (cc)
    by_answer Finished at left kept = absurd (cc)

-- the fault of a `Start`, in a journal without a record
pub start_faults : {D T : Type 0} (stance : T → Stance) (setting : Setting) (old new : Kept D T) (e : Event) (f : TakeFault) → setting_in old.build ≡ setting → StandsFor stance old.build unbegun → old.stopped ≡ false → old.journal.len ≡ 1 → old.weights ≡ weights_of []
    → TakeAnswers stance old new e (Err f) → IsSized stance old new e (Err f) → StartFaults setting e f
start_faults stance setting old new e Memory same stands running len weighs answers size = tt
start_faults stance setting old new e Disk same stands running len weighs answers size = tt
start_faults stance setting old new e (Full at add) same stands running len weighs answers size =
    let image : image_in stance new.build ≡ image_after setting (e ∷ []) =
    subst (λ (s : Setting). image_in stance new.build ≡ world_image s (after_one s unbegun e)) same (size.0 unbegun stands) in
    (answers.2 ∙ len, answers.3, due_adds old.weights (weights_of []) (image_before stance old.build) None (image_in stance new.build) (image_after setting (e ∷ [])) e add weighs (size.1 unbegun stands) image answers.4)
start_faults stance setting old new e Stopped same stands running len weighs answers size = let bad : false ≡ true = sym running ∙ answers in absurd (cc)

-- the take of a `Start` failed
pub start_refused : {D : Type 0} (disk : DiskView D) {T : Type 0} (stance : T → Stance) (setting : Setting) (start : Event) (file : List ℕ) (state now : D) (f : TakeFault)
    → StartFaults setting start f → StartFails disk stance setting start file state now f → BeginRefuses disk stance setting start file state (Take f) now
start_refused disk stance setting start file state now Memory faults fails = (faults, inr (inr fails))
start_refused disk stance setting start file state now Disk faults fails = (faults, inr (inr fails))
start_refused disk stance setting start file state now (Full at add) faults fails = (faults, fails)
start_refused disk stance setting start file state now Stopped faults fails = (faults, inr (inr fails))

-- what a crash leaves where a journal was not made
pub since_started : {A B : Type 0} (f : CreateFault) → f ≡ HasRecord → A ⊎ ((f ≡ CreateDisk) × B) → A
since_started f is (inl since) = since
since_started f is (inr failed) = let bad : HasRecord ≡ CreateDisk = sym is ∙ failed.0 in absurd (cc)

pub since_either : {A B C E : Type 0} → A ⊎ (E × B) → B ⊎ (A ⊎ C)
since_either (inl since) = inr (inl since)
since_either (inr failed) = inl failed.1

-- a record that starts a build starts it in the setting that its script and agents file mean
same_setting : (s t : Setting) (script agents p : List ℕ) (r : EventRecord) → Opening s script agents p → record_at None p ≡ Some r → Starts t r.event → t ≡ s
same_setting s t script agents p r o tells starts =
    let same : o.first ≡ r = one_record None o.first r p o.tells tells in
    one_setting t s script agents (subst (Starts t) (ap (λ (x : EventRecord). x.event) (sym same) ∙ o.starts) starts) o.mean

same_payloads : (ps qs : List (List ℕ)) (file : List ℕ) → Has ps file → Has qs file → ps ≡ qs
same_payloads ps qs file a b = ap (λ (w : Walked). w.payloads) (sym a ∙ b)

nothing : 0 < 0 → ⊥
nothing lt = omega (arith, lt)

-- a store that was opened, and is that of these events
pub reopened : {D T : Type 0} (disk : DiskView D) (stance : T → Stance) (setting : Setting) (events : List Event) (file : List ℕ) (k : Kept D T)
    → Opened disk stance file k → k.stopped ≡ false → Stores setting events file → Stands disk stance setting events k
reopened {D} {T} disk stance setting events file k o running stores =
    one o.payloads stores.told.records o.some o.keeps (subst (Told None stores.told.records) (same_payloads stores.payloads o.payloads file stores.has o.has) stores.told.spelled) stores.told.story stores.told.due stores.told.are
  where
    one : (ps : List (List ℕ)) (rs : List EventRecord) → 0 < length ps → Keeps disk stance k ps → Told None rs ps → IsStory world_image setting rs → AllDue setting unbegun rs → events_of rs ≡ events
        → Stands disk stance setting events k
    one [] rs some keeps spelled story due are = absurd (nothing some)
    one (p ∷ ps) [] some keeps spelled story due are = absurd spelled
    one (p ∷ ps) (r ∷ rs) some keeps spelled story due are =
        let o = keeps.stands.1 in
        let same : setting ≡ setting_in k.build = same_setting (setting_in k.build) setting k.script k.agents p r o spelled.0 story.starts in
        let saves : Saves disk stance k events = record { payloads = p ∷ ps; keeps = keeps; told = subst (λ (s : Setting). IsTold s events (p ∷ ps)) same (record { records = r ∷ rs; spelled = spelled; story = story; due = due; are = are }) } in
        record {
          goes = record {
            same = sym same;
            proper = subst IsProper (sym same) (mean_proper k.script k.agents (setting_in k.build) o.mean);
            begun = subst (λ (es : List Event). (world_in setting es).started ≡ true) are (begun_all setting (r.event ∷ []) (events_of rs) (starts_first setting r.event (is_start setting r.event story.starts)));
            running = running;
            stands = saves_world disk stance setting events k (sym same) saves;
          };
          saves = saves;
        }

-- what opening a store answers, by what the build over the disk answers
module _ {D T : Type 0} (disk : DiskView D) (stance : T → Stance) (file : List ℕ) where
  pub reopens : (r : Result (Kept D T) (StoreFault × D)) → MatchResult r (λ k. Opened disk stance file k × (disk.reads k.journal.disk ≡ Some file)) (λ e. OpenFails file e.0 × (disk.reads e.1 ≡ Some file))
      → IfOk r (λ k. k.stopped ≡ false)
      → MatchResult r (λ k. (disk.reads k.journal.disk ≡ Some file) × ((setting : Setting) (events : List Event) → Stores setting events file → Stands disk stance setting events k)) (λ e. OpenFails file e.0 × (disk.reads e.1 ≡ Some file))
  reopens (Ok k) opened running = (opened.1, λ setting events stores. reopened disk stance setting events file k opened.0 running stores)
  reopens (Err e) opened running = opened

  pub opens_so : (r : Result (Kept D T) (StoreFault × D)) → MatchResult r (λ k. Opened disk stance file k × (disk.reads k.journal.disk ≡ Some file)) (λ e. OpenFails file e.0 × (disk.reads e.1 ≡ Some file)) → IfOk r (Opened disk stance file)
  opens_so (Ok k) opened = opened.0
  opens_so (Err e) opened = tt
