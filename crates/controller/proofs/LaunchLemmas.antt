-- The part of a call's contract on launches, from what its command does.
use Rattle.std.proofs.Common.{◌≡◌, ◌⊎◌, ◌≤◌, ◌∙◌, ℕ, Bool, true, false, List, [], ◌∷◌, ◌++◌, length, Option, Some, None, inl, inr, refl, sym, ap, subst, ⊎_elim, arith, if◌then◌else◌}
use Rattle.std.specs.Prelude.{nat_eq, nat_lt, ◌==◌, is_some, IfSome, IsSome, IsSomeAnd}
use Rattle.std.specs.List.{AllByRecursion as AllAre, IsDistinct, IsDistinct-prop}
use Rattle.std.proofs.Math.Logic.{∥∥₁_elim, ∥∥₁_map, ∥∥₁_prop}
use Rattle.jp_disk.specs.Runs.{AtEachMoment}
use Rattle.jp_disk.proofs.MomentLemmas.{if_told}
use Rattle.journal_core.specs.Answers.{IsStarted}
use Rattle.journal_core.specs.Records.{Has, Walked, records}
use Rattle.launch_laws.specs.Fitting.{AllFit, ExecutorHost, all_launches}
use Rattle.launch_laws.proofs.HostLaws.{fit_each, numbered_apart}
use Rattle.launch_laws.proofs.LifeLaws.{none_yet}
use Rattle.model_syntax.specs.declared.tree.Tree.{Tree}
use Rattle.journal_core.specs.declared.faults.TakeFault.TheVariants as take
use Rattle.model_run.specs.declared.event.Event.TheVariants.{Start as StartEvent}
use Rattle.model_run.specs.declared.site.Site.{Site}
use Rattle.build_commands.specs.Lower.durable_build.Settings.{IsProper, script_setting}
use Rattle.build_commands.specs.Lower.build_store.declared.beginning.BeginFault.{BeginFault}
use Rattle.build_commands.specs.Lower.build_store.declared.beginning.BeginFault.TheVariants as fault
use Rattle.build_commands.specs.Lower.build_store.Lives.{BeginRefuses}
use Rattle.build_commands.specs.Files.{Builds}
use Rattle.build_commands.specs.declared.end_text.EndText.{EndText}
use Rattle.build_commands.specs.declared.end_text.EndText.TheVariants as end
use Rattle.build_commands.specs.Beginning as begin
use Rattle.build_commands.specs.Resuming.{Reopens, Resumes}
use Rattle.build_commands.specs.Resuming as resume
use Rattle.controller.specs.Commands.{ResumesBy, RunsBy}
use Rattle.controller.proofs.CallLemmas.{FinishedIn, mean_of}
use Rattle.controller.proofs.LifeLemmas.{gone}
use Rattle.controller.proofs.RunLemmas.{begin_disk, unbegun_image}
use Rattle.controller.proofs.SeatLemmas.{led_fit, led_once}
use Rattle.model_run.specs.AgentsFile.{agents_file, Means}
use Rattle.model_run.specs.declared.event.Event.{Event}
use Rattle.model_run.specs.State.{Setting}
use Rattle.model_run.specs.World.{world_in}
use Rattle.settle_laws.specs.Stances.{Stance}
use Rattle.build_commands.specs.Lower.build_store.Saved.{Stores}
use Rattle.build_commands.proofs.Lower.build_store.BeginLemmas.{mean_proper}
use Rattle.build_commands.proofs.Lower.build_life.ManyLemmas.{HasNow, all_once}
use Rattle.build_commands.specs.Finishing.{ComesNext}
use Rattle.build_commands.specs.Launching.{LaunchedOnce}
use Rattle.build_commands.specs.Living.{HostsStay}
use Rattle.build_commands.proofs.LaunchLemmas as since
use Rattle.build_commands.proofs.LivingLemmas.{stay_same}
use Rattle.controller.specs.Call.{Call, ComesIn, Devices, Finds, IsUnled, LifeIn, made}
use Rattle.controller.specs.Launches.{FitLeft, Launches, executor_hosts, tasks_on}
use Rattle.controller.proofs.SiteLemmas.{Consecutive, site_seated, store_begun}
use Rattle.jp_disk.specs.View.{DiskLaws}

-- a file that has not the beginning of a record has none
unstarted : (file : List ℕ) → ¬ (IsStarted file) → Has [] file
unstarted [] none = refl
unstarted (gate ∷ rest) none = of (nat_lt (length (gate ∷ rest)) 6) (gate == 1) _ (λ long is_open. none (opened is_open, grown long))
  where
    of : (short is_open : Bool) (more : Walked) → (short ≡ false → is_open ≡ true → ⊥)
        → (if short then record { payloads = []; is_whole = true } else (if is_open then more else record { payloads = []; is_whole = true })) ≡ record { payloads = []; is_whole = true }
    of true is_open more never = refl
    of false true more never = absurd (never refl refl)
    of false false more never = refl

    opened : (gate == 1) ≡ true → gate ≡ 1
    opened is = grind (arith, is)

    grown : nat_lt (length (gate ∷ rest)) 6 ≡ false → 6 ≤ length (gate ∷ rest)
    grown is = grind (arith, is)

-- a store without a record has no events
none_stored : (setting : Setting) (file : List ℕ) → Has [] file → Stores setting [] file
none_stored setting file has = record {
  payloads = [];
  has = has;
  told = record { records = []; spelled = tt; story = record { starts = tt; follows = tt }; due = tt; are = refl };
}

-- a store with the same records tells the same
same_records : (setting : Setting) (events : List Event) (file other : List ℕ) → records file ≡ records other → Stores setting events file → Stores setting events other
same_records setting events file other same stores = record { payloads = stores.payloads; has = sym same ∙ stores.has; told = stores.told }

-- hosts that fit no events have launched nothing
none_launched : (setting : Setting) (hosts : List ExecutorHost) → AllFit setting [] hosts → all_launches hosts ≡ []
none_launched setting [] fit = refl
none_launched setting (host ∷ hosts) fit = ap (λ (l : List ℕ). l ++ all_launches hosts) (none_yet setting host.number host.tasks fit.0) ∙ none_launched setting hosts fit.1

module _ {D H A T : Type 0} (v : Devices D H A) (stance : T → Stance) (laws : DiskLaws v.disk) (c : Call D H A) where
  abbrev AllFitBy : Setting → List Event → List H → Type 0
  AllFitBy setting events hosts = AllFit setting events (executor_hosts v hosts)

  -- at the beginning, they fit what the disk tells
  pub entry_fit : (setting : Setting) (events : List Event) → Finds v setting events c → FitLeft v c.disk c.hosts → ∥ AllFitBy setting events c.hosts ∥₁
  entry_fit setting events finds left = left finds.file (if_told (λ f. v.disk.may_leave c.disk f) finds.told (laws.told_image c.disk)) setting events finds.stores

  -- and no task was launched twice
  fit_once : (setting : Setting) (file : List ℕ) (events : List Event) → Stores setting events file → AllFitBy setting events c.hosts → IsDistinct nat_eq (all_launches (executor_hosts v c.hosts))
  unfolding IsDistinct
  fit_once setting file [] stores fit = subst (IsDistinct nat_eq) (sym (none_launched setting (executor_hosts v c.hosts) fit)) tt
  fit_once setting file (e ∷ es) stores fit =
      let begun = store_begun setting (e ∷ es) file stores (λ none. let bad : e ∷ es ≡ [] = none in cc) in
      let proper = mean_proper begun.script begun.agents setting begun.mean in
      all_once stance setting proper (e ∷ es) (executor_hosts v c.hosts) fit (numbered_apart 0 (tasks_on v c.hosts))

  entry_once : (setting : Setting) (events : List Event) → Finds v setting events c → FitLeft v c.disk c.hosts → IsDistinct nat_eq (all_launches (executor_hosts v c.hosts))
  entry_once setting events finds left = ∥∥₁_elim (entry_fit setting events finds left) (IsDistinct-prop nat_eq (all_launches (executor_hosts v c.hosts))) (fit_once setting finds.file events finds.stores)

  -- Where no life was led the hosts are as they were, and fit each image that tells no more than one from before.
  abbrev LeavesFit : Type 0
  LeavesFit = (setting : Setting) (events : List Event) → Finds v setting events c → FitLeft v c.disk c.hosts → FitLeft v c.now c.hosts

  unled_so : (hosts_now : List H) → hosts_now ≡ c.hosts → LeavesFit → HostsStay v.host c.hosts hosts_now
      × ((setting : Setting) (events : List Event) → Finds v setting events c → AllAre v.host.honest c.hosts → FitLeft v c.disk c.hosts → FitLeft v c.now hosts_now)
      × ((setting : Setting) (events : List Event) → Finds v setting events c → AllAre v.host.honest c.hosts → FitLeft v c.disk c.hosts → IsDistinct nat_eq (all_launches (executor_hosts v hosts_now)))
  unled_so hosts_now same leaves = (
    subst (λ (hs : List H). HostsStay v.host c.hosts hs) (sym same) (stay_same v.host v.source c.hosts),
    λ setting events finds are left. subst (λ (hs : List H). FitLeft v c.now hs) (sym same) (leaves setting events finds left),
    λ setting events finds are left. subst (λ (hs : List H). IsDistinct nat_eq (all_launches (executor_hosts v hs))) (sym same) (entry_once setting events finds left),
  )

  pub unled_launched : IsUnled c → LaunchedOnce v.host c.hosts c.hosts_now
  unled_launched same = subst (λ (hs : List H). LaunchedOnce v.host c.hosts hs) (sym same.0) (since.none_launched v.host c.hosts)

  enough : length c.hosts ≡ 64 → (agents : List ℕ) (site : Site) → agents_file agents ≡ Means site → length site.executors ≤ length c.hosts
  enough many agents site means = subst (λ (n : ℕ). length site.executors ≤ n) (sym many) (site_seated agents site means).few

  unled : length c.hosts ≡ 64 → IsUnled c → LeavesFit → Launches v c
  unled many same leaves = let so = unled_so c.hosts_now same.0 leaves in record { enough = enough many; stay = so.0; led = inl same; launched = unled_launched same; fit = so.1; once = so.2 }

  -- the disk was not called
  pub same_disk : c.now ≡ c.disk → LeavesFit
  same_disk same setting events finds left = subst (λ (d : D). FitLeft v d c.hosts) (sym same) left

  -- a crash leaves nothing new
  pub nothing_new : ((image : List ℕ) → v.disk.may_leave c.now image → v.disk.may_leave c.disk image) → LeavesFit
  nothing_new old setting events finds left image leaves s es stores = left image (old image leaves) s es stores

  -- a store with the records of the file that was found is fitted as that is
  pub fit_records : (setting : Setting) (events : List Event) → Finds v setting events c → FitLeft v c.disk c.hosts → (file image : List ℕ) → v.disk.reads c.disk ≡ Some file → records image ≡ records file
      → (s : Setting) (es : List Event) → Stores s es image → ∥ AllFitBy s es c.hosts ∥₁
  fit_records setting events finds left file image told same s es stores = left file (if_told (λ f. v.disk.may_leave c.disk f) told (laws.told_image c.disk)) s es (same_records s es image file same stores)

  -- over a file without a record nothing was launched
  pub fit_fresh : FitLeft v c.disk c.hosts → (file : List ℕ) → v.disk.reads c.disk ≡ Some file → Has [] file → (setting s : Setting) (es : List Event) → ∥ AllFitBy s es c.hosts ∥₁
  fit_fresh left file told none setting s es =
      ∥∥₁_map (left file (if_told (λ f. v.disk.may_leave c.disk f) told (laws.told_image c.disk)) setting [] (none_stored setting file none)) (λ fit. fit_each setting (executor_hosts v c.hosts) fit s es)

-- events behind those of a build that has begun are some
none_first : (es fs : List Event) → es ++ fs ≡ [] → es ≡ []
none_first [] fs is = refl
none_first (e ∷ es) fs is = absurd (cc)

some_taken : (setting : Setting) (before taken more : List Event) → (world_in setting before).started ≡ true → taken ≡ before ++ more → ¬ (taken ≡ [])
some_taken setting before taken more begun is none =
    let bad : false ≡ true = subst (λ (es : List Event). (world_in setting es).started ≡ true) (none_first before more (sym is ∙ none)) begun in absurd (cc)

-- what a crash leaves behind a life
left_now : (Comes : List Event → Event → Type 0) (setting : Setting) (taken : List Event) (image : List ℕ) (risked : Option Event) → IfSome risked (ComesNext Comes setting taken)
    → Stores setting taken image ⊎ IsSomeAnd risked (λ e. Stores setting (taken ++ e ∷ []) image) → HasNow setting taken image
left_now Comes setting taken image risked next (inl has) = inl has
left_now Comes setting taken image None next (inr none) = absurd none
left_now Comes setting taken image (Some e) next (inr has) = inr (e, next.is_next.accepted, has)

module _ {D H A T : Type 0} (v : Devices D H A) (stance : T → Stance) (laws : DiskLaws v.disk) (c : Call D H A) (many : length c.hosts ≡ 64) where
  unled_here : IsUnled c → LeavesFit v stance laws c → Launches v c
  unled_here = unled v stance laws c many

  -- a crash leaves what it might have left at the beginning
  stays : AtEachMoment v.disk c.disk c.now (v.disk.may_leave c.disk) → LeavesFit v stance laws c
  stays moments = nothing_new v stance laws c (λ image left. moments.each image (laws.counts_now c.now (v.disk.clock c.disk) image moments.later left))

  -- a life that finished, of a build whose setting this is
  module _ (kind : EndText) (setting : Setting) (proper : IsProper setting) (all : Consecutive 0 setting.site.executors) (origin : D) (before : List Event) (same : v.disk.faults origin ≡ v.disk.faults c.disk) where
    finished_fit : FinishedIn v c kind setting origin before c.status → IsSome (v.disk.reads c.disk) → AllAre v.host.honest c.hosts → AllFit setting before (executor_hosts v c.hosts) → (image : List ℕ) → v.disk.may_leave c.now image
        → (s : Setting) (es : List Event) → Stores s es image → AllFit s es (executor_hosts v c.hosts_now)
    finished_fit f known are fit image left s es stores =
        let g = gone v laws kind setting origin before c same f in
        led_fit v stance c setting proper all before g.taken g.takes (some_taken setting before g.taken g.more g.takes.goes.begun g.is) are fit image
        (left_now (ComesIn v setting c g.takes.life) setting g.taken image g.risked g.next (g.images known image left)) s es stores

    finished_once : FinishedIn v c kind setting origin before c.status → AllAre v.host.honest c.hosts → AllFit setting before (executor_hosts v c.hosts) → IsDistinct nat_eq (all_launches (executor_hosts v c.hosts_now))
    finished_once f are fit = let g = gone v laws kind setting origin before c same f in led_once v stance c setting proper all before g.taken g.takes are fit

    life_fits : ∥ FinishedIn v c kind setting origin before c.status ∥₁ → IsSome (v.disk.reads c.disk) → AllAre v.host.honest c.hosts → ∥ AllFit setting before (executor_hosts v c.hosts) ∥₁ → FitLeft v c.now c.hosts_now
    life_fits finishes known are fits image left s es stores = ∥∥₁_elim finishes ∥∥₁_prop (λ f. ∥∥₁_map fits (λ fit. finished_fit f known are fit image left s es stores))

    life_once : ∥ FinishedIn v c kind setting origin before c.status ∥₁ → AllAre v.host.honest c.hosts → ∥ AllFit setting before (executor_hosts v c.hosts) ∥₁ → IsDistinct nat_eq (all_launches (executor_hosts v c.hosts_now))
    life_once finishes are fits =
        let prop = IsDistinct-prop nat_eq (all_launches (executor_hosts v c.hosts_now)) in
        ∥∥₁_elim finishes prop (λ f. ∥∥₁_elim fits prop (λ fit. finished_once f are fit))

  -- `run`: no build was begun, or one was over a file without a record, and then no host had launched a task
  unbegun_leaves : (s a : List ℕ) (tree : Tree) (site : Site) → Builds s a tree site → (f : BeginFault) → (f ≡ fault.Take take.Disk → c.status ≡ 5)
      → ((file : List ℕ) → v.disk.reads c.disk ≡ Some file → BeginRefuses v.disk stance (script_setting tree site) (StartEvent s a) file c.disk f c.now) → LeavesFit v stance laws c
  unbegun_leaves s a tree site builds f five refuses setting events finds left image leaves t es stores =
      ⊎_elim (λ old. left image old t es stores)
      (⊎_elim (λ kept. fit_records v stance laws c setting events finds left finds.file image finds.told kept t es stores) (λ start. fit_fresh v stance laws c left finds.file finds.told start.1 setting t es))
      (unbegun_image v stance laws end.Log c s a tree site builds finds.file f image five (refuses finds.file finds.told) leaves)

  begun_launches : (kind : EndText) (s a : List ℕ) (tree : Tree) (site : Site) → Builds s a tree site → (started : D) → v.disk.faults started ≡ v.disk.faults c.disk → HostsStay v.host c.hosts c.hosts_now → LaunchedOnce v.host c.hosts c.hosts_now
      → ∥ FinishedIn v c kind (script_setting tree site) started (StartEvent s a ∷ []) c.status ∥₁ → ((file : List ℕ) → v.disk.reads c.disk ≡ Some file → ¬ (IsStarted file)) → Launches v c
  begun_launches kind s a tree site builds started same stay launched finishes fresh =
      let setting = script_setting tree site in
      let proper = mean_proper s a setting (mean_of builds) in
      let all = (site_seated a site builds.means).consecutive in
      let first = StartEvent s a ∷ [] in
      let fits = λ (t : Setting) (es : List Event) (finds : Finds v t es c) (left : FitLeft v c.disk c.hosts). fit_fresh v stance laws c left finds.file finds.told (unstarted finds.file (fresh finds.file finds.told)) setting setting first in
      record {
        enough = enough v stance laws c many;
        stay = stay;
        led = inr (∥∥₁_map finishes (λ f. (setting, f.lived)));
        launched = launched;
        fit = λ t es finds are left. life_fits kind setting proper all started first same finishes (ap is_some finds.told) are (fits t es finds left);
        once = λ t es finds are left. life_once kind setting proper all started first same finishes are (fits t es finds left);
      }

  run_by : (kind : EndText) {n : ℕ} → RunsBy v stance kind c n → n ≡ c.status → Launches v c
  run_by kind (begin.refused refused same unled tells) is = unled_here unled (same_disk v stance laws c same)
  run_by kind (begin.built {s = s} {a = a} {tree = tree} {site = site} give (begin.unbegun {fault = f} unled says counts sizes refuses tells)) is =
      unled_here unled (unbegun_leaves s a tree site give.builds f (λ disk. sym is ∙ begin_disk says disk) refuses)
  run_by kind (begin.built {s = s} {a = a} {tree = tree} {site = site} give (begin.begun started same stay launched reports finishes over)) is =
      begun_launches kind s a tree site give.builds started same stay launched (subst (λ (m : ℕ). ∥ FinishedIn v c kind (script_setting tree site) started (StartEvent s a ∷ []) m ∥₁) is finishes) (λ file told. (over file told).fresh)

  pub run_launches : (kind : EndText) → RunsBy v stance kind c c.status → Launches v c
  run_launches kind runs = run_by kind runs refl

  -- `resume`
  abbrev ResumesSo : Setting → List Event → ℕ → Type 0
  ResumesSo setting events n = Resumes v.disk v.host v.source c.hosts c.hosts_now c.answers c.answers_now c.history
      setting events c.disk c.now c.old c.new c.sink_before c.sink_after n

  reopens_stay : {n : ℕ} → Reopens v.disk v.host v.source c.hosts c.hosts_now c.answers c.answers_now c.history
      c.disk c.now c.old c.new c.sink_before c.sink_after n → HostsStay v.host c.hosts c.hosts_now
  reopens_stay (resume.unopened unled same why tells) = subst (λ (hs : List H). HostsStay v.host c.hosts hs) (sym unled.0) (stay_same v.host v.source c.hosts)
  reopens_stay (resume.goes_on setting led stay launched has store reports) = stay

  reopens_led : {n : ℕ} → Reopens v.disk v.host v.source c.hosts c.hosts_now c.answers c.answers_now c.history
      c.disk c.now c.old c.new c.sink_before c.sink_after n → IsUnled c ⊎ ∥ ((setting : Setting) × LifeIn v setting c) ∥₁
  reopens_led (resume.unopened unled same why tells) = inl unled
  reopens_led (resume.goes_on setting led stay launched has store reports) = inr ∣ (setting, led.lived) ∣₁

  reopens_launched : {n : ℕ} → Reopens v.disk v.host v.source c.hosts c.hosts_now c.answers c.answers_now c.history
      c.disk c.now c.old c.new c.sink_before c.sink_after n → LaunchedOnce v.host c.hosts c.hosts_now
  reopens_launched (resume.unopened unled same why tells) = unled_launched v stance laws c unled
  reopens_launched (resume.goes_on setting led stay launched has store reports) = launched

  -- a store's setting is that of a script, with executors numbered one after the other
  went_fits : (setting : Setting) (events : List Event) → Finds v setting events c → (opened : D) → v.disk.faults opened ≡ v.disk.faults c.disk → ∥ FinishedIn v c end.Log setting opened events c.status ∥₁ → AllAre v.host.honest c.hosts → FitLeft v c.disk c.hosts
      → FitLeft v c.now c.hosts_now × IsDistinct nat_eq (all_launches (executor_hosts v c.hosts_now))
  went_fits setting [] finds opened same finishes are left =
      let never = λ (f : FinishedIn v c end.Log setting opened [] c.status). let g = gone v laws end.Log setting opened [] c same f in let bad : false ≡ true = g.takes.goes.begun in bad in (
        λ image leaves t es stores. ∥∥₁_elim finishes ∥∥₁_prop (λ f. let bad : false ≡ true = never f in absurd (cc)),
        ∥∥₁_elim finishes (IsDistinct-prop nat_eq (all_launches (executor_hosts v c.hosts_now))) (λ f. let bad : false ≡ true = never f in absurd (cc)),
      )
  went_fits setting (e ∷ es) finds opened same finishes are left =
      let begun = store_begun setting (e ∷ es) finds.file finds.stores (λ none. let bad : e ∷ es ≡ [] = none in cc) in
      let proper = mean_proper begun.script begun.agents setting begun.mean in
      let all = (site_seated begun.agents setting.site begun.mean.means).consecutive in
      let fits = entry_fit v stance laws c setting (e ∷ es) finds left in
      (life_fits end.Log setting proper all opened (e ∷ es) same finishes (ap is_some finds.told) are fits, life_once end.Log setting proper all opened (e ∷ es) same finishes are fits)

  resume_fits : {n : ℕ} (setting : Setting) (events : List Event) → Finds v setting events c → ResumesSo setting events n → n ≡ c.status → AllAre v.host.honest c.hosts → FitLeft v c.disk c.hosts
      → FitLeft v c.now c.hosts_now × IsDistinct nat_eq (all_launches (executor_hosts v c.hosts_now))
  resume_fits setting events finds (resume.refused unled same why tells) is are left =
      let so = unled_so v stance laws c c.hosts_now unled.0 (stays same.moments) in (so.1 setting events finds are left, so.2 setting events finds are left)
  resume_fits setting events finds (resume.went_on opened up_to same reports finishes) is are left =
      went_fits setting events finds opened same (subst (λ (m : ℕ). ∥ FinishedIn v c end.Log setting opened events m ∥₁) is finishes) are left

  pub resume_launches : ResumesBy v c → Launches v c
  resume_launches by = record {
    enough = enough v stance laws c many;
    stay = reopens_stay by.reopens;
    led = reopens_led by.reopens;
    launched = reopens_launched by.reopens;
    fit = λ setting events finds are left. (resume_fits setting events finds (by.resumes finds.file finds.told setting events finds.stores) refl are left).0;
    once = λ setting events finds are left. (resume_fits setting events finds (by.resumes finds.file finds.told setting events finds.stores) refl are left).1;
  }

  -- the other commands
  pub show_launches : IsUnled c → AtEachMoment v.disk c.disk c.now (v.disk.may_leave c.disk) → Launches v c
  show_launches unled moments = unled_here unled (stays moments)

  pub same_launches : IsUnled c → c.now ≡ c.disk → Launches v c
  same_launches unled same = unled_here unled (same_disk v stance laws c same)

-- What is promised of the launches of a call on files that were made is promised of the call: the sources of the two files have no part in it.
pub made_launches : {D H A : Type 0} (v : Devices D H A) (stages : ℕ) (c : Call D H A) → Launches v (made stages c) → Launches v c
made_launches v stages c l = record {
  enough = l.enough;
  stay = l.stay;
  led = l.led;
  launched = l.launched;
  fit = λ setting events finds are left. l.fit setting events (record { file = finds.file; told = finds.told; stores = finds.stores }) are left;
  once = λ setting events finds are left. l.once setting events (record { file = finds.file; told = finds.told; stores = finds.stores }) are left;
}
