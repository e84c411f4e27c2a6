-- Hosts that fit the events of a build fit those of each image that a crash may leave behind a life, and behind any number of lives.
use Rattle.std.proofs.Common.{◌≡◌, ◌⊎◌, ◌∙◌, inl, inr, ℕ, ℤ, true, false, List, [], ◌∷◌, ◌++◌, Option, Some, None, Result, Ok, Err, refl, sym, subst}
use Rattle.std.specs.Prelude.{IsSome, IsSomeAnd, nat_eq}
use Rattle.std.specs.List.{IsDistinct}
use Rattle.task_host.specs.declared.call.Call.{Call}
use Rattle.task_host.specs.declared.order.Stream.{Stream}
use Rattle.journal_core.proofs.StepLemmas.{stores_has}
use Rattle.journal_core.specs.declared.faults.TakeFault.{TakeFault}
use Rattle.journal_core.specs.declared.faults.TakeFault.TheVariants.{Memory, Disk, Full, Stopped}
use Rattle.agent_worker.specs.declared.member.Member.{Member}
use Rattle.agent_worker.specs.declared.member.Member.TheVariants.{Executor, Operator}
use Rattle.build_store.specs.Lower.durable_build.Standing.{Kept}
use Rattle.launch_laws.specs.Fitting as fitting
use Rattle.launch_laws.specs.Fitting.{ExecutorHost}
use Rattle.launch_laws.proofs.LifeLaws.{no_task_twice}
use Rattle.model_syntax.specs.TreeNodes.{tree_node}
use Rattle.model_run.specs.declared.event.Event.{Event}
use Rattle.model_run.specs.declared.taken.Taken.TheVariants.{Accepted}
use Rattle.model_run.specs.State.{Setting}
use Rattle.model_run.specs.World.{answer_to, world_in}
use Rattle.build_life.specs.declared.resting.Rest.{Rest}
use Rattle.build_store.specs.Lower.durable_build.Settings.{IsProper}
use Rattle.settle_laws.specs.Stances.{Stance}
use Rattle.build_store.specs.Lives.{Fails, IsOf, Lasts, MayRisk}
use Rattle.build_store.specs.Saved.{IsTold, Stores}
use Rattle.member_turns.specs.Lower.locked_build.declared.ask.Entry.{Entry}
use Rattle.member_turns.specs.Lower.locked_build.Histories.{tooks}
use Rattle.member_turns.specs.Turns.{Turn}
use Rattle.build_life.specs.Lives.{Ends, EndsBehind, OpeningBreaks}
use Rattle.build_life.specs.ManyLives.{Lives, OneLife, led, more, one, refused}
use Rattle.build_life.specs.Serving.{AllFit, AreHonest, AreServed, hosts_of}
use Rattle.build_life.proofs.FactLemmas.{none_first}
use Rattle.build_life.proofs.OneStore.{one_store}
use Rattle.build_life.proofs.WalkLemmas.{of_tree, small}
use Rattle.jp_disk.specs.View.{DiskView}
use Rattle.task_host.specs.View.{HostView}
use Rattle.jp_io.specs.View.{SourceView}

-- a build that has begun has taken an event
begun_some : (s : Setting) (es : List Event) → (world_in s es).started ≡ true → ¬ (es ≡ [])
begun_some s es begun none = let bad : false ≡ true = subst (λ (l : List Event). (world_in s l).started ≡ true) none begun in absurd (cc)

none_last : (es : List Event) (e : Event) → es ++ e ∷ [] ≡ [] → ⊥
none_last [] e is = cc
none_last (x ∷ xs) e is = cc

-- the event that may be on the disk is one that was accepted
risked_accepted : (setting : Setting) (now : List Event) (fault : TakeFault) (event risked : Option Event) → IsOf setting now fault event → MayRisk fault event risked → (P : Event → Type 0) → IsSomeAnd risked P
    → (e : Event) × (answer_to setting (world_in setting now) e ≡ Accepted) × P e
risked_accepted setting now Memory event risked of may P is = absurd (subst (λ (o : Option Event). IsSomeAnd o P) may is)
risked_accepted setting now (Full len add) event risked of may P is = absurd (subst (λ (o : Option Event). IsSomeAnd o P) may is)
risked_accepted setting now Stopped event risked of may P is = absurd (subst (λ (o : Option Event). IsSomeAnd o P) may is)
risked_accepted setting now Disk None risked of may P is = absurd of
risked_accepted setting now Disk (Some e) risked of may P is = (e, of.accepted, subst (λ (o : Option Event). IsSomeAnd o P) may is)

-- What a store has behind these events: them, or them and one more that is accepted.
abbrev pub HasNow : Setting → List Event → List ℕ → Type 0
HasNow setting now image = Stores setting now image ⊎ ((e : Event) × (answer_to setting (world_in setting now) e ≡ Accepted) × Stores setting (now ++ e ∷ []) image)

-- Hosts that fit them, with one more or without, fit whichever events the store has.
pub has_fits : (setting : Setting) (now : List Event) (image : List ℕ) (hosts : List ExecutorHost) → ¬ (now ≡ []) → HasNow setting now image → fitting.AllFit setting now hosts
    → ((e : Event) → answer_to setting (world_in setting now) e ≡ Accepted → fitting.AllFit setting (now ++ e ∷ []) hosts)
    → (s : Setting) (es : List Event) → Stores s es image → fitting.AllFit s es hosts
has_fits setting now image hosts some (inl has) fits next s es stores =
    let same = one_store setting s now es image has stores in
    subst (λ (x : Setting). fitting.AllFit x es hosts) (same.1 some) (subst (λ (l : List Event). fitting.AllFit setting l hosts) same.0 fits)
has_fits setting now image hosts some (inr has) fits next s es stores =
    let same = one_store setting s (now ++ has.0 ∷ []) es image has.2 stores in
    subst (λ (x : Setting). fitting.AllFit x es hosts) (same.1 (λ none. none_last now has.0 none)) (subst (λ (l : List Event). fitting.AllFit setting l hosts) same.0 (next has.0 has.1))

module _ {D T : Type 0} (disk : DiskView D) (stance : T → Stance)
    (setting : Setting) (entry : Option (List ℕ)) (origin : D) (before : List Event) (known : IsSome entry) where
  fails_leave : (now : List Event) (fault : TakeFault) (kept : Kept D T) → Fails disk stance setting entry origin before now fault kept
      → (image : List ℕ) → disk.may_leave kept.journal.disk image → HasNow setting now image
  fails_leave now fault kept fails image leaves = by (fails.images known image leaves)
    where
      by : Stores setting now image ⊎ IsSomeAnd fails.risked (λ e. Stores setting (now ++ e ∷ []) image) → HasNow setting now image
      by (inl has) = inl has
      by (inr has) = inr (risked_accepted setting now fault fails.refused fails.risked fails.is_next fails.may_risk (λ e. Stores setting (now ++ e ∷ []) image) has)

  lasts_leave : (now : List Event) (kept : Kept D T) → Lasts disk stance setting entry origin before now kept → (image : List ℕ) → disk.may_leave kept.journal.disk image → Stores setting now image
  lasts_leave now kept lasts image leaves =
      let saves = lasts.saves known in
      record {
        payloads = saves.payloads;
        has = stores_has disk kept.journal.disk kept.journal.len saves.payloads image saves.keeps.holds leaves;
        told = subst (λ (s : Setting). IsTold s now saves.payloads) lasts.goes.same saves.told;
      }

  ends_leave : {H A : Type 0} (Refused : Event → Type 0) (now : List Event) (members : List (Member H A)) (kept : Kept D T) (ended : Result Rest TakeFault)
      → EndsBehind disk stance setting entry origin before Refused now members kept ended → (image : List ℕ) → disk.may_leave kept.journal.disk image → HasNow setting now image
  ends_leave Refused now members kept (Ok rest) ends image leaves = inl (lasts_leave now kept ends.lasts image leaves)
  ends_leave Refused now members kept (Err fault) ends image leaves = fails_leave now fault kept ends.fails image leaves

  now_some : (events granted taken now : List Event) → (world_in setting events).started ≡ true → now ≡ (events ++ granted) ++ taken → ¬ (now ≡ [])
  now_some events granted taken now begun is none = begun_some setting events begun (none_first events granted (none_first (events ++ granted) taken (sym is ∙ none)))

  -- Behind an opening that was refused.
  pub opening_fits : (events : List Event) (fault : TakeFault) (state : D) → (world_in setting events).started ≡ true → OpeningBreaks disk stance setting entry origin before events fault state
      → (hosts : List ExecutorHost) → fitting.AllFit setting events hosts → (image : List ℕ) → disk.may_leave state image → (s : Setting) (es : List Event) → Stores s es image → fitting.AllFit s es hosts
  opening_fits events fault state begun breaks hosts fit image leaves s es stores =
      has_fits setting (events ++ breaks.granted) image hosts (λ none. begun_some setting events begun (none_first events breaks.granted none))
      (fails_leave (events ++ breaks.granted) fault breaks.kept breaks.breaks.fails image (subst (λ (d : D). disk.may_leave d image) breaks.same leaves))
      (breaks.fits hosts fit) (λ e accepted. breaks.fits_next hosts fit e accepted) s es stores

  module _ {H A : Type 0} (host : HostView H) (source : SourceView A) (looks : ℕ) where
    -- Behind a life, of the members' hosts and of others.
    pub others_leave : {durable : Kept D T} (turns : List (Turn H A)) (events : List Event) (old new : List (Member H A)) (history : List Entry) (kept : Kept D T) (ended : Result Rest TakeFault) → (world_in setting events).started ≡ true
        → Ends disk stance host source looks turns durable setting entry origin before events old new history kept ended
        → (hosts : List ExecutorHost) → fitting.AllFit setting events hosts → (image : List ℕ) → disk.may_leave kept.journal.disk image → (s : Setting) (es : List Event) → Stores s es image → fitting.AllFit s es hosts
    others_leave turns events old new history kept ended begun ends hosts fit image leaves s es stores =
        has_fits setting ends.now image hosts (now_some events ends.granted (tooks history) ends.now begun ends.is)
        (ends_leave _ ends.now new kept ended ends.ends image leaves) (ends.others hosts fit) (λ e accepted. ends.others_next hosts fit e accepted) s es stores

    pub life_leaves : {durable : Kept D T} (turns : List (Turn H A)) (events : List Event) (old new : List (Member H A)) (history : List Entry) (kept : Kept D T) (ended : Result Rest TakeFault) → (world_in setting events).started ≡ true
        → Ends disk stance host source looks turns durable setting entry origin before events old new history kept ended
        → AreHonest host old → AllFit host setting events old → (image : List ℕ) → disk.may_leave kept.journal.disk image → (s : Setting) (es : List Event) → Stores s es image → AllFit host s es new
    life_leaves turns events old new history kept ended begun ends are fit image leaves s es stores =
        has_fits setting ends.now image (hosts_of host new) (now_some events ends.granted (tooks history) ends.now begun ends.is)
        (ends_leave _ ends.now new kept ended ends.ends image leaves) (ends.fits are fit) (λ e accepted. ends.fits_next are fit e accepted) s es stores

-- Over all hosts no task was launched twice, where they fit the events of a build of a script.
pub all_once : {T : Type 0} (stance : T → Stance) (setting : Setting) → IsProper setting → (now : List Event) (hosts : List ExecutorHost) → fitting.AllFit setting now hosts → fitting.AreApart hosts → IsDistinct nat_eq (fitting.all_launches hosts)
all_once stance setting proper now hosts fit apart = no_task_twice setting (tree_node proper.tree) (of_tree stance setting proper) (small stance setting proper) now hosts fit apart

module _ {D T H A : Type 0} (disk : DiskView D) (stance : T → Stance)
    (host : HostView H) (source : SourceView A) (looks : ℕ) where
  -- hosts stay honest
  pub honest_served : (old new : List (Member H A)) → AreServed host source old new → AreHonest host old → AreHonest host new
  honest_served [] [] served are = tt
  honest_served (Executor number machine ∷ old) (Executor now next ∷ new) served are = (served.0.1.honest_stays.1 are.0, honest_served old new served.1 are.1)
  honest_served (Operator answers line ended failed ∷ old) (Operator next kept now_ended now_failed ∷ new) served are = honest_served old new served.1 are
  honest_served (Executor number machine ∷ old) (Operator next kept now_ended now_failed ∷ new) served are = absurd served
  honest_served (Operator answers line ended failed ∷ old) (Executor now next ∷ new) served are = absurd served
  honest_served [] (member ∷ new) served are = absurd served
  honest_served (member ∷ old) [] served are = absurd served

  -- these hosts are honest, and fit the events of each image that a crash may leave
  record FitsLeft (state : D) (members : List (Member H A)) : Type 0 where
    are : AreHonest host members
    fit : (image : List ℕ) → disk.may_leave state image → (s : Setting) (es : List Event) → Stores s es image → AllFit host s es members

  one_fits : (setting : Setting) (events : List Event) (old : List (Member H A)) (state : D) (new : List (Member H A))
      → OneLife disk stance host source looks setting events old state new
      → AreHonest host old → AllFit host setting events old → FitsLeft state new
  one_fits setting events old state new (led {entry = entry} {origin = origin} {before = before} {kept = kept} {turns = turns} {history = history} {ended = ended} known lasts ends served) are fit = record {
    are = honest_served old new served are;
    fit = life_leaves disk stance setting entry origin before known host source looks turns events old new history kept ended lasts.goes.begun ends are fit;
  }
  one_fits setting events old state new (refused {entry = entry} {origin = origin} {before = before} fault known lasts breaks) are fit = record {
    are = are;
    fit = opening_fits disk stance setting entry origin before known events fault state lasts.goes.begun breaks (hosts_of host old) fit;
  }

  all_fit : (setting : Setting) (events : List Event) (old : List (Member H A)) (state : D) (new : List (Member H A))
      → Lives disk stance host source looks setting events old state new
      → AreHonest host old → AllFit host setting events old → FitsLeft state new
  all_fit setting events old state new (one life) are fit = one_fits setting events old state new life are fit
  all_fit setting events old state new (more {mid = mid} {members = members} {next = next} {later = later} {then = then} lives hands life) are fit =
      let so_far = all_fit setting events old mid members lives are fit in
      let here : AllFit host later then members = so_far.fit hands.image hands.leaves later then hands.stores in
      one_fits later then next state new life (hands.honest_stay so_far.are) (subst (λ (hosts : List ExecutorHost). fitting.AllFit later then hosts) (sym hands.hosts) here)

  -- Over any number of lives: hosts that are honest and fit the events of the first are so at the end of the last, for each image that a crash
  -- may leave then.
  pub lives_fit : (setting : Setting) (events : List Event) (old : List (Member H A)) (state : D) (new : List (Member H A))
      → Lives disk stance host source looks setting events old state new
      → AreHonest host old → AllFit host setting events old
      → AreHonest host new × ((image : List ℕ) → disk.may_leave state image → (s : Setting) (es : List Event) → Stores s es image → AllFit host s es new)
  lives_fit setting events old state new lives are fit = let f = all_fit setting events old state new lives are fit in (f.are, f.fit)
