-- What a reader gets of the promises alone, without the code: some sentences of docs/PROOFS.md, derived.
use Rattle.std.proofs.Common.{◌≡◌, ◌⊎◌, ◌+◌, ◌<◌, ◌^◌, ℕ, max, true, List, [], ◌∷◌, ◌++◌, Option, None, Some, inl, inr, refl, sym, ap, append-nil, subst, ⊎_elim, arith}
use Rattle.std.specs.Prelude.{IfSome, is_some, nat_eq, take}
use Rattle.std.specs.List.{AllByRecursion as AllAre, AllZip, IsDistinct}
use Rattle.std.proofs.Math.Logic.{∥∥₁_map}
use Rattle.agent_worker.specs.declared.member.Member.{Member}
use Rattle.agent_worker.specs.declared.member.Member.TheVariants.{Executor, Operator}
use Rattle.command_words.specs.declared.command.Command.TheVariants.{Resume}
use Rattle.journal_core.specs.Records.{Has}
use Rattle.launch_laws.specs.Fitting.{AllFit, all_launches, numbered}
use Rattle.launch_laws.proofs.LifeLaws.{none_fits}
use Rattle.agent_worker.specs.Serve.{tasks_at}
use Rattle.model_run.specs.declared.event.Event.{Event}
use Rattle.model_run.specs.declared.site.Executor.{Executor as SiteExecutor}
use Rattle.model_run.specs.State.{Setting}
use Rattle.model_run.specs.World.{world_in}
use Rattle.build_commands.specs.Lower.delta_records.declared.weights.Weights.{Weights}
use Rattle.build_commands.specs.Lower.durable_build.Taking.{DueAdds}
use Rattle.build_commands.specs.Lower.build_store.Lives.{IsNext, image_after}
use Rattle.build_commands.specs.Lower.build_store.Saved.{Stores, journal_length, journal_weights}
use Rattle.build_commands.specs.Lower.store_laws.Store.{last_image}
use Rattle.build_commands.specs.Lower.member_turns.Tales.{claimed_of}
use Rattle.build_commands.specs.Lower.member_turns.Turning.{tasks_of}
use Rattle.build_commands.specs.Lower.member_turns.Coming.{EachIs}
use Rattle.build_commands.specs.Lower.member_turns.Turns.{DidTurn}
use Rattle.build_commands.proofs.Lower.member_turns.WayLaws.{LaunchesMore, MemberLaunches, launches_same, ways_launch}
use Rattle.build_commands.specs.Lower.build_life.Telling.{ClaimedInTime}
use Rattle.agent_worker.specs.Crews.{hosts_in, members_of, others_of}
use Rattle.build_commands.specs.Statuses.{HasRun, world_status}
use Rattle.build_commands.specs.declared.end_text.EndText.TheVariants as end
use Rattle.build_commands.specs.Living.{HostsStay}
use Rattle.build_commands.specs.Reporting.{IsBroken, KeepsRecords, LeavesStore, ShowsEnd, StartsBy, TellTaken}
use Rattle.jp_disk.specs.Runs.{AtEachMoment}
use Rattle.jp_disk.proofs.MomentLemmas.{at_each_weaker}
use Rattle.build_commands.specs.Lower.locked_build.Facts.{HasFront}
use Rattle.build_commands.specs.Resuming.{IsUntouched}
use Rattle.build_commands.specs.Showing.{HasBuild, HasNone}
use Rattle.build_commands.specs.Texts.{full_text}
use Rattle.build_commands.proofs.StoreLemmas.{sound_store}
use Rattle.controller.specs.Call.{Call, Devices, Finds, Is, IsUnled, LifeIn, Takes, Tells, Unopened, Writes}
use Rattle.controller.specs.Causes.{Causes, Stops, ended, waits, cut, unheard, disk_failed, full, no_memory, WentOn}
use Rattle.controller.specs.Launches.{FitLeft, Launches, executor_hosts, tasks_on}
use Rattle.controller.specs.Output.{Delivers, Output}
use Rattle.controller.proofs.CallLemmas.{unrun, world_log}

module _ {D H A : Type 0} (v : Devices D H A) (c : Call D H A) where
  -- A `resume` that shows a log, over a consistent store: the log and the status are those of the world of the store's events, which begin with those found,
  -- and came by a life of the call's members; and a crash leaves just these events.
  pub record Shown (setting : Setting) (found : List Event) : Type 0 where
    pub more : List Event
    pub takes : Takes v setting found (found ++ more) c
    pub log : Writes (world_in setting (found ++ more)).shared.log (world_status (world_in setting (found ++ more))) c
    pub durable : (image : List ℕ) → v.disk.may_leave c.now image → Stores setting (found ++ more) image

  shown_by : (setting : Setting) (found : List Event) → Finds v setting found c → (more : List Event) × Delivers v end.Log setting found (found ++ more) c → Shown setting found
  shown_by setting found finds d = record { more = d.0; takes = d.1.takes; log = d.1.text; durable = d.1.durable (ap is_some finds.told) }

  pub resume_shows : Output v c → Is Resume c → HasRun c.status → (setting : Setting) (found : List Event) → Finds v setting found c → ∥ Shown setting found ∥₁
  resume_shows output is run setting found finds = ∥∥₁_map ((output.command Resume is).0 run setting found finds) (shown_by setting found finds)

  -- A `resume` over a store without a record, or a damaged one: 9, 8 or 5, nothing was read or written, and the hosts are as they were.
  pub resume_refuses : Causes v c → Is Resume c → (file : List ℕ) → v.disk.reads c.disk ≡ Some file → HasNone file
      → ((c.status ≡ 9) ⊎ (c.status ≡ 8) ⊎ (c.status ≡ 5)) × IsUntouched v.disk c.disk c.now × IsUnled c
  resume_refuses causes is file told none = (causes.command Resume is).finds_none file told none

  -- 14 of a consistent store: two numbers were told, the first is the length of the store's journal, and the second what the record would add to it that is due, by the
  -- records of the store, for an event that comes next behind the taken ones; and together they are too many.
  pub record IsTrulyFull (setting : Setting) (taken : List Event) : Type 0 where
    pub event : Event
    pub next : IsNext setting taken event
    pub len : ℕ
    pub add : ℕ
    pub told : Tells (full_text len add) c
    pub too_long : 2 ^ 30 < len + add
    pub stored : IfSome (v.disk.reads c.now)
        (λ file. (len ≡ journal_length file) × DueAdds (journal_weights file) (Some (image_after setting taken)) event (image_after setting (taken ++ event ∷ [])) add)

  due_by : (o : Option (List ℕ)) (setting : Setting) (taken : List Event) (event : Event) (len add : ℕ) (w : Weights) → DueAdds w (Some (image_after setting taken)) event (image_after setting (taken ++ event ∷ [])) add
      → IfSome o (λ file. (len ≡ journal_length file) × (w ≡ journal_weights file))
      → IfSome o (λ file. (len ≡ journal_length file) × DueAdds (journal_weights file) (Some (image_after setting taken)) event (image_after setting (taken ++ event ∷ [])) add)
  due_by None setting taken event len add w adds stored = tt
  due_by (Some file) setting taken event len add w adds stored =
      (stored.0, subst (λ (x : Weights). DueAdds x (Some (image_after setting taken)) event (image_after setting (taken ++ event ∷ [])) add) stored.1 adds)

  stops_full : (setting : Setting) (events : List Event) (life : LifeIn v setting c) (n : ℕ) → is_some (v.disk.reads c.disk) ≡ true → Stops v setting events c life n → n ≡ 14 → IsTrulyFull setting events
  stops_full setting events life n known (ended done heard) e = absurd (unrun 14 (world_status (world_in setting events)) e refl (inl (world_log (world_in setting events))))
  stops_full setting events life n known (waits idle heard) e = absurd (omega (arith, e))
  stops_full setting events life n known (cut done heard rose) e = absurd (omega (arith, e))
  stops_full setting events life n known (unheard unread heard failed) e = absurd (omega (arith, e))
  stops_full setting events life n known (disk_failed going rose) e = absurd (omega (arith, e))
  stops_full setting events life n known (full len add going is tells) e = record {
    event = is.event;
    next = is.next.is_next;
    len = len;
    add = add;
    told = tells;
    too_long = is.too_long;
    stored = due_by (v.disk.reads c.now) setting events is.event len add is.weights is.adds (is.stored known);
  }
  stops_full setting events life n known no_memory e = absurd (omega (arith, e))

  went_full : (setting : Setting) (found : List Event) → Finds v setting found c → c.status ≡ 14 → WentOn v setting found c → (more : List Event) × IsTrulyFull setting (found ++ more)
  went_full setting found finds status went = (went.more, stops_full setting (found ++ went.more) went.takes.life c.status (ap is_some finds.told) went.stops status)

  pub resume_full : Causes v c → Is Resume c → (setting : Setting) (found : List Event) → Finds v setting found c → c.status ≡ 14 → ∥ ((more : List Event) × IsTrulyFull setting (found ++ more)) ∥₁
  resume_full causes is setting found finds status =
      ⊎_elim (λ unopened. absurd (⊎_elim (λ nine. omega (arith, status, nine)) (⊎_elim (λ five. omega (arith, status, five)) (λ eight. omega (arith, status, eight))) unopened.why))
      (λ went. ∥∥₁_map went (went_full setting found finds status)) ((causes.command Resume is).went_on setting found finds)

  -- What a life says of the launches of a call: each host has launched, beyond what it had, only tasks that were claimed in the history of the call; no task
  -- was claimed twice in it, nor launched twice; and each was an open one of its executor when it was claimed, behind the events that the store had then.
  pub record LaunchedSo (setting : Setting) (before : List Event) : Type 0 where
    pub launched : AllZip (LaunchesMore v.host c.history) c.hosts c.hosts_now
    pub claimed_once : IsDistinct nat_eq (tasks_of (claimed_of c.history))
    pub granted : List Event
    pub open_then : EachIs (ClaimedInTime setting (before ++ granted)) [] c.history

  still_launched : (hosts : List H) → AllZip (LaunchesMore v.host c.history) hosts hosts
  still_launched [] = tt
  still_launched (host ∷ hosts) = (launches_same v.host c.history host, still_launched hosts)

  crew_launched : (xs : List SiteExecutor) (hosts : List H) (answers : A) (new : List (Member H A)) → AllZip (MemberLaunches v.host c.history) (members_of xs hosts answers) new
      → AllZip (LaunchesMore v.host c.history) hosts (hosts_in new ++ others_of xs hosts)
  crew_launched [] hosts answers [] all = absurd all
  crew_launched [] hosts answers (Executor number host ∷ new) all = absurd all.0
  crew_launched [] hosts answers (Operator next kept over broken ∷ []) all = still_launched hosts
  crew_launched [] hosts answers (Operator next kept over broken ∷ (m ∷ new)) all = absurd all.1
  crew_launched (x ∷ xs) [] answers [] all = absurd all
  crew_launched (x ∷ xs) [] answers (Executor number host ∷ new) all = absurd all.0
  crew_launched (x ∷ xs) [] answers (Operator next kept over broken ∷ []) all = tt
  crew_launched (x ∷ xs) [] answers (Operator next kept over broken ∷ (m ∷ new)) all = absurd all.1
  crew_launched (x ∷ xs) (host ∷ hosts) answers [] all = absurd all
  crew_launched (x ∷ xs) (host ∷ hosts) answers (Executor seat next ∷ new) all = (all.0, crew_launched xs hosts answers new all.1)
  crew_launched (x ∷ xs) (host ∷ hosts) answers (Operator next kept over broken ∷ new) all = absurd all.0

  pub takes_launches : (setting : Setting) (before events : List Event) → Takes v setting before events c → LaunchedSo setting before
  takes_launches setting before events takes =
      let members = members_of setting.site.executors c.hosts c.answers in
      let Did = DidTurn v.host v.source (max setting.site.looks 1) in
      let ways = ways_launch v.host c.history Did (λ turn did. did.launched) members takes.life.new takes.life.life.life.ways in
      record {
        launched = subst (λ (hosts : List H). AllZip (LaunchesMore v.host c.history) c.hosts hosts) (sym takes.life.hosts_are) (crew_launched setting.site.executors c.hosts c.answers takes.life.new ways);
        claimed_once = takes.life.life.life.claimed_once;
        granted = takes.goes.granted;
        open_then = takes.goes.claims;
      }

  -- So of a build that a call let go on: a body that serves a task twice in one call, or one that is not open, keeps none of these promises.
  pub went_launches : (setting : Setting) (before : List Event) → WentOn v setting before c → LaunchedSo setting before
  went_launches setting before went = takes_launches setting before (before ++ went.more) went.takes

  -- A `resume` that shows a log, over whichever store that the disk tells and that was opened: it has its records still, and behind them those of the events of the
  -- history and of grants before them, and no other, and so has each image that a crash leaves; the last of all has an image, and log and status are those of it. The next opening
  -- finds no damage in it.
  pub record ShowsLastImage (file : List ℕ) : Type 0 where
    pub setting : Setting
    pub payloads : List (List ℕ)
    pub more : List (List ℕ)
    pub has : Has payloads file
    pub kept : (image : List ℕ) → v.disk.may_leave c.now image → Has (payloads ++ more) image
    pub sound : (image : List ℕ) → v.disk.may_leave c.now image → HasBuild image
    pub taken : TellTaken (last_image payloads) c.history more
    pub shown : ShowsEnd setting (payloads ++ more) c.old c.new c.sink_before c.sink_after c.status

  broken_shows_none : (n : ℕ) → IsBroken n → HasRun n → ⊥
  broken_shows_none n (inl six) run = unrun 6 n six refl run
  broken_shows_none n (inr (inl five)) run = unrun 5 n five refl run
  broken_shows_none n (inr (inr (inl fourteen))) run = unrun 14 n fourteen refl run
  broken_shows_none n (inr (inr (inr eight))) run = unrun 8 n eight refl run

  unopened_shows_none : Unopened v c → HasRun c.status → ⊥
  unopened_shows_none u run = ⊎_elim (λ nine. unrun 9 c.status nine refl run) (⊎_elim (λ five. unrun 5 c.status five refl run) (λ eight. unrun 8 c.status eight refl run)) u.why

  starts_so : (setting : Setting) (payloads more : List (List ℕ)) → StartsBy setting payloads → StartsBy setting (payloads ++ more)
  starts_so setting [] more starts = absurd starts
  starts_so setting (p ∷ ps) more starts = starts

  -- Over whichever store that the disk tells and that was opened, at each moment of a `resume` and with whatever status it ends: a crash leaves what it might have left
  -- at the beginning, or a store in which the next opening finds a build and no damage.
  pub record LeavesBuild : Type 0 where
    pub opened : D
    pub up_to : AtEachMoment v.disk c.disk opened (v.disk.may_leave c.disk)
    pub from_then : AtEachMoment v.disk opened c.now HasBuild

  leaves_build : (setting : Setting) (file : List ℕ) → (l : LeavesStore v.disk setting file c.history c.disk c.now c.old c.new c.sink_before c.sink_after c.status)
      → KeepsRecords v.disk setting l.opened l.payloads c.history c.now c.old c.new c.sink_before c.sink_after c.status → LeavesBuild
  leaves_build setting file l k = record {
    opened = l.opened;
    up_to = l.up_to;
    from_then = at_each_weaker v.disk l.opened c.now (HasFront l.payloads (k.more ++ k.risked)) HasBuild
        (λ image front.
        let ends = k.sound front.0 in
        sound_store image setting ends.0 (l.payloads ++ take front.0 (k.more ++ k.risked)) front.1 (starts_so setting l.payloads (take front.0 (k.more ++ k.risked)) l.begun) ends.1 ends.2)
        k.moments;
  }

  pub resume_leaves_build : Output v c → Is Resume c → (file : List ℕ) → v.disk.reads c.disk ≡ Some file → Unopened v c ⊎ ∥ LeavesBuild ∥₁
  resume_leaves_build output is file told =
      ⊎_elim (λ unopened. inl unopened) (λ goes. let leaves = goes.leaves file told in inr (∥∥₁_map leaves.keeps (leaves_build goes.setting file leaves))) ((output.command Resume is).1)

  keeps_last : (file : List ℕ) (setting : Setting) (payloads : List (List ℕ)) (opened : D) → Has payloads file → StartsBy setting payloads → HasRun c.status
      → KeepsRecords v.disk setting opened payloads c.history c.now c.old c.new c.sink_before c.sink_after c.status → ShowsLastImage file
  keeps_last file setting payloads opened has starts run k =
      let none = k.sure (λ five. broken_shows_none c.status (inr (inl five)) run) in
      let shows : ShowsEnd setting (payloads ++ k.more) c.old c.new c.sink_before c.sink_after c.status = ⊎_elim (λ broken. absurd (broken_shows_none c.status broken run)) (λ shown. shown) k.shown in
      let all_have : (image : List ℕ) → v.disk.may_leave c.now image → Has (payloads ++ k.more) image = λ image left. ⊎_elim (λ all. all)
      (λ all. subst (λ (ps : List (List ℕ)). Has ps image) (append-nil (payloads ++ k.more)) (subst (λ (r : List (List ℕ)). Has (payloads ++ k.more ++ r) image) none all)) (k.at_end image left) in
      record {
        setting = setting;
        payloads = payloads;
        more = k.more;
        has = has;
        kept = all_have;
        sound = λ image left. sound_store image setting shows.image (payloads ++ k.more) (all_have image left) (starts_so setting payloads k.more starts) shows.ends shows.whole;
        taken = k.taken;
        shown = shows;
      }

  pub resume_shows_last : Output v c → Is Resume c → HasRun c.status → (file : List ℕ) → v.disk.reads c.disk ≡ Some file → ∥ ShowsLastImage file ∥₁
  resume_shows_last output is run file told =
      ⊎_elim (λ unopened. absurd (unopened_shows_none unopened run))
      (λ goes. let leaves = goes.leaves file told in ∥∥₁_map leaves.keeps (keeps_last file goes.setting leaves.payloads leaves.opened leaves.has leaves.begun run)) ((output.command Resume is).1)

module _ {D H A : Type 0} (v : Devices D H A) where
  -- the disk told its bytes at the beginning of the call, and they were a consistent store
  abbrev pub FindsStore : Call D H A → Type 0
  FindsStore c = (setting : Setting) × (events : List Event) × Finds v setting events c

  -- Calls one after the other, each over a store so found and with what the contract says of launches: each but the first gets the hosts that the one before it
  -- gave back, and a disk that may leave only what that one may have left, by itself or in a crash.
  pub data Calls (first : Call D H A) : Call D H A → Type 0 where
    begins : FindsStore first → Launches v first → Calls first first
    follows : {last c : Call D H A} → Calls first last → FindsStore c → Launches v c → c.hosts ≡ last.hosts_now
        → ((image : List ℕ) → v.disk.may_leave c.disk image → v.disk.may_leave last.now image) → Calls first c

  honest_still : (hosts rest : List H) → HostsStay v.host hosts rest → AllAre v.host.honest hosts → AllAre v.host.honest rest
  honest_still [] [] stay all = tt
  honest_still [] (now ∷ rest) stay all = absurd stay
  honest_still (host ∷ hosts) [] stay all = absurd stay
  honest_still (host ∷ hosts) (now ∷ rest) stay all = (stay.0.honest_stays.1 all.0, honest_still hosts rest stay.1 all.1)

  finds_of : {first c : Call D H A} → Calls first c → FindsStore c
  finds_of (begins finds launches) = finds
  finds_of (follows calls finds launches same left) = finds

  launches_by : {first c : Call D H A} → Calls first c → Launches v c
  launches_by (begins finds launches) = launches
  launches_by (follows calls finds launches same left) = launches

  -- One call hands on to the next: the hosts fit what the disk of the next one may leave.
  pub next_call : (c d : Call D H A) → FindsStore c → Launches v c → d.hosts ≡ c.hosts_now → ((image : List ℕ) → v.disk.may_leave d.disk image → v.disk.may_leave c.now image)
      → AllAre v.host.honest c.hosts → FitLeft v c.disk c.hosts → AllAre v.host.honest d.hosts × FitLeft v d.disk d.hosts
  next_call c d finds launches same left honest fit = (
    subst (AllAre v.host.honest) (sym same) (honest_still c.hosts c.hosts_now launches.stay honest),
    λ image at setting events stores. subst (λ (hosts : List H). ∥ AllFit setting events (executor_hosts v hosts) ∥₁) (sym same) (launches.fit finds.0 finds.1 finds.2 honest fit image (left image at) setting events stores),
  )

  -- hosts that have launched nothing fit whatever a disk may leave
  none_fit : (hosts : List H) (number : ℕ) (setting : Setting) (events : List Event) → AllAre (λ host. v.host.launches host ≡ []) hosts → AllFit setting events (numbered number (tasks_on v hosts))
  none_fit [] number setting events none = tt
  none_fit (host ∷ hosts) number setting events none = (none_fits setting events number (tasks_at (v.host.launches host) (v.host.dirs host)) none.0, none_fit hosts (number + 1) setting events none.1)

  module _ (first : Call D H A) (honest : AllAre v.host.honest first.hosts) (none : AllAre (λ host. v.host.launches host ≡ []) first.hosts) where
    fit_at : {c : Call D H A} → Calls first c → AllAre v.host.honest c.hosts × FitLeft v c.disk c.hosts
    fit_at (begins finds launches) = (honest, λ image at setting events stores. ∣ none_fit first.hosts 0 setting events none ∣₁)
    fit_at (follows {last = last} {c = c} calls finds launches same left) = let f = fit_at calls in next_call last c (finds_of calls) (launches_by calls) same left f.0 f.1

    -- Over any number of calls, the first with honest hosts that have launched nothing, no task is launched twice in all of them, on whichever of the hosts.
    pub calls_launch_once : {c : Call D H A} → Calls first c → IsDistinct nat_eq (all_launches (executor_hosts v c.hosts_now))
    calls_launch_once {c = c} calls = let f = fit_at calls in (launches_by calls).once (finds_of calls).0 (finds_of calls).1 (finds_of calls).2 f.0 f.1
