-- What a life makes of the hosts of a call: those of the executors, which members had, and the others.
use Rattle.std.proofs.Common.{◌≡◌, ◌+◌, ◌∙◌, ℕ, false, List, [], ◌∷◌, ◌++◌, refl, sym, ap, subst}
use Rattle.std.specs.Prelude.{nat_eq}
use Rattle.std.specs.List.{AllByRecursion as AllAre, IsDistinct}
use Rattle.agent_worker.specs.declared.member.Member.{Member}
use Rattle.agent_worker.specs.declared.member.Member.TheVariants.{Executor, Operator}
use Rattle.agent_worker.specs.Serve.{tasks_at}
use Rattle.launch_laws.specs.Fitting.{AllFit, ExecutorHost, all_launches, numbered}
use Rattle.launch_laws.proofs.HostLaws.{fit_both, fit_first, fit_rest, numbered_apart}
use Rattle.model_run.specs.declared.event.Event.{Event}
use Rattle.model_run.specs.declared.site.Executor.{Executor as SiteExecutor}
use Rattle.model_run.specs.declared.taken.Taken.TheVariants.{Accepted}
use Rattle.model_run.specs.State.{Setting}
use Rattle.model_run.specs.World.{answer_to, world_in}
use Rattle.build_commands.specs.Lower.durable_build.Settings.{IsProper}
use Rattle.settle_laws.specs.Stances.{Stance}
use Rattle.build_commands.specs.Lower.build_store.Saved.{Stores}
use Rattle.build_commands.specs.Lower.build_life.Serving.{AreHonest, AreServed, hosts_of}
use Rattle.build_commands.proofs.Lower.build_life.ManyLemmas.{HasNow, all_once, has_fits}
use Rattle.agent_worker.specs.Crews.{hosts_in, members_of, others_of}
use Rattle.build_commands.proofs.LivingLemmas.{operator_alone}
use Rattle.controller.specs.Call.{Call, Devices, Takes}
use Rattle.controller.specs.Launches.{executor_hosts, tasks_on}
use Rattle.controller.proofs.SiteLemmas.{Consecutive}

module _ {D H A : Type 0} (v : Devices D H A) where
  abbrev ServedSo : List (Member H A) → List (Member H A) → Type 0
  ServedSo = AreServed v.host v.source

  abbrev HostsOf : List (Member H A) → List ExecutorHost
  HostsOf = hosts_of v.host

  no_tasks : (answers : A) (new : List (Member H A)) → ServedSo (Operator answers [] false false ∷ []) new → HostsOf new ≡ []
  no_tasks answers [] served = absurd served
  no_tasks answers (Executor number host ∷ new) served = absurd served
  no_tasks answers (Operator next kept ended failed ∷ []) served = refl
  no_tasks answers (Operator next kept ended failed ∷ (m ∷ new)) served = absurd served.1

  -- The hosts of executors with these numbers, and the others, of which the first has the number `above`, before a life and behind it.
  record CameBack (number : ℕ) (xs : List SiteExecutor) (hosts : List H) (answers : A) (new : List (Member H A)) : Type 0 where
    above : ℕ
    old : numbered number (tasks_on v hosts) ≡ HostsOf (members_of xs hosts answers) ++ numbered above (tasks_on v (others_of xs hosts))
    now : numbered number (tasks_on v (hosts_in new ++ others_of xs hosts)) ≡ HostsOf new ++ numbered above (tasks_on v (others_of xs hosts))
    honest : AllAre v.host.honest hosts → AreHonest v.host (members_of xs hosts answers)

  none_seated : (number : ℕ) (hosts others : List H) (answers : A) (new : List (Member H A)) → ServedSo (Operator answers [] false false ∷ []) new
      → numbered number (tasks_on v (hosts_in new ++ others)) ≡ HostsOf new ++ numbered number (tasks_on v others)
  none_seated number hosts others answers new served =
      ap (λ (hs : List H). numbered number (tasks_on v (hs ++ others))) (operator_alone v.host v.source answers new served)
      ∙ ap (λ (es : List ExecutorHost). es ++ numbered number (tasks_on v others)) (sym (no_tasks answers new served))

  came_back : (number : ℕ) (xs : List SiteExecutor) → Consecutive number xs → (hosts : List H) (answers : A) (new : List (Member H A)) → ServedSo (members_of xs hosts answers) new → CameBack number xs hosts answers new
  came_back number [] all hosts answers new served = record { above = number; old = refl; now = none_seated number hosts hosts answers new served; honest = λ are. tt }
  came_back number (x ∷ xs) all [] answers new served = record { above = number; old = refl; now = none_seated number [] [] answers new served; honest = λ are. tt }
  came_back number (x ∷ xs) all (host ∷ hosts) answers [] served = absurd served
  came_back number (x ∷ xs) all (host ∷ hosts) answers (Operator next kept ended failed ∷ new) served = absurd served
  came_back number (x ∷ xs) all (host ∷ hosts) answers (Executor seat next ∷ new) served =
      let rest = came_back (number + 1) xs all.1 hosts answers new served.1 in
      record {
        above = rest.above;
        old = ap (λ (es : List ExecutorHost). record { number = number; tasks = tasks_at (v.host.launches host) (v.host.dirs host) } ∷ es) rest.old
            ∙ ap (λ (n : ℕ). record { number = n; tasks = tasks_at (v.host.launches host) (v.host.dirs host) } ∷ (HostsOf (members_of xs hosts answers) ++ numbered rest.above (tasks_on v (others_of xs hosts)))) (sym all.0);
        now = ap (λ (es : List ExecutorHost). record { number = number; tasks = tasks_at (v.host.launches next) (v.host.dirs next) } ∷ es) rest.now
            ∙ ap (λ (n : ℕ). record { number = n; tasks = tasks_at (v.host.launches next) (v.host.dirs next) } ∷ (HostsOf new ++ numbered rest.above (tasks_on v (others_of xs hosts)))) (sym (served.0.0 ∙ all.0));
        honest = λ are. (are.0, rest.honest are.1);
      }

  -- A life went on from these events, of executors that are numbered one after the other.
  module _ {T : Type 0} (stance : T → Stance) (c : Call D H A) (setting : Setting) (proper : IsProper setting) (all : Consecutive 0 setting.site.executors) (before events : List Event) (takes : Takes v setting before events c) where
    back : CameBack 0 setting.site.executors c.hosts c.answers takes.life.new
    back = came_back 0 setting.site.executors all c.hosts c.answers takes.life.new takes.life.served

    Seated : List ExecutorHost
    Seated = HostsOf (members_of setting.site.executors c.hosts c.answers)

    Others : List ExecutorHost
    Others = numbered back.above (tasks_on v (others_of setting.site.executors c.hosts))

    -- all hosts at the end, in the two lists
    at_end : executor_hosts v c.hosts_now ≡ HostsOf takes.life.new ++ Others
    unfolding Others
    at_end = ap (λ (hs : List H). executor_hosts v hs) takes.life.hosts_are ∙ back.now

    both : AllFit setting before (executor_hosts v c.hosts) → AllFit setting before (Seated ++ Others)
    unfolding Seated Others
    both fit = subst (AllFit setting before) back.old fit

    seated_fit : AllAre v.host.honest c.hosts → AllFit setting before (executor_hosts v c.hosts) → AllFit setting events (HostsOf takes.life.new)
    unfolding Seated
    seated_fit are fit = takes.goes.fits (back.honest are) (fit_first setting before Seated Others (both fit))

    -- they fit the events at the end
    fit_now : AllAre v.host.honest c.hosts → AllFit setting before (executor_hosts v c.hosts) → AllFit setting events (executor_hosts v c.hosts_now)
    fit_now are fit =
        subst (AllFit setting events) (sym at_end) (fit_both setting events (HostsOf takes.life.new) Others (seated_fit are fit) (takes.goes.others Others (fit_rest setting before Seated Others (both fit))))

    -- and with one event more that is accepted
    seated_next : AllAre v.host.honest c.hosts → AllFit setting before (executor_hosts v c.hosts) → (e : Event) → answer_to setting (world_in setting events) e ≡ Accepted → AllFit setting (events ++ e ∷ []) (HostsOf takes.life.new)
    unfolding Seated
    seated_next are fit e accepted = takes.goes.fits_next (back.honest are) (fit_first setting before Seated Others (both fit)) e accepted

    fit_next : AllAre v.host.honest c.hosts → AllFit setting before (executor_hosts v c.hosts) → (e : Event) → answer_to setting (world_in setting events) e ≡ Accepted → AllFit setting (events ++ e ∷ []) (executor_hosts v c.hosts_now)
    fit_next are fit e accepted =
        subst (AllFit setting (events ++ e ∷ [])) (sym at_end)
        (fit_both setting (events ++ e ∷ []) (HostsOf takes.life.new) Others (seated_next are fit e accepted) (takes.goes.others_next Others (fit_rest setting before Seated Others (both fit)) e accepted))

    -- So they fit whatever a store has that has the events at the end, or one more.
    pub led_fit : ¬ (events ≡ []) → AllAre v.host.honest c.hosts → AllFit setting before (executor_hosts v c.hosts) → (image : List ℕ) → HasNow setting events image
        → (s : Setting) (es : List Event) → Stores s es image → AllFit s es (executor_hosts v c.hosts_now)
    led_fit some are fit image has s es stores = has_fits setting events image (executor_hosts v c.hosts_now) some has (fit_now are fit) (λ e accepted. fit_next are fit e accepted) s es stores

    -- and no task was launched twice
    pub led_once : AllAre v.host.honest c.hosts → AllFit setting before (executor_hosts v c.hosts) → IsDistinct nat_eq (all_launches (executor_hosts v c.hosts_now))
    led_once are fit = all_once stance setting proper events (executor_hosts v c.hosts_now) (fit_now are fit) (numbered_apart 0 (tasks_on v c.hosts_now))
