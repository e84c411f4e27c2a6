-- What becomes of the hosts, and which tasks they have launched (this product's own).
use Rattle.std.specs.Prelude.{◌≡◌, ◌⊎◌, ◌≤◌, ℕ, nat_eq, List, length, map}
use Rattle.std.specs.List.{AllByRecursion as AllAre, IsDistinct}
use Rattle.agent_worker.specs.Serve.{Tasks, tasks_at}
use Rattle.launch_laws.specs.Fitting.{AllFit, ExecutorHost, all_launches, numbered}
use Rattle.model_run.specs.AgentsFile.{agents_file, Means}
use Rattle.model_run.specs.declared.event.Event.{Event}
use Rattle.model_run.specs.declared.site.Site.{Site}
use Rattle.model_run.specs.State.{Setting}
use Rattle.build_commands.specs.Lower.build_store.Saved.{Stores}
use Rattle.build_commands.specs.Launching.{LaunchedOnce}
use Rattle.build_commands.specs.Living.{HostsStay}
use Rattle.controller.specs.Call.{Call, Devices, Finds, IsUnled, LifeIn}

module _ {D H A : Type 0} (v : Devices D H A) where
  -- the launches and the folders of hosts
  abbrev pub tasks_on : List H → List Tasks
  tasks_on hosts = map (λ host. tasks_at (v.host.launches host) (v.host.dirs host)) hosts

  -- the same, with host i as that of executor i
  abbrev pub executor_hosts : List H → List ExecutorHost
  executor_hosts hosts = numbered 0 (tasks_on hosts)

  -- The hosts fit the build of each consistent store that a crash may leave of the disk: each task that one has launched was an open one of its executor, stands
  -- once among its launches, and has its folder or is not open any more.
  abbrev pub FitLeft : D → List H → Type 0
  FitLeft disk hosts = (image : List ℕ) → v.disk.may_leave disk image → (setting : Setting) (events : List Event) → Stores setting events image → ∥ AllFit setting events (executor_hosts hosts) ∥₁

  pub record Launches (c : Call D H A) : Type 0 where
    -- there is a host for each executor that an agents file may have, as there are 64
    pub enough : (agents : List ℕ) (site : Site) → agents_file agents ≡ Means site → length site.executors ≤ length c.hosts
    -- each host comes back at its place, over any store: honest where it was, its count of faults not lower, and with its calls behind those from before
    pub stay : HostsStay v.host c.hosts c.hosts_now
    -- by each command, over any store: hosts and answers came back as they were, or as the members left them that were made of them, in a life whatever they were replied
    pub led : IsUnled c ⊎ ∥ ((setting : Setting) × LifeIn v setting c) ∥₁
    -- and what a host has launched in this call stands behind its launches from before, no task twice, on whichever hosts
    pub launched : LaunchedOnce v.host c.hosts c.hosts_now
    -- over a consistent store, honest hosts that fit what a crash may leave at the beginning fit what one may leave at the end
    pub fit : (setting : Setting) (events : List Event) → Finds v setting events c → AllAre v.host.honest c.hosts → FitLeft c.disk c.hosts → FitLeft c.now c.hosts_now
    -- and then no task stands twice among the launches of all of them, those from before included
    pub once : (setting : Setting) (events : List Event) → Finds v setting events c → AllAre v.host.honest c.hosts → FitLeft c.disk c.hosts → IsDistinct nat_eq (all_launches (executor_hosts c.hosts_now))
