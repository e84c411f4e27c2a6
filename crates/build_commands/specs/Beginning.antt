-- What `run` comes to, and `gen`, which is `run` on files that it makes (this product's own).
use Rattle.std.specs.Prelude.{◌≡◌, ℕ, ℤ, List, [], ◌∷◌, Option, Some, None, max}
use Rattle.device_faults.specs.Faults.{CountsFault}
use Rattle.journal_core.specs.Answers.{IsStarted}
use Rattle.journal_core.specs.Moments.{SinceSync}
use Rattle.journal_core.specs.declared.faults.TakeFault.{TakeFault}
use Rattle.journal_core.specs.declared.faults.TakeFault.TheVariants.{Disk, Full}
use Rattle.model_syntax.specs.declared.tree.Tree.{Tree}
use Rattle.model_run.specs.declared.event.Event.TheVariants.{Start as StartEvent}
use Rattle.model_run.specs.declared.site.Site.{Site}
use Rattle.build_life.specs.Lower.durable_build.Settings.{script_setting}
use Rattle.settle_laws.specs.Stances.{Stance}
use Rattle.build_life.specs.Lower.build_store.declared.beginning.BeginFault.{BeginFault}
use Rattle.build_life.specs.Lower.build_store.declared.beginning.BeginFault.TheVariants.{HasBuild, Take}
use Rattle.build_life.specs.Lower.build_store.Lives.{BeginRefuses, TellsStart}
use Rattle.build_life.specs.Lower.build_store.Saved.{Survives}
use Rattle.build_commands.specs.Inputs.{Input}
use Rattle.task_host.specs.declared.call.Call.{Call}
use Rattle.task_host.specs.declared.order.Stream.{Stream}
use Rattle.build_life.specs.Lower.locked_build.declared.ask.Entry.{Entry}
use Rattle.build_commands.specs.declared.end_text.EndText.{EndText}
use Rattle.build_commands.specs.Launching.{LaunchedOnce}
use Rattle.build_commands.specs.Living.{Finished, HostsStay}
use Rattle.build_commands.specs.Plans.{Give, RefusesFiles}
use Rattle.build_commands.specs.Reporting.{Reports}
use Rattle.build_commands.specs.Resuming.{GivesBack}
use Rattle.build_commands.specs.Texts.{disk_failed_text, full_text, has_build_text, out_of_memory_text}
use Rattle.build_commands.specs.Writing.{Tells}
use Rattle.jp_disk.specs.View.{DiskView}
use Rattle.task_host.specs.View.{HostView}
use Rattle.jp_io.specs.View.{SourceView}

-- Status and text of a build that was not begun. Want of memory may come in place of a text that needs memory.
pub data BeginSays : BeginFault → ℕ → List ℕ → Type 0 where
  has_build : BeginSays HasBuild 9 has_build_text
  disk_failed : BeginSays (Take Disk) 5 disk_failed_text
  full : (len add : ℕ) → BeginSays (Take (Full len add)) 14 (full_text len add)
  no_memory : {fault : TakeFault} → ¬ (fault ≡ Disk) → BeginSays (Take fault) 8 out_of_memory_text

module _ {D T H A : Type 0} (disk : DiskView D) (stance : T → Stance) (host : HostView H) (source : SourceView A) (state now : D) (hosts rest : List H) (answers unread : A) (history : List Entry) (kind : EndText) (old new : Option (List ℕ)) (sink_before sink_after : ℕ) where
  -- A build that was begun over this file, which has no record. Up to a moment at which the file is durable a crash leaves what it might have left
  -- before; from then on no event or the `Start`.
  pub record BeginsOver (script agents : List ℕ) (tree : Tree) (site : Site) (file : List ℕ) (started : D) : Type 0 where
    pub fresh : ¬ (IsStarted file)
    pub moments : SinceSync disk file state started (Survives (script_setting tree site) [] (StartEvent script agents ∷ []) None)

  -- What becomes of a script and an agents file that can be built, on each disk, and of what it tells of its bytes. From the `Start` on `Finished` says it.
  pub data Begins (script agents : List ℕ) (tree : Tree) (site : Site) : ℕ → Type 0 where
    unbegun : {fault : BeginFault} {status : ℕ} {text : List ℕ} → GivesBack hosts rest answers unread history → BeginSays fault status text → CountsFault (disk.faults state) (disk.faults now) (fault ≡ Take Disk)
        → TellsStart (script_setting tree site) (StartEvent script agents) fault
        → ((file : List ℕ) → disk.reads state ≡ Some file → BeginRefuses disk stance (script_setting tree site) (StartEvent script agents) file state fault now)
        → Tells old new sink_before sink_after text → Begins script agents tree site status
    begun : {status : ℕ} (started : D) → disk.faults started ≡ disk.faults state → HostsStay host hosts rest → LaunchedOnce host hosts rest → Reports (disk.faults state) (disk.faults now) (source.faults answers) (source.faults unread) old new sink_before sink_after status
        → ∥ Finished disk host source (max site.looks 1) kind (script_setting tree site) (disk.reads state) started (StartEvent script agents ∷ []) hosts rest answers unread history now
        (disk.faults started) (disk.faults now) old new sink_before sink_after status ∥₁
        → ((file : List ℕ) → disk.reads state ≡ Some file → BeginsOver script agents tree site file started)
        → Begins script agents tree site status

  -- The table of both, by what the sources of the two files gave: script or agents file is refused, and then the disk is not called and no answer is read; or both can be built.
  pub data Runs (script agents : Input) : ℕ → Type 0 where
    refused : {status : ℕ} {text : List ℕ} → RefusesFiles script agents status text → now ≡ state → GivesBack hosts rest answers unread history → Tells old new sink_before sink_after text → Runs script agents status
    built : {s a : List ℕ} {tree : Tree} {site : Site} {status : ℕ} → Give script agents s a tree site → Begins s a tree site status → Runs script agents status
