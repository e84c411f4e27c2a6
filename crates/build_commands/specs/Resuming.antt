-- What `resume` does with a consistent store (this product's own).
use Rattle.std.specs.Prelude.{◌≡◌, ℕ, ℤ, List, [], Option, Some, IfSome, max}
use Rattle.device_faults.specs.Faults.{Rose}
use Rattle.jp_disk.specs.Runs.{AtEachMoment}
use Rattle.model_run.specs.declared.event.Event.{Event}
use Rattle.model_run.specs.State.{Setting}
use Rattle.task_host.specs.declared.call.Call.{Call}
use Rattle.task_host.specs.declared.order.Stream.{Stream}
use Rattle.build_life.specs.Lower.locked_build.declared.ask.Entry.{Entry}
use Rattle.build_commands.specs.declared.end_text.EndText.TheVariants.{Log}
use Rattle.build_commands.specs.Launching.{LaunchedOnce}
use Rattle.build_commands.specs.Leading.{IsLed}
use Rattle.build_commands.specs.Living.{Finished, HostsStay}
use Rattle.build_commands.specs.Reporting.{LeavesStore, Reports}
use Rattle.build_commands.specs.Showing.{HasBuild, NotTold}
use Rattle.build_commands.specs.Texts.{disk_failed_text, no_build_text, out_of_memory_text}
use Rattle.build_commands.specs.Writing as writing
use Rattle.jp_disk.specs.View.{DiskView}
use Rattle.task_host.specs.View.{HostView}
use Rattle.jp_io.specs.View.{SourceView}

-- Why a consistent store of these events was not opened, with status and text.
pub data NotOpened (events : List Event) (disk_before disk_after : ℕ) : ℕ → List ℕ → Type 0 where
  no_build : events ≡ [] → NotOpened events disk_before disk_after 9 no_build_text
  disk_failed : Rose disk_before disk_after → NotOpened events disk_before disk_after 5 disk_failed_text
  no_memory : NotOpened events disk_before disk_after 8 out_of_memory_text

-- Nothing was written: the disk reads what it read, and a crash leaves nothing new.
pub record IsUntouched {D : Type 0} (disk : DiskView D) (old now : D) : Type 0 where
  pub same : (file : List ℕ) → disk.reads old ≡ Some file → disk.reads now ≡ Some file
  pub moments : AtEachMoment disk old now (disk.may_leave old)

-- a command that lets no build go on gives hosts and answers back as they were, and has no history
abbrev pub GivesBack : {H A : Type 0} → List H → List H → A → A → List Entry → Type 0
GivesBack hosts rest answers unread history = (rest ≡ hosts) × (unread ≡ answers) × (history ≡ [])

module _ {D H A : Type 0} (disk : DiskView D) (host : HostView H) (source : SourceView A) (hosts rest : List H) (answers unread : A) (history : List Entry) where
  module _ (setting : Setting) (events : List Event) (old state : D) where
    -- The store was not opened, and nothing was written; or it was, at a moment up to which a crash leaves nothing new, and its build went on.
    pub data Resumes (written now : Option (List ℕ)) (sink_before sink_after : ℕ) : ℕ → Type 0 where
      refused : {status : ℕ} {text : List ℕ} → GivesBack hosts rest answers unread history → IsUntouched disk old state → NotOpened events (disk.faults old) (disk.faults state) status text → writing.Tells written now sink_before sink_after text
          → Resumes written now sink_before sink_after status
      went_on : {status : ℕ} (opened : D) → AtEachMoment disk old opened (disk.may_leave old) → disk.faults opened ≡ disk.faults old
          → Reports (disk.faults old) (disk.faults state) (source.faults answers) (source.faults unread) written now sink_before sink_after status
          → ∥ Finished disk host source (max setting.site.looks 1) Log setting (disk.reads old) opened events hosts rest answers unread history state
          (disk.faults opened) (disk.faults state) written now sink_before sink_after status ∥₁
          → Resumes written now sink_before sink_after status

  -- What `resume` comes to over any store, also one of which the disk tells nothing: it was not opened, no answer was read and nothing was written; or it was, and its
  -- build went on, in a life of members that are made of these hosts and answers.
  pub data Reopens (old state : D) (written now : Option (List ℕ)) (sink_before sink_after : ℕ) : ℕ → Type 0 where
    unopened : {status : ℕ} {text : List ℕ} → GivesBack hosts rest answers unread history → IsUntouched disk old state → NotTold (disk.reads old) (disk.faults old) (disk.faults state) status text → writing.Tells written now sink_before sink_after text
        → Reopens old state written now sink_before sink_after status
    goes_on : {status : ℕ} (setting : Setting)
        → IsLed host source (max setting.site.looks 1) setting hosts rest answers unread history written now sink_before sink_after status
        → HostsStay host hosts rest → LaunchedOnce host hosts rest → IfSome (disk.reads old) HasBuild
        → ((file : List ℕ) → disk.reads old ≡ Some file → LeavesStore disk setting file history old state written now sink_before sink_after status)
        → Reports (disk.faults old) (disk.faults state) (source.faults answers) (source.faults unread) written now sink_before sink_after status
        → Reopens old state written now sink_before sink_after status
