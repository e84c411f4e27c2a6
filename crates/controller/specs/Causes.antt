-- When each status of a call comes: the table of statuses in docs/USING.md (this product's own).
use Rattle.std.specs.Prelude.{◌≡◌, ◌⊎◌, ◌↔◌, ◌+◌, ◌<◌, ◌^◌, ℕ, true, false, List, [], ◌∷◌, ◌++◌, Some, IsSome}
use Rattle.command_words.specs.declared.command.Command.{Command}
use Rattle.command_words.specs.declared.command.Command.TheVariants.{Run, Resume, Log, Graph, Check, Generate}
use Rattle.command_words.specs.Words.{IsCommand}
use Rattle.device_faults.specs.Faults.{Rose}
use Rattle.jp_disk.specs.Images.{IsOnlyImage}
use Rattle.journal_core.specs.Answers.{IsStarted}
use Rattle.journal_core.specs.Records.{Has, records}
use Rattle.model_run.specs.declared.event.Event.{Event}
use Rattle.model_run.specs.declared.event.Event.TheVariants.{Start as StartEvent}
use Rattle.model_run.specs.State.{Setting}
use Rattle.model_run.specs.World.{world_in}
use Rattle.build_commands.specs.Lower.store_laws.Store.{Mean}
use Rattle.build_commands.specs.Lower.delta_records.declared.payload.Payload.TheVariants.{Whole}
use Rattle.build_commands.specs.Lower.durable_build.Taking.{added}
use Rattle.build_commands.specs.Lower.build_store.Lives.{image_after}
use Rattle.build_commands.specs.Lower.build_store.Saved.{Stores}
use Rattle.build_commands.specs.Files.{HasSite, IsRefused, OfFiles}
use Rattle.build_commands.specs.Inputs.{HasFailed}
use Rattle.build_commands.specs.Statuses.{HasLog, HasRun, world_status}
use Rattle.build_commands.specs.Finishing.{ComesNext, IsFull}
use Rattle.build_commands.specs.Plans.{AreCalm}
use Rattle.build_commands.specs.Resuming.{IsUntouched}
use Rattle.build_commands.specs.Texts.{full_text, has_build_text}
use Rattle.build_commands.specs.Showing as showing
use Rattle.build_commands.specs.Showing.{HasNone, NotTold}
use Rattle.controller.specs.Call.{AreRead, Call, ComesIn, Devices, HeardIn, Is, IsIdle, IsUnheard, IsUnled, Finds, LifeIn, Takes, Tells, Unopened, WithFiles, answered, made}

-- the status of a build that has ended or waits; or want of memory, or a store that is full
abbrev pub HasWorked : ℕ → Type 0
HasWorked status = HasLog status ⊎ (status ≡ 8) ⊎ (status ≡ 14)

module _ {D H A : Type 0} (v : Devices D H A) where
  abbrev pub DiskFailed : Call D H A → Type 0
  DiskFailed c = Rose (v.disk.faults c.disk) (v.disk.faults c.now)

  abbrev pub SinkFailed : Call D H A → Type 0
  SinkFailed c = Rose c.sink_before c.sink_after

  -- With which status a call stops whose build has these events. Where it has ended or waits, the status is 7 where the sink failed. Memory may be wanted behind
  -- the end too; every other fault stops a build that has not ended. But for want of memory, a fault of the disk and a full store, the lines that were heard are
  -- those that were read.
  pub data Stops (setting : Setting) (events : List Event) (c : Call D H A) (life : LifeIn v setting c) : ℕ → Type 0 where
    ended : (world_in setting events).ended ≡ true → HeardIn v c → Stops setting events c life (world_status (world_in setting events))
    waits : IsIdle v setting events c → HeardIn v c → Stops setting events c life 3
    cut : ((world_in setting events).ended ≡ true) ⊎ IsIdle v setting events c → HeardIn v c → SinkFailed c → Stops setting events c life 7
    unheard : IsUnheard setting events → HeardIn v c → HasFailed (answered v c) → Stops setting events c life 6
    disk_failed : (world_in setting events).ended ≡ false → DiskFailed c → Stops setting events c life 5
    -- the text tells the length of the store's journal, and what the record that is due for the next event would add
    full : (len add : ℕ) → (world_in setting events).ended ≡ false → IsFull (ComesIn v setting c life) setting (v.disk.reads c.disk) (v.disk.reads c.now) events len add → Tells (full_text len add) c → Stops setting events c life 14
    no_memory : Stops setting events c life 8

  -- The build went on from these events, to these ones. Where the disk told its bytes, a crash leaves just these then, or with 5 the next one too.
  pub record WentOn (setting : Setting) (before : List Event) (c : Call D H A) : Type 0 where
    pub more : List Event
    pub takes : Takes v setting before (before ++ more) c
    pub images : IsSome (v.disk.reads c.disk) → (image : List ℕ) → v.disk.may_leave c.now image
        → Stores setting (before ++ more) image
        ⊎ ((c.status ≡ 5) × (event : Event) × ComesNext (ComesIn v setting c takes.life) setting (before ++ more) event × Stores setting ((before ++ more) ++ event ∷ []) image)
    pub stops : Stops setting (before ++ more) c takes.life c.status

  -- no device counted a fault
  pub record AllCalm (c : Call D H A) : Type 0 where
    pub files : AreRead c
    pub answers : ¬ (HasFailed (answered v c))
    pub disk : ¬ (DiskFailed c)
    pub sink : ¬ (SinkFailed c)

  -- Nothing was done with the files: one was refused or not read, or memory was wanting.
  pub record LeavesAll (c : Call D H A) : Type 0 where
    pub why : (c.status ≡ 4) ⊎ (c.status ≡ 13) ⊎ (c.status ≡ 8) ⊎ ((c.status ≡ 6) × (HasFailed c.script ⊎ HasFailed c.agents))
    pub disk : c.now ≡ c.disk
    pub unled : IsUnled c

  -- the record of the `Start` of these files is too long for any store, and the text tells that
  pub record IsFullAtOnce (script agents : List ℕ) (c : Call D H A) : Type 0 where
    pub setting : Setting
    pub mean : Mean script agents setting
    pub too_long : 2 ^ 30 < 1 + added (Whole (StartEvent script agents) (image_after setting (StartEvent script agents ∷ [])))
    pub told : Tells (full_text 1 (added (Whole (StartEvent script agents) (image_after setting (StartEvent script agents ∷ []))))) c

  -- No build of these files was begun: the store has one, or the disk failed, or memory was wanting, or the `Start` is too long. Of a disk that told its bytes a
  -- crash leaves then what it might have left at the beginning, or the records that the file had; or with 5, where it had none, the `Start`.
  pub record Unbegun (c : Call D H A) (script agents : List ℕ) : Type 0 where
    pub why : (c.status ≡ 9) ⊎ (c.status ≡ 5) ⊎ (c.status ≡ 8) ⊎ ((c.status ≡ 14) × IsFullAtOnce script agents c)
    pub unled : IsUnled c
    pub images : (file : List ℕ) → v.disk.reads c.disk ≡ Some file → (image : List ℕ) → v.disk.may_leave c.now image
        → v.disk.may_leave c.disk image ⊎ (records image ≡ records file) ⊎ ((c.status ≡ 5) × Has [] file × (setting : Setting) × Mean script agents setting × Stores setting (StartEvent script agents ∷ []) image)

  -- `run` of these files went on with their build, from its `Start`
  pub record RunWentOn (c : Call D H A) (script agents : List ℕ) : Type 0 where
    pub setting : Setting
    pub mean : Mean script agents setting
    pub went_on : WentOn setting (StartEvent script agents ∷ []) c

  -- where the source of one of the files counted a fault, that is told, and nothing is done
  abbrev pub TellsUnread : Call D H A → Type 0
  TellsUnread c = ¬ (AreCalm c.script c.agents) → (c.status ≡ 6) × (c.now ≡ c.disk) × IsUnled c

  pub record RunCauses (c : Call D H A) : Type 0 where
    -- 6, 5 and 7 only where a source, the disk and the sink counted a fault
    pub source : c.status ≡ 6 → HasFailed c.script ⊎ HasFailed c.agents ⊎ HasFailed (answered v c)
    pub unread : TellsUnread c
    pub disk : c.status ≡ 5 → DiskFailed c
    pub sink : c.status ≡ 7 → SinkFailed c
    -- 9 only where the store has a record or the beginning of one, and then no byte of it changes, in a crash neither; and there always, where both files can be
    -- built, but for a failing disk and want of memory
    pub has_build : c.status ≡ 9 → Tells has_build_text c × ((file : List ℕ) → v.disk.reads c.disk ≡ Some file → IsStarted file × (v.disk.reads c.now ≡ Some file) × IsOnlyImage file (v.disk.may_leave c.now))
    pub finds_build : AreRead c → (file : List ℕ) → v.disk.reads c.disk ≡ Some file → IsStarted file
        → OfFiles c.script c.agents (λ script agents. HasSite agents → ¬ (IsRefused script) → (c.status ≡ 9) ⊎ (c.status ≡ 8) ⊎ (c.status ≡ 5))
    -- where a log was shown, or of `gen` its six lines, whole or the beginning, the disk counted no fault
    pub calm : HasRun c.status → v.disk.faults c.now ≡ v.disk.faults c.disk
    -- a build was not begun, or went on until it had ended, or nobody or nothing let it go on
    pub went_on : LeavesAll c ⊎ WithFiles c (λ script agents. Unbegun c script agents ⊎ ∥ RunWentOn c script agents ∥₁)
    -- over a store without a record, and files that can be built, where no device failed: the status of a build
    pub works : AllCalm c → (file : List ℕ) → v.disk.reads c.disk ≡ Some file → ¬ (IsStarted file) → OfFiles c.script c.agents (λ script agents. HasSite agents → ¬ (IsRefused script) → HasWorked c.status)

  pub record ResumeCauses (c : Call D H A) : Type 0 where
    pub answers : c.status ≡ 6 → HasFailed (answered v c)
    pub disk : c.status ≡ 5 → DiskFailed c
    pub sink : c.status ≡ 7 → SinkFailed c
    -- 9 only where the store has no record, or is damaged, with the text of that, and there always, but for a failing disk and want of memory; and whichever of
    -- the three comes, nothing is read or written there
    pub no_build : c.status ≡ 9 → (text : List ℕ) × NotTold (v.disk.reads c.disk) (v.disk.faults c.disk) (v.disk.faults c.now) c.status text × Tells text c
    pub finds_none : (file : List ℕ) → v.disk.reads c.disk ≡ Some file → HasNone file → ((c.status ≡ 9) ⊎ (c.status ≡ 8) ⊎ (c.status ≡ 5)) × IsUntouched v.disk c.disk c.now × IsUnled c
    pub calm : HasRun c.status → v.disk.faults c.now ≡ v.disk.faults c.disk
    -- a build that was opened went on, until it had ended, or nobody or nothing let it go on
    pub went_on : (setting : Setting) (events : List Event) → Finds v setting events c → Unopened v c ⊎ ∥ WentOn setting events c ∥₁
    pub works : AllCalm c → (setting : Setting) (events : List Event) → Finds v setting events c → ¬ (events ≡ []) → HasWorked c.status

  pub record CheckCauses (c : Call D H A) : Type 0 where
    pub known : (c.status ≡ 0) ⊎ (c.status ≡ 4) ⊎ (c.status ≡ 6) ⊎ (c.status ≡ 7) ⊎ (c.status ≡ 8) ⊎ (c.status ≡ 13)
    pub source : c.status ≡ 6 → HasFailed c.script ⊎ HasFailed c.agents
    pub unread : TellsUnread c
    pub sink : c.status ≡ 7 → SinkFailed c
    pub works : AreRead c → ¬ (SinkFailed c) → OfFiles c.script c.agents (λ script agents. HasSite agents → ¬ (IsRefused script) → (c.status ≡ 0) ⊎ (c.status ≡ 8))

  abbrev pub CausesOf : Command → Call D H A → Type 0
  CausesOf Run c = RunCauses c
  CausesOf Resume c = ResumeCauses c
  CausesOf Log c = showing.Causes (v.disk.reads c.disk) (v.disk.faults c.disk) (v.disk.faults c.now) c.sink_before c.sink_after c.status
  CausesOf Graph c = showing.Causes (v.disk.reads c.disk) (v.disk.faults c.disk) (v.disk.faults c.now) c.sink_before c.sink_after c.status
  CausesOf Check c = CheckCauses c
  CausesOf (Generate stages) c = RunCauses (made stages c)

  pub record Causes (c : Call D H A) : Type 0 where
    -- 2 exactly where the words are no command
    pub usage : (c.status ≡ 2) ↔ (¬ (IsCommand c.words))
    pub command : (command : Command) → Is command c → CausesOf command c
