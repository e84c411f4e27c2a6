-- What a crash may leave of the store, at each moment of a call (this product's own).
use Rattle.std.specs.Prelude.{◌≡◌, ◌⊎◌, ℕ, List, [], ◌∷◌, ◌++◌, Option, None, Some, IfSome, IsSomeAnd}
use Rattle.command_words.specs.declared.command.Command.{Command}
use Rattle.command_words.specs.declared.command.Command.TheVariants.{Run, Resume, Log, Graph, Check, Generate}
use Rattle.command_words.specs.Words.{IsCommand}
use Rattle.device_faults.specs.Faults.{Rose}
use Rattle.jp_disk.specs.Images.{IsOnlyImage}
use Rattle.jp_disk.specs.Runs.{AtEachMoment}
use Rattle.journal_core.specs.Answers.{IsStarted}
use Rattle.journal_core.specs.Moments.{SinceSync}
use Rattle.journal_core.specs.Records.{records}
use Rattle.model_run.specs.declared.event.Event.{Event}
use Rattle.model_run.specs.declared.event.Event.TheVariants.{Start as StartEvent}
use Rattle.model_run.specs.State.{Setting}
use Rattle.model_run.specs.World.{world_in}
use Rattle.build_commands.specs.Lower.store_laws.Store.{Mean}
use Rattle.build_commands.specs.Lower.build_store.Saved.{Stores, Survives}
use Rattle.build_commands.specs.Statuses.{HasRun, world_status}
use Rattle.build_commands.specs.declared.end_text.EndText.{EndText}
use Rattle.build_commands.specs.declared.end_text.EndText.TheVariants as end
use Rattle.build_commands.specs.EndTexts.{world_text}
use Rattle.build_commands.specs.Finishing.{ComesNext}
use Rattle.build_commands.specs.Resuming.{IsUntouched}
use Rattle.controller.specs.Call.{Call, ComesIn, Devices, Is, Finds, Takes, WithFiles, Writes, made}

module _ {D H A : Type 0} (v : Devices D H A) where
  -- a crash leaves nothing that it might not have left at the beginning
  abbrev pub Stays : Call D H A → Type 0
  Stays c = AtEachMoment v.disk c.disk c.now (v.disk.may_leave c.disk)

  -- Up to a moment a crash leaves what it might have left at the beginning; from then on a consistent store, whose events begin with these and are a front
  -- of the taken ones, or all of them and the one whose take the disk failed. At the end it leaves all taken ones. A text that is shown is theirs, and then
  -- they are all that a crash leaves.
  pub record Lasts (kind : EndText) (setting : Setting) (before taken : List Event) (risked : Option Event) (c : Call D H A) : Type 0 where
    pub origin : D
    pub up_to : AtEachMoment v.disk c.disk origin (v.disk.may_leave c.disk)
    pub from_then : AtEachMoment v.disk origin c.now (Survives setting before taken risked)
    pub at_end : (image : List ℕ) → v.disk.may_leave c.now image → Stores setting taken image ⊎ IsSomeAnd risked (λ e. Stores setting (taken ++ e ∷ []) image)
    pub sure : ¬ (Rose (v.disk.faults c.disk) (v.disk.faults c.now)) → risked ≡ None
    pub shown : HasRun c.status → (risked ≡ None) × Writes (world_text kind setting taken) (world_status (world_in setting taken)) c

  -- a life took these events, from those before on; and the one whose take the disk failed came next
  pub record TakesUpTo (setting : Setting) (before taken : List Event) (risked : Option Event) (c : Call D H A) : Type 0 where
    pub takes : Takes v setting before taken c
    pub next : IfSome risked (ComesNext (ComesIn v setting c takes.life) setting taken)

  -- `run` of these files, over a store without a record: their `Start` was taken, and events behind it; or nothing was. The moment is that of a sync, at which
  -- a crash leaves just the file.
  pub record LastsRun (kind : EndText) (c : Call D H A) (file script agents : List ℕ) : Type 0 where
    pub setting : Setting
    pub mean : Mean script agents setting
    pub taken : List Event
    pub risked : Option Event
    pub lasts : Lasts kind setting [] taken risked c
    pub synced : IsOnlyImage file (v.disk.may_leave lasts.origin)
    pub starts : TakesUpTo setting (StartEvent script agents ∷ []) taken risked c ⊎ ((taken ≡ []) × IfSome risked (λ e. e ≡ StartEvent script agents))

  -- `resume` of a consistent store: events were taken behind those that it had
  pub record LastsResume (setting : Setting) (events : List Event) (c : Call D H A) : Type 0 where
    pub taken : List Event
    pub risked : Option Event
    pub takes : TakesUpTo setting events taken risked c
    pub lasts : Lasts end.Log setting events taken risked c

  -- `run`, and `gen` on the files that it makes
  abbrev pub LeavesRun : EndText → Call D H A → Type 0
  LeavesRun kind c = (file : List ℕ) → v.disk.reads c.disk ≡ Some file
      → Stays c ⊎ (SinceSync v.disk file c.disk c.now (λ image. records image ≡ records file) ⊎ (¬ (IsStarted file) × WithFiles c (λ script agents. ∥ LastsRun kind c file script agents ∥₁)))

  -- `run` over a store with a record leaves its records as they are, and so does `resume` of one that it tells to have none, or to be damaged, byte for byte;
  -- `log` and `graph` let a crash leave nothing new, and `check` does not call the disk.
  abbrev pub CrashOf : Command → Call D H A → Type 0
  CrashOf Run c = LeavesRun end.Log c
  CrashOf (Generate stages) c = LeavesRun (end.Numbers stages) (made stages c)
  CrashOf Resume c =
      (c.status ≡ 9 → IsUntouched v.disk c.disk c.now)
      × ((setting : Setting) (events : List Event) → Finds v setting events c → Stays c ⊎ ∥ LastsResume setting events c ∥₁)
  CrashOf Log c = Stays c
  CrashOf Graph c = Stays c
  CrashOf Check c = c.now ≡ c.disk

  pub record Crash (c : Call D H A) : Type 0 where
    pub command : (command : Command) → Is command c → CrashOf command c
    pub usage : ¬ (IsCommand c.words) → c.now ≡ c.disk
