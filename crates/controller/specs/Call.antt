-- A call of the controller, as its contract sees it: what came in, and what it left. This product's own.
use Rattle.std.specs.Prelude.{◌≡◌, ◌⊎◌, ◌<◌, ℕ, false, max, List, Option, Some, None, codes}
use Rattle.std.specs.Io.KnownBytes.{IsAtEnd}
use Rattle.build_requests.specs.Waiting.{open_tasks, waiting_inputs}
use Rattle.command_words.specs.declared.command.Command.{Command}
use Rattle.command_words.specs.Words.{Gives}
use Rattle.model_run.specs.declared.event.Event.{Event}
use Rattle.model_run.specs.State.{Setting}
use Rattle.model_run.specs.World.{next_grant, world_in}
use Rattle.build_commands.specs.Lower.build_store.Saved.{Stores}
use Rattle.build_commands.specs.Lower.locked_build.declared.ask.Entry.{Entry}
use Rattle.build_commands.specs.Lower.locked_build.Histories.{lines}
use Rattle.build_commands.specs.Inputs.{Input, HasFailed, taken_from}
use Rattle.generated_build.specs.Files.{agents_of_any, script_of}
use Rattle.build_commands.specs.Living.{ComesBy, HeardOf, IsRefused, Lived, LivedBy}
use Rattle.build_commands.specs.Plans.{Hold, whole}
use Rattle.build_commands.specs.Resuming.{GivesBack, IsUntouched}
use Rattle.build_commands.specs.Writing as writing
use Rattle.jp_disk.specs.View.{DiskView}
use Rattle.task_host.specs.View.{HostView}
use Rattle.jp_io.specs.View.{SourceView}

-- What devices tell of each of their states: the disk of the store, the host of an executor, and the source of the answers.
pub record Devices (D H A : Type 0) : Type 1 where
  pub disk : DiskView D
  pub host : HostView H
  pub source : SourceView A

-- The words of the command line, what was taken from the sources of the two files; disk, hosts and answers at the beginning and at the end, of which host i is
-- that of executor i; the history of the life that the call led; the bytes of the sink where it tells them with its count of faults; and the exit status.
pub record Call (D H A : Type 0) : Type 0 where
  pub words : List (List ℕ)
  pub script : Input
  pub agents : Input
  pub disk : D
  pub now : D
  pub hosts : List H
  pub hosts_now : List H
  pub answers : A
  pub answers_now : A
  pub history : List Entry
  pub old : Option (List ℕ)
  pub new : Option (List ℕ)
  pub sink_before : ℕ
  pub sink_after : ℕ
  pub status : ℕ

module _ {D H A : Type 0} where
  abbrev pub devices : DiskView D → HostView H → SourceView A → Devices D H A
  devices disk host source = record { disk = disk; host = host; source = source }

  abbrev pub call_of : List (List ℕ) → Input → Input → D → D → List H → List H → A → A → List Entry → Option (List ℕ) → Option (List ℕ) → ℕ → ℕ → ℕ → Call D H A
  call_of words script agents disk now hosts hosts_now answers answers_now history old new before after status = record {
    words = words;
    script = script;
    agents = agents;
    disk = disk;
    now = now;
    hosts = hosts;
    hosts_now = hosts_now;
    answers = answers;
    answers_now = answers_now;
    history = history;
    old = old;
    new = new;
    sink_before = before;
    sink_after = after;
    status = status;
  }

  -- the words are this command
  abbrev pub Is : Command → Call D H A → Type 0
  Is command c = (word : List ℕ) × Gives c.words command word

  -- the call as one of `run` whose sources had just the files that `gen` makes for so many stages
  abbrev pub made : ℕ → Call D H A → Call D H A
  made stages c = record c { script = whole (script_of stages); agents = whole agents_of_any }

  -- neither the source of the script nor that of the agents file counted a fault
  abbrev pub AreRead : Call D H A → Type 0
  AreRead c = ¬ (HasFailed c.script) × ¬ (HasFailed c.agents)

  -- no life was led: hosts and answers came back as they were, and there is no history
  abbrev pub IsUnled : Call D H A → Type 0
  IsUnled c = GivesBack c.hosts c.hosts_now c.answers c.answers_now c.history

  -- There are bytes of script and agents file, those that their sources had left where they tell them, of which this holds.
  abbrev pub WithFiles : Call D H A → (List ℕ → List ℕ → Type 0) → Type 0
  WithFiles c P = (script : List ℕ) × (agents : List ℕ) × Hold c.script c.agents script agents × P script agents

  -- the text that a command is for was written, with this status; or its front, and then the status is 7
  abbrev pub Writes : List ℕ → ℕ → Call D H A → Type 0
  Writes text status c = writing.Writes c.old c.new c.sink_before c.sink_after text status c.status

  -- the text of a refusal was written, or its front
  abbrev pub Tells : List ℕ → Call D H A → Type 0
  Tells text c = writing.Tells c.old c.new c.sink_before c.sink_after text

module _ {D H A : Type 0} (v : Devices D H A) where
  -- the store was not opened, and nothing was read or written
  pub record Unopened (c : Call D H A) : Type 0 where
    pub why : (c.status ≡ 9) ⊎ (c.status ≡ 5) ⊎ (c.status ≡ 8)
    pub disk : IsUntouched v.disk c.disk c.now
    pub unled : IsUnled c

  -- what was taken from the answers
  abbrev pub answered : Call D H A → Input
  answered c = taken_from v.source c.answers c.answers_now

  -- The disk tells its bytes at the beginning, and they are a consistent store of these events.
  pub record Finds (setting : Setting) (events : List Event) (c : Call D H A) : Type 0 where
    pub file : List ℕ
    pub told : v.disk.reads c.disk ≡ Some file
    pub stores : Stores setting events file

  -- A life with the history of the call and the members that are made of its hosts and answers, for the executors of this setting: what they did, and what they
  -- became, whatever they were replied; which build replied, `Takes` says. A site's number of looks is at least 1.
  abbrev pub LifeIn : Setting → Call D H A → Type 0
  LifeIn setting c = Lived v.host v.source (max setting.site.looks 1) setting c.hosts c.hosts_now c.answers c.answers_now c.history

  -- A life went on from the events before to these: by the grants that were due, by what executors reported with their cause, and by the decisions of lines that
  -- were read of the answers.
  pub record Takes (setting : Setting) (before events : List Event) (c : Call D H A) : Type 0 where
    pub life : LifeIn setting c
    pub goes : LivedBy v.host v.source (max setting.site.looks 1) setting before life events

  -- a turn of that life asked for the event, which the disk or the limit kept
  abbrev pub AsksIn : (setting : Setting) → (c : Call D H A) → LifeIn setting c → Event → Type 0
  AsksIn setting c life = IsRefused v.host v.source (max setting.site.looks 1) life.turns

  -- behind these events this one came next in that life, and there is a cause for it
  abbrev pub ComesIn : (setting : Setting) → (c : Call D H A) → LifeIn setting c → List Event → Event → Type 0
  ComesIn setting c life events event = ComesBy v.host v.source (max setting.site.looks 1) setting life.turns events event

  -- What was read of the answers, and that the lines of the history are those that were read.
  abbrev pub HeardIn : Call D H A → Type 0
  HeardIn c = ∥ HeardOf v.source c.answers c.answers_now (lines c.history) ∥₁

  -- nobody goes on with the build: no grant is due, no task is open, and no input is open or the answers were read to their end
  pub record IsIdle (setting : Setting) (events : List Event) (c : Call D H A) : Type 0 where
    pub going : (world_in setting events).ended ≡ false
    pub granted : next_grant setting (world_in setting events) ≡ None
    pub no_task : open_tasks (world_in setting events).shared.requests ≡ 0
    pub heard : (waiting_inputs (world_in setting events).shared.requests ≡ 0) ⊎ IsAtEnd (v.source.left c.answers_now)

-- an input is open, and nobody else goes on with the build
pub record IsUnheard (setting : Setting) (events : List Event) : Type 0 where
  pub going : (world_in setting events).ended ≡ false
  pub granted : next_grant setting (world_in setting events) ≡ None
  pub no_task : open_tasks (world_in setting events).shared.requests ≡ 0
  pub waits : 0 < waiting_inputs (world_in setting events).shared.requests

-- how to use the program
abbrev pub usage_text : List ℕ
usage_text = codes "usage: controller run|resume|log|graph|check DIR\n       controller gen N\n"
