-- What a call writes, and what the store holds behind it (this product's own).
use Rattle.std.specs.Prelude.{◌≡◌, ◌⊎◌, ◌+◌, ◌<◌, ◌^◌, ℕ, true, List, [], ◌∷◌, ◌++◌, Some, IfSome, IsSome}
use Rattle.std.specs.Io.KnownBytes.{IsAtEnd}
use Rattle.command_words.specs.declared.command.Command.{Command}
use Rattle.command_words.specs.declared.command.Command.TheVariants.{Run, Resume, Log, Graph, Check, Generate}
use Rattle.model_syntax.specs.declared.fault.ScriptFault.{ScriptFault}
use Rattle.model_run.specs.declared.agents.AgentsKind.{AgentsKind}
use Rattle.model_run.specs.declared.event.Event.{Event}
use Rattle.model_run.specs.declared.event.Event.TheVariants.{Start as StartEvent}
use Rattle.model_run.specs.GraphText.{graph_text}
use Rattle.model_run.specs.State.{Setting}
use Rattle.image_form.specs.declared.image.Image.{Image}
use Rattle.model_run.specs.World.{Build, world_in}
use Rattle.build_commands.specs.Lower.store_laws.Store.{Mean}
use Rattle.journal_core.specs.Records.{Has}
use Rattle.build_commands.specs.Lower.durable_build.declared.faults.StoreFault.TheVariants.{Damaged}
use Rattle.build_commands.specs.Lower.durable_build.Opening.{OpenFails}
use Rattle.build_commands.specs.Lower.build_store.Saved.{Stores}
use Rattle.build_commands.specs.Files.{HasSite, IsRefused}
use Rattle.build_commands.specs.Statuses.{HasRun, world_status}
use Rattle.build_commands.specs.Lines as run
use Rattle.build_commands.specs.declared.end_text.EndText.{EndText}
use Rattle.build_commands.specs.declared.end_text.EndText.TheVariants as end
use Rattle.build_commands.specs.EndTexts.{world_text}
use Rattle.build_commands.specs.Reporting.{IsTooLong, LeavesStore}
use Rattle.build_commands.specs.Showing.{ShowsLast}
use Rattle.build_commands.specs.Texts as store
use Rattle.controller.specs.Call.{AsksIn, Call, Devices, HeardIn, Is, IsIdle, Finds, LifeIn, Takes, Tells, Unopened, WithFiles, Writes, made, usage_text}

-- the status and the text of a call that does not do what its command is for
pub data Says : ℕ → List ℕ → Type 0 where
  usage : Says 2 usage_text
  script_too_long : Says 4 run.too_long_text
  script_faulty : (fault : ScriptFault) → Says 4 (run.fault_line fault)
  disk_failed : Says 5 store.disk_failed_text
  read_failed : Says 6 run.read_failed_text
  no_memory : Says 8 store.out_of_memory_text
  has_build : Says 9 store.has_build_text
  no_build : Says 9 store.no_build_text
  damaged : (at : ℕ) → Says 9 (store.damaged_text at)
  agents_faulty : (path : List ℕ) (kind : AgentsKind) → Says 13 (run.agents_line path kind)
  full : (len add : ℕ) → 2 ^ 30 < len + add → Says 14 (store.full_text len add)

module _ {D H A : Type 0} (v : Devices D H A) where
  -- The build went on from the events before to these, until it had ended or nobody went on with it; the lines that it heard are those read of the answers; and what was asked for of their world was written, with the status
  -- of that world, or the front of it, and then with 7. Where the disk told its bytes, all these events are durable: a read gives a consistent store of just
  -- them, and so does a crash.
  pub record Delivers (kind : EndText) (setting : Setting) (before events : List Event) (c : Call D H A) : Type 0 where
    pub takes : Takes v setting before events c
    pub rests : ((world_in setting events).ended ≡ true) ⊎ IsIdle v setting events c
    pub heard : HeardIn v c
    pub text : Writes (world_text kind setting events) (world_status (world_in setting events)) c
    pub stores : IsSome (v.disk.reads c.disk) → IfSome (v.disk.reads c.now) (Stores setting events)
    pub durable : IsSome (v.disk.reads c.disk) → (image : List ℕ) → v.disk.may_leave c.now image → Stores setting events image

  -- the events of `run` begin with the `Start` of all bytes of both files
  pub record DeliversRun (kind : EndText) (c : Call D H A) (script agents : List ℕ) : Type 0 where
    pub setting : Setting
    pub mean : Mean script agents setting
    pub more : List Event
    pub delivers : Delivers kind setting (StartEvent script agents ∷ []) (StartEvent script agents ∷ more) c

  -- What is shown of the build of the store, of which no byte changes. It is the text of the last record's image, whatever else the records tell.
  pub record ShowsStore (text_of : Build → List ℕ) (text_in : Image → List ℕ) (c : Call D H A) : Type 0 where
    pub text : HasRun c.status → (setting : Setting) (events : List Event) → Finds v setting events c → Writes (text_of (world_in setting events)) 0 c
    pub last : (file : List ℕ) → v.disk.reads c.disk ≡ Some file → ShowsLast text_in file c.old c.new c.sink_before c.sink_after c.status
    pub unchanged : (file : List ℕ) → v.disk.reads c.disk ≡ Some file → v.disk.reads c.now ≡ Some file
    pub refused : c.status ≡ 9 → ((at : ℕ) × Tells (store.damaged_text at) c × IfSome (v.disk.reads c.disk) (λ file. OpenFails file (Damaged at))) ⊎ (Tells store.no_build_text c × IfSome (v.disk.reads c.disk) (Has []))

  -- A `resume` that went on with a build, over any store, also one of which the disk tells nothing: in a life of members that are made of the hosts and the answers
  -- of the call, whatever they were replied. Of a store whose bytes the disk told, the build has the setting of the first record; up to a moment a crash leaves what it
  -- might have left at the beginning, and from then on the records of the store, whatever they tell, and the first of those of the life behind them, and at the end all
  -- of these, or with 5 perhaps one more; the last of all has an image where a log is written, which is whole, and log and status are those of it. 14 comes where the
  -- record that was due for an event did not fit, which is a grant or was asked for.
  pub record GoesOn (c : Call D H A) : Type 0 where
    pub setting : Setting
    pub life : LifeIn v setting c
    pub leaves : (file : List ℕ) → v.disk.reads c.disk ≡ Some file → LeavesStore v.disk setting file c.history c.disk c.now c.old c.new c.sink_before c.sink_after c.status
    pub too_long : c.status ≡ 14 → ∥ IsTooLong (AsksIn v setting c life) (life.turns ≡ []) c.history c.old c.new c.sink_before c.sink_after ∥₁

  -- `run`, and `gen` on the files that it makes: both were read to their ends, and their build has ended or waits.
  abbrev pub DeliversFiles : EndText → Call D H A → Type 0
  DeliversFiles kind c = HasRun c.status → IsAtEnd c.script.rest × IsAtEnd c.agents.rest × WithFiles c (λ script agents. ∥ DeliversRun kind c script agents ∥₁)

  -- What a command is for: a build that has ended or waits, whose events begin with those of the store; the log or the graph of the store's build; `ok`.
  abbrev pub OutputOf : Command → Call D H A → Type 0
  OutputOf Run c = DeliversFiles end.Log c
  OutputOf (Generate stages) c = DeliversFiles (end.Numbers stages) (made stages c)
  OutputOf Resume c = (HasRun c.status → (setting : Setting) (events : List Event) → Finds v setting events c → ∥ ((more : List Event) × Delivers end.Log setting events (events ++ more) c) ∥₁) × (Unopened v c ⊎ GoesOn c)
  OutputOf Log c = ShowsStore (λ w. w.shared.log) (λ i. i.log) c
  OutputOf Graph c = ShowsStore (λ w. graph_text w.shared.nodes) (λ i. graph_text i.nodes) c
  OutputOf Check c = HasRun c.status → Writes store.ok_text 0 c × WithFiles c (λ script agents. HasSite agents × ¬ (IsRefused script))

  pub record Output (c : Call D H A) : Type 0 where
    pub command : (command : Command) → Is command c → OutputOf command c
    -- any other status has its text
    pub refusal : HasRun c.status ⊎ ((text : List ℕ) × Says c.status text × Tells text c)
