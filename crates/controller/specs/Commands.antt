-- What each command does, by its own table in `build_commands`. The parts of a call's contract follow from it.
use Rattle.std.specs.Prelude.{◌≡◌, ℕ, List, Some}
use Rattle.command_words.specs.declared.command.Command.TheVariants.{Run, Resume, Log, Graph, Check, Generate}
use Rattle.command_words.specs.Words.{IsCommand}
use Rattle.jp_disk.specs.Runs.{AtEachMoment}
use Rattle.image_form.specs.declared.image.Image.{Image}
use Rattle.model_run.specs.declared.event.Event.{Event}
use Rattle.model_run.specs.GraphText.{graph_text}
use Rattle.model_run.specs.State.{Setting}
use Rattle.model_run.specs.World.{Build}
use Rattle.settle_laws.specs.Stances.{Stance}
use Rattle.build_commands.specs.Lower.build_store.Saved.{Stores}
use Rattle.build_commands.specs.declared.end_text.EndText.{EndText}
use Rattle.build_commands.specs.declared.end_text.EndText.TheVariants as end
use Rattle.build_commands.specs.Beginning.{Runs}
use Rattle.build_commands.specs.Checking.{Checks}
use Rattle.build_commands.specs.Resuming.{Resumes, Reopens}
use Rattle.build_commands.specs.Showing as showing
use Rattle.controller.specs.Call.{Call, Devices, Is, IsUnled, Tells, made, usage_text}
use Rattle.controller.specs.Reads.{ReadsFiles, ReadsNoFile}

module _ {D H A : Type 0} (v : Devices D H A) where
  -- a command that shows the build of the store, by this text of it
  pub record ShowsBy (text_of : Build → List ℕ) (text_in : Image → List ℕ) (c : Call D H A) : Type 0 where
    pub causes : showing.Causes (v.disk.reads c.disk) (v.disk.faults c.disk) (v.disk.faults c.now) c.sink_before c.sink_after c.status
    pub shows : showing.Shows text_of (v.disk.reads c.disk) (v.disk.faults c.disk) (v.disk.faults c.now) c.old c.new c.sink_before c.sink_after c.status
    pub last : (file : List ℕ) → v.disk.reads c.disk ≡ Some file → showing.ShowsLast text_in file c.old c.new c.sink_before c.sink_after c.status
    pub store : (file : List ℕ) → v.disk.reads c.disk ≡ Some file → v.disk.reads c.now ≡ Some file
    pub any_moment : AtEachMoment v.disk c.disk c.now (v.disk.may_leave c.disk)

  -- `resume`, over any store, and over a consistent one
  pub record ResumesBy (c : Call D H A) : Type 0 where
    pub reopens : Reopens v.disk v.host v.source c.hosts c.hosts_now c.answers c.answers_now c.history
        c.disk c.now c.old c.new c.sink_before c.sink_after c.status
    pub resumes : (file : List ℕ) → v.disk.reads c.disk ≡ Some file → (setting : Setting) (events : List Event) → Stores setting events file
        → Resumes v.disk v.host v.source c.hosts c.hosts_now c.answers c.answers_now c.history
        setting events c.disk c.now c.old c.new c.sink_before c.sink_after c.status

  -- `run`, and `gen` on the files that it makes
  abbrev pub RunsBy : {T : Type 0} → (T → Stance) → EndText → Call D H A → ℕ → Type 0
  RunsBy stance kind c status = Runs v.disk stance v.host v.source c.disk c.now c.hosts c.hosts_now c.answers c.answers_now c.history
      kind c.old c.new c.sink_before c.sink_after c.script c.agents status

  -- the words are no command, or this is what the command does
  pub data Does {T : Type 0} (stance : T → Stance) (c : Call D H A) : Type 0 where
    usage : ¬ (IsCommand c.words) → ReadsNoFile c → IsUnled c → c.now ≡ c.disk → c.status ≡ 2 → Tells usage_text c → Does stance c
    runs : Is Run c → ReadsFiles c → RunsBy stance end.Log c c.status → Does stance c
    generates : (stages : ℕ) → Is (Generate stages) c → ReadsNoFile c → RunsBy stance (end.Numbers stages) (made stages c) c.status → Does stance c
    resumes : Is Resume c → ReadsNoFile c → ResumesBy c → Does stance c
    logs : Is Log c → ReadsNoFile c → IsUnled c → ShowsBy (λ w. w.shared.log) (λ i. i.log) c → Does stance c
    graphs : Is Graph c → ReadsNoFile c → IsUnled c → ShowsBy (λ w. graph_text w.shared.nodes) (λ i. graph_text i.nodes) c → Does stance c
    checks : Is Check c → ReadsFiles c → IsUnled c → c.now ≡ c.disk → Checks c.script c.agents c.old c.new c.sink_before c.sink_after c.status → Does stance c
