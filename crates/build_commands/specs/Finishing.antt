-- How a life ends that a command lets go on, with its status and its text (this product's own).
use Rattle.std.specs.Prelude.{◌≡◌, ◌⊎◌, ◌+◌, ◌<◌, ◌^◌, ℕ, false, List, [], ◌∷◌, ◌++◌, Option, Some, None, true, IfSome, IsSome, IsSomeAnd, Result, Ok, Err}
use Rattle.device_faults.specs.Faults.{Rose}
use Rattle.jp_disk.specs.Runs.{AtEachMoment}
use Rattle.journal_core.specs.declared.faults.TakeFault.{TakeFault}
use Rattle.model_run.specs.declared.event.Event.{Event}
use Rattle.image_form.specs.declared.image.Image.{Image}
use Rattle.model_run.specs.State.{Setting}
use Rattle.model_run.specs.World.{Build, world_in}
use Rattle.build_commands.specs.Statuses.{world_status, HasLog}
use Rattle.build_commands.specs.Lines.{read_failed_text}
use Rattle.build_life.specs.declared.resting.Rest.{Rest}
use Rattle.build_life.specs.declared.resting.Rest.TheVariants.{AnswersFailed}
use Rattle.build_life.specs.Lower.delta_records.declared.weights.Weights.{Weights}
use Rattle.build_life.specs.Lower.durable_build.Taking.{DueAdds}
use Rattle.build_life.specs.Lower.build_store.Lives.{image_after, IsNext}
use Rattle.build_life.specs.Lower.build_store.Saved.{Stores, Survives, journal_length, journal_weights}
use Rattle.build_commands.specs.declared.refusal.Refusal.{Refusal}
use Rattle.build_commands.specs.declared.end_text.EndText.{EndText}
use Rattle.build_commands.specs.declared.end_text.EndText.TheVariants.{Log}
use Rattle.build_commands.specs.EndTexts.{text_in, world_text}
use Rattle.build_commands.specs.Reporting.{image_status}
use Rattle.build_commands.specs.Refusals.{SaysTake, refusal_status, refusal_text}
use Rattle.build_commands.specs.Texts.{disk_failed_text, full_text, out_of_memory_text}
use Rattle.build_commands.specs.Writing as writing
use Rattle.build_commands.specs.Writing.{Writes}
use Rattle.jp_disk.specs.View.{DiskView}

-- Why an event comes is open here. This one came next, and there is a cause for it.
pub record ComesNext (Comes : List Event → Event → Type 0) (setting : Setting) (events : List Event) (event : Event) : Type 0 where
  pub is_next : IsNext setting events event
  pub caused : Comes events event

-- The journal cannot take the record that is due for the event that came next: these are the journal's length, and what the record would add. Whether it is due whole
-- hangs on what the records of the journal weigh. Where the disk told its bytes at the beginning, length and weights are those of the journal of now.
pub record IsFull (Comes : List Event → Event → Type 0) (setting : Setting) (entry now : Option (List ℕ)) (events : List Event) (len add : ℕ) : Type 0 where
  pub event : Event
  pub next : ComesNext Comes setting events event
  pub too_long : 2 ^ 30 < len + add
  pub weights : Weights
  pub adds : DueAdds weights (Some (image_after setting events)) event (image_after setting (events ++ event ∷ [])) add
  pub stored : IsSome entry → IfSome now (λ file. (len ≡ journal_length file) × (weights ≡ journal_weights file))

-- What a life is, is open here: which events it may have taken, why one comes next behind them, behind which nobody goes on, or the answers could not be
-- read; and what was heard of the answers.
module _ {D : Type 0} (disk : DiskView D) (Takes : List Event → Type 0) (Comes : List Event → Event → Type 0) (Idles Unheard : List Event → Type 0) (Heard : Type 0) (setting : Setting) (entry : Option (List ℕ)) (origin : D) (before : List Event) (state : D) where
  -- What a life has taken: these events; perhaps, where the disk failed, the next one is on it too. Where the disk told its bytes, which `entry` is, a crash
  -- since `origin`, over which there were the events from before, leaves the first of them; one now leaves all of them; or, both, them and that one.
  pub record Made (events : List Event) (risked : Option Event) : Type 0 where
    pub takes : Takes events
    pub next : IfSome risked (ComesNext Comes setting events)
    pub moments : IsSome entry → AtEachMoment disk origin state (Survives setting before events risked)
    pub images : IsSome entry → (image : List ℕ) → disk.may_leave state image → Stores setting events image ⊎ IsSomeAnd risked (λ e. Stores setting (events ++ e ∷ []) image)

  -- The build has ended, or nobody goes on with it: its text is what was asked for.
  pub record Rests (events : List Event) : Type 0 where
    pub made : Made events None
    pub rests : ((world_in setting events).ended ≡ true) ⊎ Idles events
    pub heard : Heard

  -- It cannot go on. Want of memory may come behind the end of the build too.
  pub data Breaks (disk_before disk_after answers_before answers_after : ℕ) : ℕ → List ℕ → Type 0 where
    answers_failed : {events : List Event} → Made events None → Unheard events → Heard → Rose answers_before answers_after → Breaks disk_before disk_after answers_before answers_after 6 read_failed_text
    disk_failed : {events : List Event} {risked : Option Event} → Made events risked → (world_in setting events).ended ≡ false → Rose disk_before disk_after → Breaks disk_before disk_after answers_before answers_after 5 disk_failed_text
    full : {events : List Event} (len add : ℕ) → Made events None → (world_in setting events).ended ≡ false → IsFull Comes setting entry (disk.reads state) events len add → Breaks disk_before disk_after answers_before answers_after 14 (full_text len add)
    no_memory : {events : List Event} → Made events None → Breaks disk_before disk_after answers_before answers_after 8 out_of_memory_text

  -- What was written of it: what was asked for of a build that rests, whole or its front, then with 7; or the text of what broke it off.
  pub data Finishes (kind : EndText) (disk_before disk_after answers_before answers_after : ℕ) (old new : Option (List ℕ)) (sink_before sink_after : ℕ) : ℕ → Type 0 where
    by_rest : {events : List Event} {status : ℕ} → Rests events → Writes old new sink_before sink_after (world_text kind setting events) (world_status (world_in setting events)) status
        → Finishes kind disk_before disk_after answers_before answers_after old new sink_before sink_after status
    by_break : {text : List ℕ} {status : ℕ} → Breaks disk_before disk_after answers_before answers_after status text → writing.Tells old new sink_before sink_after text
        → Finishes kind disk_before disk_after answers_before answers_after old new sink_before sink_after status

-- What was asked for of a build that rests was written, whole or its front, with the status of whatever build of the definitions it stands for, and by that one's
-- numbers; status and log are also those of its image.
pub record TellsText (kind : EndText) (records : ℕ) (Stands : Build → Type 0) (image : Image) (old new : Option (List ℕ)) (sink_before sink_after status : ℕ) : Type 0 where
  pub text : List ℕ
  pub ended : ℕ
  pub known : HasLog ended
  pub wrote : Writes old new sink_before sink_after text ended status
  pub shown : kind ≡ Log → text ≡ image.log
  pub by_image : ended ≡ image_status image
  pub is : (w : Build) → Stands w → (text ≡ text_in kind records w.shared) × (ended ≡ world_status w)

-- Or memory was wanting for its text.
abbrev pub TellsRest : EndText → ℕ → (Build → Type 0) → Image → Option (List ℕ) → Option (List ℕ) → ℕ → ℕ → ℕ → Type 0
TellsRest kind records Stands image old new c d status = TellsText kind records Stands image old new c d status ⊎ ((status ≡ 8) × writing.Tells old new c d out_of_memory_text)

-- What was written of a build that broke off by this fault, and with which status.
abbrev pub TellsBreak : Option (List ℕ) → Option (List ℕ) → ℕ → ℕ → TakeFault → ℕ → Type 0
TellsBreak old new c d fault status = (refusal : Refusal) × SaysTake fault refusal × (status ≡ refusal_status refusal) × writing.Tells old new c d (refusal_text refusal)

-- What was written of a build that has gone on, and with which status.
abbrev pub TellsEnd : EndText → ℕ → (Build → Type 0) → Image → Option (List ℕ) → Option (List ℕ) → ℕ → ℕ → Result Rest TakeFault → ℕ → Type 0
TellsEnd kind records Stands image old new c d (Ok AnswersFailed) status = (status ≡ 6) × writing.Tells old new c d read_failed_text
TellsEnd kind records Stands image old new c d (Ok rest) status = TellsRest kind records Stands image old new c d status
TellsEnd kind records Stands image old new c d (Err fault) status = TellsBreak old new c d fault status
