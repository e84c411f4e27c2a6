-- What becomes of an answer line (this product's own).
use Rattle.std.specs.Prelude.{◌≡◌, ◌++◌, ℕ, Bool, List, [], ◌∷◌, Some, None, Result, Ok, Err}
use Rattle.agent_worker.specs.AnswerLine.{Answers}
use Rattle.agent_worker.specs.Gate.{Decides as IsAnswer}
use Rattle.journal_core.specs.declared.faults.TakeFault.{TakeFault}
use Rattle.journal_core.specs.declared.faults.TakeFault.TheVariants.{Memory}
use Rattle.agent_worker.specs.declared.gate.Heard.{Heard}
use Rattle.agent_worker.specs.declared.gate.Heard.TheVariants.{Decided, Skipped}
use Rattle.durable_build.specs.Lower.build_core.Builds.{Parts}
use Rattle.build_requests.specs.Waiting.{input_of}
use Rattle.model_run.specs.declared.event.Event.{Event}
use Rattle.model_run.specs.declared.taken.Taken.{Taken}
use Rattle.model_run.specs.declared.taken.Taken.TheVariants.{Accepted}
use Rattle.settle_laws.specs.Stances.{Stance}
use Rattle.locked_build.specs.declared.ask.Entry.{Entry}
use Rattle.locked_build.specs.declared.ask.Entry.TheVariants.{Line, Failed}
use Rattle.locked_build.specs.Grants.{noted, TakeSays}
use Rattle.locked_build.specs.Showing.{answer_of}

-- the line decides an input, in its own words: the first open one with its id
pub record Decides {T : Type 0} (b : Parts T) (line : List ℕ) (request : ℕ) (event : Event) : Type 0 where
  pub answer : IsAnswer line request event
  pub open_now : input_of answer.id b.shared.requests ≡ Some request

-- It decides nothing: it is not of the form, or no open input has its id. In the world of a script each decision of an open input is
-- accepted.
pub data IsSkipped {T : Type 0} (b : Parts T) (line : List ℕ) : Type 0 where
  no_answer : ((proceed : Bool) (id name : List ℕ) → ¬ (Answers line proceed id name)) → IsSkipped b line
  nothing_open : (proceed : Bool) (id name : List ℕ) → Answers line proceed id name → input_of id b.shared.requests ≡ None → IsSkipped b line
  not_accepted : (request : ℕ) (event : Event) → Decides b line request event → (answer_of b event ≡ Accepted → ⊥) → IsSkipped b line

-- An answer line and its decision are heard in one step. A fault of its event is noted alone.
abbrev pub AnswerSays : {T : Type 0} → (T → Stance) → Parts T → List ℕ → Result Heard TakeFault → List Entry → Type 0
AnswerSays stance b line (Ok (Decided request)) new =
    (event : Event) × (entries : List Entry) × Decides b line request event × TakeSays stance b event (Ok Accepted) entries × (new ≡ Line line ∷ entries)
AnswerSays stance b line (Ok Skipped) new = IsSkipped b line × (new ≡ Line line ∷ [])
AnswerSays stance b line (Err Memory) new = new ≡ Failed Memory None ∷ []
AnswerSays stance b line (Err fault) new = (request : ℕ) × (event : Event) × Decides b line request event × TakeSays stance b event (Err fault) new

-- what is noted of a line and the answer to its decision
abbrev pub noted_line : List ℕ → Event → Result Taken TakeFault → List Entry
noted_line line e (Ok taken) = Line line ∷ noted e (Ok taken)
noted_line line e (Err fault) = noted e (Err fault)

-- a line that is passed over
abbrev pub SkipSays : List ℕ → Result Heard TakeFault → List Entry → List Entry → Type 0
SkipSays line (Ok Skipped) h after = after ≡ h ++ Line line ∷ []
SkipSays line (Ok (Decided request)) h after = ⊥
SkipSays line (Err Memory) h after = after ≡ h ++ Failed Memory None ∷ []
SkipSays line (Err fault) h after = ⊥
