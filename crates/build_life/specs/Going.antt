-- Which events come in a life with hosts, and in which order (this product's own): after each event all grants that are due, one by one;
-- while none is due, what an executor reports, or the decision of an answer line.
use Rattle.member_turns.specs.Coming.{is_decision}
use Rattle.std.specs.Prelude.{◌≡◌, ℕ, Bool, true, false, List, [], ◌∷◌, ◌++◌, Some, None}
use Rattle.agent_worker.specs.AnswerBytes.{begun_after, last_line, lines_of}
use Rattle.agent_worker.specs.AnswerLine.{Answers}
use Rattle.agent_worker.specs.Gate.{Decides as IsAnswer}
use Rattle.build_requests.specs.Waiting.{input_of}
use Rattle.model_run.specs.declared.event.Event.{Event}
use Rattle.model_run.specs.declared.event.Event.TheVariants.{Granted as GrantedEvent}
use Rattle.model_run.specs.declared.taken.Taken.TheVariants.{Accepted}
use Rattle.model_run.specs.State.{Setting}
use Rattle.model_run.specs.World.{Build, answer_to, next_grant, world_in}

-- The line, without what ended it, decides the first open input with its id, in its own words.
pub record Decides (b : Build) (line : List ℕ) (event : Event) : Type 0 where
  pub request : ℕ
  pub answer : IsAnswer line request event
  pub open_now : input_of answer.id b.shared.requests ≡ Some request

-- It decides nothing: it is not of the form of an answer, or no open input has its id.
pub data IsPassedOver (b : Build) (line : List ℕ) : Type 0 where
  no_answer : ((proceed : Bool) (id name : List ℕ) → ¬ (Answers line proceed id name)) → IsPassedOver b line
  nothing_open : (proceed : Bool) (id name : List ℕ) → Answers line proceed id name → input_of id b.shared.requests ≡ None → IsPassedOver b line

-- Why an event comes next, and the line that was heard for it: it is the grant that is due; or, while none is due, it was reported so, and is
-- no decision; or is the decision of this line.
pub data Comes (setting : Setting) (Reported : Event → Type 0) (events : List Event) : Event → List (List ℕ) → Type 0 where
  by_grant : (request executor : ℕ) → next_grant setting (world_in setting events) ≡ Some (request, executor) → Comes setting Reported events (GrantedEvent request executor) []
  by_report : (e : Event) → next_grant setting (world_in setting events) ≡ None → is_decision e ≡ false → Reported e → Comes setting Reported events e []
  by_line : (line : List ℕ) (e : Event) → next_grant setting (world_in setting events) ≡ None → Decides (world_in setting events) line e → Comes setting Reported events e (line ∷ [])

-- The events so far, which begin with those from before, and the answer lines that were heard for them and between them.
pub data GoesBy (setting : Setting) (Reported : Event → Type 0) (before : List Event) : List Event → List (List ℕ) → Type 0 where
  begins : GoesBy setting Reported before before []
  takes : {events : List Event} {lines heard : List (List ℕ)} (e : Event) → GoesBy setting Reported before events lines
      → Comes setting Reported events e heard → answer_to setting (world_in setting events) e ≡ Accepted
      → GoesBy setting Reported before (events ++ e ∷ []) (lines ++ heard)
  passes : {events : List Event} {lines : List (List ℕ)} (line : List ℕ) → GoesBy setting Reported before events lines
      → next_grant setting (world_in setting events) ≡ None → IsPassedOver (world_in setting events) line
      → GoesBy setting Reported before events (lines ++ line ∷ [])

-- The whole answer lines, each of at most 1,024 bytes, in the bytes that were read; and the last one, where the answers ended within it.
abbrev pub heard_in : List ℕ → Bool → List (List ℕ)
heard_in read true = lines_of [] read
heard_in read false = lines_of [] read ++ last_line (begun_after [] read)
