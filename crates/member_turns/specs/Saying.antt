-- That what a gate answers is what the state replied (this product's own).
use Rattle.std.specs.Prelude.{◌≡◌, ◌⊎◌, ℕ, true, false, List, [], ◌∷◌, ◌++◌, length, Some, Ok, Err}
use Rattle.program_lock.specs.declared.view.Known.{Known}
use Rattle.program_lock.specs.History.{entries, numbered, NoneUnder}
use Rattle.model_run.specs.declared.taken.Taken.TheVariants.{NotOpen}
use Rattle.program_lock.specs.Legal.{Answers}
use Rattle.journal_core.specs.declared.faults.TakeFault.TheVariants.{Memory}
use Rattle.agent_worker.specs.declared.gate.GateCall.{GateCall}
use Rattle.agent_worker.specs.declared.gate.GateCall.TheVariants.{Claim, Report, Inputs, Answer, Halt}
use Rattle.locked_build.specs.declared.ask.Ask.{Ask}
use Rattle.locked_build.specs.declared.ask.Ask.TheVariants as ask
use Rattle.locked_build.specs.declared.ask.Entry.{Entry}
use Rattle.locked_build.specs.declared.ask.Reply.{Reply}
use Rattle.locked_build.specs.declared.ask.Reply.TheVariants as reply
use Rattle.member_turns.specs.Tales.{is_of_task}

-- The call was answered so at this history, and these are its entries: it is the state's reply to the ask of its kind. What is no event of
-- a task is not open, and is not asked for; nor is a line for which there is no memory.
abbrev pub AnswersCall : (List Entry → Ask → Reply → List Entry → Type 0) → List Entry → GateCall → List Entry → Type 0
AnswersCall says history (Claim executor claim) new = says history (ask.Claim executor) (reply.Claimed claim) new
AnswersCall says history (Report event r) new =
    ((is_of_task event ≡ true) × says history (ask.Take event) (reply.Taken r) new) ⊎ ((is_of_task event ≡ false) × (r ≡ Ok NotOpen) × (new ≡ []))
AnswersCall says history (Inputs there) new = says history ask.Inputs (reply.Inputs there) new
AnswersCall says history (Answer line r) new = says history (ask.Answer line) (reply.Heard r) new ⊎ ((r ≡ Err Memory) × (new ≡ []))
AnswersCall says history Halt new = says history ask.Halt reply.Halted new

-- Behind this beginning of a history and within what follows it each of these calls was answered, one behind the other; the entries of each
-- stand there, under this number; and nothing else stands under these numbers.
abbrev pub AreAnswered : (List Entry → Ask → Reply → List Entry → Type 0) → List ℕ → ℕ → List (ℕ × Entry) → List GateCall → List (ℕ × Entry) → Type 0
AreAnswered says numbers number front [] rest = NoneUnder numbers rest
AreAnswered says numbers number front (call ∷ calls) rest =
    (others : List (ℕ × Entry)) × (new : List Entry) × (later : List (ℕ × Entry)) × (rest ≡ others ++ (numbered number new ++ later)) × NoneUnder numbers others
    × AnswersCall says (entries (front ++ others)) call new × AreAnswered says numbers number (front ++ (others ++ numbered number new)) calls later

-- The calls of a gate were answered so within what its pass has seen since it had seen so much.
pub record WereAnswered {B : Type 0} (answers : Answers B Entry Ask Reply) (numbers : List ℕ) (number since : ℕ) (v : Known Entry B) (calls : List GateCall) : Type 0 where
  pub front : List (ℕ × Entry)
  pub rest : List (ℕ × Entry)
  pub begins : front ++ rest ≡ v.seen
  pub long : length front ≡ since
  pub answered : (base : B) → v.base ≡ Some base → AreAnswered (answers base) numbers number front calls rest
