-- What an ask of a site state is, and which reply it gets (this product's own).
use Rattle.std.specs.Prelude.{◌≡◌, ℕ, List, ◌++◌, Some}
use Rattle.program_lock.specs.declared.view.Known.{Known}
use Rattle.program_lock.specs.Legal.{Answers}
use Rattle.program_lock.specs.History.{entries, entries_of, numbered, GoesOnWithout}
use Rattle.agent_worker.specs.declared.gate.GateCall.{GateCall}
use Rattle.locked_build.specs.declared.ask.Ask.{Ask}
use Rattle.locked_build.specs.declared.ask.Entry.{Entry}
use Rattle.locked_build.specs.declared.ask.Reply.{Reply}
use Rattle.locked_build.specs.declared.ask.Reply.TheVariants as reply
use Rattle.member_turns.specs.Saying.{AnswersCall}

-- A call through a pass, which knew v before it and knows w behind it: it was answered so at a history that goes on from all that the
-- pass had seen, with no further entry of its own; its entries stand behind that history, under the number of the pass.
pub record WasCalled {B : Type 0} (answers : Answers B Entry Ask Reply) (v : Known Entry B) (call : GateCall) (w : Known Entry B) : Type 0 where
  pub base : B
  pub base_is : v.base ≡ Some base
  pub before : List (ℕ × Entry)
  pub begins : GoesOnWithout v.numbers v.seen before
  pub new : List Entry
  pub answered : AnswersCall (answers base) (entries before) call new
  pub now : w ≡ record v { seen = before ++ numbered v.number new }
  pub own : entries_of w.numbers w.seen ≡ entries_of v.numbers v.seen ++ new

-- the kinds of replies
abbrev pub IsTaken : Reply → Type 0
IsTaken (reply.Taken r) = Unit {0}
IsTaken (reply.Claimed c) = ⊥
IsTaken (reply.Inputs i) = ⊥
IsTaken (reply.Heard r) = ⊥
IsTaken (reply.Progress p) = ⊥
IsTaken reply.Halted = ⊥

abbrev pub IsClaimed : Reply → Type 0
IsClaimed (reply.Claimed c) = Unit {0}
IsClaimed (reply.Taken r) = ⊥
IsClaimed (reply.Inputs i) = ⊥
IsClaimed (reply.Heard r) = ⊥
IsClaimed (reply.Progress p) = ⊥
IsClaimed reply.Halted = ⊥

abbrev pub IsInputs : Reply → Type 0
IsInputs (reply.Inputs i) = Unit {0}
IsInputs (reply.Taken r) = ⊥
IsInputs (reply.Claimed c) = ⊥
IsInputs (reply.Heard r) = ⊥
IsInputs (reply.Progress p) = ⊥
IsInputs reply.Halted = ⊥

abbrev pub IsHeard : Reply → Type 0
IsHeard (reply.Heard r) = Unit {0}
IsHeard (reply.Taken r) = ⊥
IsHeard (reply.Claimed c) = ⊥
IsHeard (reply.Inputs i) = ⊥
IsHeard (reply.Progress p) = ⊥
IsHeard reply.Halted = ⊥
