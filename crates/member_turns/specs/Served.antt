-- A turn of a member over the lock (this product's own).
use Rattle.std.specs.Prelude.{◌≡◌, ℕ, Bool, false, List, [], length}
use Rattle.program_lock.specs.declared.view.Known.{Known}
use Rattle.program_lock.specs.History.{entries_of}
use Rattle.program_lock.specs.Legal.{Answers}
use Rattle.agent_worker.specs.declared.gate.GateCall.{GateCall}
use Rattle.agent_worker.specs.declared.gate.Said.{Said}
use Rattle.agent_worker.specs.declared.gate.Said.TheVariants.{Nothing}
use Rattle.agent_worker.specs.declared.member.Member.{Member}
use Rattle.agent_worker.specs.declared.member.Member.TheVariants.{Executor, Operator}
use Rattle.agent_worker.specs.declared.worked.Worked.{Worked}
use Rattle.agent_worker.specs.Gate.{GateTells}
use Rattle.agent_worker.specs.Working.{on_host}
use Rattle.locked_build.specs.declared.ask.Ask.{Ask}
use Rattle.locked_build.specs.declared.ask.Entry.{Entry}
use Rattle.locked_build.specs.declared.ask.Reply.{Reply}
use Rattle.member_turns.specs.Saying.{WereAnswered}
use Rattle.member_turns.specs.Tales.{tells_of}
use Rattle.member_turns.specs.Turning.{ExecutorTurn}
use Rattle.task_host.specs.View.{HostView}

-- Work through a pass, which knew v before it and knows w behind it: what it was by the entries of the pass, and by the calls of a gate that
-- was new; and each of these calls was answered by the state.
pub record WorksThrough {B : Type 0} (answers : Answers B Entry Ask Reply) (works : GateTells → GateTells → Type 0) (v w : Known Entry B) : Type 0 where
  pub numbers : w.numbers ≡ v.numbers
  pub parts : w.parts ≡ v.parts
  pub calls : List GateCall
  pub said : Said
  pub is_open : Bool
  pub worked : works (tells_of (entries_of v.numbers v.seen) [] Nothing false) (tells_of (entries_of w.numbers w.seen) calls said is_open)
  pub answered : ∥ WereAnswered answers v.numbers v.number (length v.seen) w calls ∥₁

module _ {H A : Type 0} where
  -- what an executor did; of the operator its work says all
  abbrev pub Executed : HostView H → ℕ → Member H A → Member H A → Worked → List Entry → List GateCall → Type 0
  Executed host looks (Executor number machine) (Executor now next) worked own calls =
      ExecutorTurn number looks (host.honest machine) own calls (host.calls machine) (host.calls next) (on_host host machine) (on_host host next) worked
  Executed host looks (Operator answers line ended failed) (Operator next kept now_ended now_failed) worked own calls = Unit {0}
  Executed host looks (Executor number machine) (Operator next kept now_ended now_failed) worked own calls = ⊥
  Executed host looks (Operator answers line ended failed) (Executor now next) worked own calls = ⊥
