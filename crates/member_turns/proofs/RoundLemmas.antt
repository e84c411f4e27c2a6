-- What a turn launched, and what holds where memory was refused.
use Rattle.std.proofs.Common.{ℕ, List, [], Result, Ok, Err, refl}
use Rattle.std.specs.Prelude.{IsErr}
use Rattle.program_lock.specs.declared.program.Memory.{Memory}
use Rattle.agent_worker.specs.declared.gate.GateCall.{GateCall}
use Rattle.agent_worker.specs.declared.member.Member.{Member}
use Rattle.agent_worker.specs.declared.member.Member.TheVariants.{Executor, Operator}
use Rattle.agent_worker.specs.declared.worked.Worked.{Worked}
use Rattle.member_turns.specs.Lower.locked_build.declared.ask.Entry.{Entry}
use Rattle.member_turns.specs.Served.{Executed}
use Rattle.member_turns.specs.Turns.{Launches}
use Rattle.task_host.specs.View.{HostView}
use Rattle.jp_io.specs.View.{SourceView}

-- what holds for each want of memory
pub on_refusal : {X : Type 0} (P : Result X Memory → Type 0) (how : Result X Memory) → IsErr how → ((memory : Memory) → P (Err memory)) → P how
on_refusal P (Ok x) refused holds = absurd (cc)
on_refusal P (Err memory) refused holds = holds memory

-- what a turn added to the launches of an executor's host
module _ {H A : Type 0} (host : HostView H) (source : SourceView A) (looks : ℕ) where
  pub launched_in : (m n : Member H A) (worked : Worked) (own : List Entry) (gate_calls : List GateCall) → Executed host looks m n worked own gate_calls → (more : List ℕ) × Launches host m n own more
  launched_in (Executor number machine) (Executor now next) worked own gate_calls e = (e.launched.more, (e.launched.added, e.launched.part))
  launched_in (Operator answers line ended failed) (Operator next kept now_ended now_failed) worked own gate_calls e = ([], refl)
  launched_in (Executor number machine) (Operator next kept now_ended now_failed) worked own gate_calls e = absurd e
  launched_in (Operator answers line ended failed) (Executor now next) worked own gate_calls e = absurd e
