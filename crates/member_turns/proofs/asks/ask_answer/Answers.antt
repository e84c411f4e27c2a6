use Rattle.std.proofs.Common.{subst, List, ℕ}
use Rattle.program_lock.specs.Passes.{known}
use Rattle.locked_build.specs.declared.ask.Ask.TheVariants as asks
use Rattle.agent_worker.specs.declared.gate.GateCall.TheVariants as gate_call
use Rattle.member_turns.specs.Asking.{WasCalled}
use Rattle.member_turns.proofs.AskLemmas.{asked_step, answer_replies}
use Rattle.member_turns.proofs.CallLemmas.{site_says, answer_step, no_answer}
use Rattle.member_turns.proofs.asks.ask_answer.Goals as goal

pub heard_of-requires : goal.heard_of-requires
heard_of-requires g c = answer_replies c.in-Ok.line c.step.result (asked_step g.R.ScriptThread.stance (λ b. b.value.build) (known c.args.pass.now) (known c.step.new.pass) (asks.Answer c.in-Ok.line) c.step.result c.step.ensures.step)

pub returns-in-Ok-clause-called : goal.returns-in-Ok-clause-called
returns-in-Ok-clause-called g c = subst (λ (l : List ℕ). WasCalled (site_says g.R.ScriptThread.stance (λ b. b.value.build)) (known c.args.pass.now) (gate_call.Answer l c.heard_of.result) (known c.step.new.pass)) c.in-Ok.ensures
    (answer_step g.R.ScriptThread.stance (λ b. b.value.build) (known c.args.pass.now) (known c.step.new.pass) c.in-Ok.line c.step.result c.heard_of.result c.heard_of.ensures c.step.ensures.step)

pub returns-in-Err-clause-called : goal.returns-in-Err-clause-called
returns-in-Err-clause-called g c = no_answer g.R.ScriptThread.stance (λ b. b.value.build) (known c.args.pass.now) c.args.line.now c.args.pass.now.rests.based
