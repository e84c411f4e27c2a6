use Rattle.program_lock.specs.Passes.{known}
use Rattle.locked_build.specs.declared.ask.Ask.TheVariants as asks
use Rattle.member_turns.proofs.AskLemmas.{asked_step, halt_replies}
use Rattle.member_turns.proofs.CallLemmas.{halt_step}
use Rattle.member_turns.proofs.asks.ask_halt.Goals as goal

pub returns-clause-called : goal.returns-clause-called
returns-clause-called g c = halt_step g.R.ScriptThread.stance (λ b. b.value.build) (known c.args.pass.now) (known c.step.new.pass) c.step.result (halt_replies c.step.result (asked_step g.R.ScriptThread.stance (λ b. b.value.build) (known c.args.pass.now) (known c.step.new.pass) asks.Halt c.step.result c.step.ensures.step)) c.step.ensures.step
