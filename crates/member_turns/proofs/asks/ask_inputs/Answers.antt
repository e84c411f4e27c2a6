use Rattle.program_lock.specs.Passes.{known}
use Rattle.locked_build.specs.declared.ask.Ask.TheVariants as asks
use Rattle.member_turns.proofs.AskLemmas.{asked_step, inputs_replies}
use Rattle.member_turns.proofs.CallLemmas.{inputs_step}
use Rattle.member_turns.proofs.asks.ask_inputs.Goals as goal

pub inputs_of-requires : goal.inputs_of-requires
inputs_of-requires g c = inputs_replies c.step.result (asked_step g.R.ScriptThread.stance (λ b. b.value.build) (known c.args.pass.now) (known c.step.new.pass) asks.Inputs c.step.result c.step.ensures.step)

pub returns-clause-called : goal.returns-clause-called
returns-clause-called g c = inputs_step g.R.ScriptThread.stance (λ b. b.value.build) (known c.args.pass.now) (known c.step.new.pass) c.step.result c.inputs_of.result c.inputs_of.ensures c.step.ensures.step
