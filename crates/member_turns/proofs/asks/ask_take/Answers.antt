use Rattle.std.proofs.Common.{rules}
use Rattle.program_lock.specs.Passes.{known}
use Rattle.locked_build.specs.declared.ask.Ask.TheVariants as asks
use Rattle.member_turns.proofs.AskLemmas.{asked_step, take_replies}
use Rattle.member_turns.proofs.CallLemmas.{take_step, no_take}
use Rattle.member_turns.proofs.asks.ask_take.Goals as goal

pub taken_of-requires : goal.taken_of-requires
taken_of-requires g c = take_replies c.args.event c.step.result (asked_step g.R.ScriptThread.stance (λ b. b.value.build) (known c.args.pass.now) (known c.step.new.pass) (asks.Take c.args.event) c.step.result c.step.ensures.step)

pub returns-clause-called : goal.returns-clause-called
returns-clause-called g c = take_step g.R.ScriptThread.stance (λ b. b.value.build) (known c.args.pass.now) (known c.step.new.pass) c.args.event c.step.result c.taken_of.result (search rules) c.taken_of.ensures c.step.ensures.step

pub returns-then-not-is_of_task-clause-called : goal.returns-then-not-is_of_task-clause-called
returns-then-not-is_of_task-clause-called g c = no_take g.R.ScriptThread.stance (λ b. b.value.build) (known c.args.pass.now) c.args.event c.args.pass.now.rests.based (search rules)
