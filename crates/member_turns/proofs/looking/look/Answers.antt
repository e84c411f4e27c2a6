use Rattle.std.proofs.Common.{subst}
use Rattle.program_lock.specs.Calls.{Steps}
use Rattle.program_lock.specs.Passes.{known}
use Rattle.member_turns.specs.Lower.locked_build.Says.{Says}
use Rattle.member_turns.specs.Lower.locked_build.declared.ask.Ask.TheVariants as asks
use Rattle.member_turns.proofs.looking.look.Goals as goal

pub returns-clause-said : goal.returns-clause-said
returns-clause-said g c = subst (λ reply. Steps (λ base history ask r new. Says g.R.ScriptThread.stance base.value.build history ask r new) (known c.args.pass.now) asks.Look reply (known c.step.new.pass)) c.progress_of.ensures c.step.ensures.step
