use Rattle.program_lock.specs.Passes.{known}
use Rattle.locked_build.specs.declared.ask.Ask.TheVariants as asks
use Rattle.member_turns.proofs.AskLemmas.{asked_step, claim_replies}
use Rattle.member_turns.proofs.CallLemmas.{claim_step}
use Rattle.member_turns.proofs.asks.ask_claim.Goals as goal

pub claim_of-requires : goal.claim_of-requires
claim_of-requires g c = claim_replies c.args.executor c.step.result (asked_step g.R.ScriptThread.stance (λ b. b.value.build) (known c.args.pass.now) (known c.step.new.pass) (asks.Claim c.args.executor) c.step.result c.step.ensures.step)

pub returns-clause-called : goal.returns-clause-called
returns-clause-called g c = claim_step g.R.ScriptThread.stance (λ b. b.value.build) (known c.args.pass.now) (known c.step.new.pass) c.args.executor c.step.result c.claim_of.result c.claim_of.ensures c.step.ensures.step
