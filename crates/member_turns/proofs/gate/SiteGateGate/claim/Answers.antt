use Rattle.std.proofs.Common.{◌∙◌, ap, sym}
use Rattle.member_turns.proofs.AskLemmas.{claim_called, claim_is, claim_added, told_same, lines_same}
use Rattle.member_turns.proofs.TrailLemmas.{gate_more}
use Rattle.member_turns.proofs.gate.SiteGateGate.claim.Goals as goal

pub invariant_of-self-clause-placed : goal.invariant_of-self-clause-placed
invariant_of-self-clause-placed g c = c.ask_claim-claim.ensures.belongs ∙ sym c.args.self.now.belongs ∙ c.args.self.now.placed

pub invariant_of-self-clause-shared : goal.invariant_of-self-clause-shared
invariant_of-self-clause-shared g c = ap (λ k. k.parts) c.ask_claim-claim.ensures.called.now ∙ c.args.self.now.shared

pub invariant_of-self-clause-number : goal.invariant_of-self-clause-number
invariant_of-self-clause-number g c = ap (λ k. k.number) c.ask_claim-claim.ensures.called.now ∙ c.args.self.now.number

pub invariant_of-self-clause-numbers : goal.invariant_of-self-clause-numbers
invariant_of-self-clause-numbers g c = ap (λ k. k.numbers) c.ask_claim-claim.ensures.called.now ∙ c.args.self.now.numbers

pub invariant_of-self-clause-answered : goal.invariant_of-self-clause-answered
invariant_of-self-clause-answered g c = gate_more c.args.self.now.numbers c.args.self.now.number c.ask_claim-claim.ensures.called c.add_claim.ensures c.args.self.now.answered

pub returns-clause-told : goal.returns-clause-told
returns-clause-told g c = told_same (claim_called g.R.ScriptThread.stance (λ b. b.value.build) _ _ c.args.executor c.ask_claim-claim.result c.ask_claim-claim.ensures.called)

pub returns-clause-lines : goal.returns-clause-lines
returns-clause-lines g c = lines_same (claim_called g.R.ScriptThread.stance (λ b. b.value.build) _ _ c.args.executor c.ask_claim-claim.result c.ask_claim-claim.ensures.called)

pub returns-clause-claimed : goal.returns-clause-claimed
returns-clause-claimed g c = claim_added c.args.executor c.ask_claim-claim.result (claim_is g.R.ScriptThread.stance (λ b. b.value.build) _ _ c.args.executor c.ask_claim-claim.result c.ask_claim-claim.ensures.called).own (claim_called g.R.ScriptThread.stance (λ b. b.value.build) _ _ c.args.executor c.ask_claim-claim.result c.ask_claim-claim.ensures.called)

pub returns-clause-busy : goal.returns-clause-busy
returns-clause-busy g c = (claim_is g.R.ScriptThread.stance (λ b. b.value.build) _ _ c.args.executor c.ask_claim-claim.result c.ask_claim-claim.ensures.called).busy
