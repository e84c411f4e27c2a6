use Rattle.std.proofs.Common.{rules, ◌≡◌, ◌++◌, ◌∷◌, [], ℕ, List, Ok, Err, inl, inr, sym, ap, ◌∙◌, refl, subst, append-nil}
use Rattle.journal_core.specs.declared.faults.TakeFault.{TakeFault}
use Rattle.journal_core.specs.declared.faults.TakeFault.TheVariants as fault
use Rattle.agent_worker.specs.declared.gate.GateCall.TheVariants as gate_call
use Rattle.agent_worker.specs.declared.gate.Said.TheVariants as says
use Rattle.agent_worker.specs.Gate.{Adds, AddsDecided}
use Rattle.agent_worker.specs.AnswerBytes.{kept_line}
use Rattle.agent_worker.specs.Operating.{Given, Halted, given_in}
use Rattle.agent_worker.proofs.OperatorLemmas.{operates-given, operates-halted}
use Rattle.agent_worker.proofs.operator.give.Goals as goal

pub returns-in_default-clause-gives : goal.returns-in_default-clause-gives
returns-in_default-clause-gives g c old past found so =
    let same : c.as_slice.result.now ≡ c.args.line.now = search rules in
    let none : kept_line c.args.line.now ≡ [] = ap kept_line (sym same) ∙ c.in_default.ensures in
    record { next = past; so_far = so; given = sym (ap (λ (l : List (List ℕ)). given_in past ++ l) none ∙ append-nil (given_in past)); same_read = refl; same_end = refl; goes = inl refl }

pub returns-in-Ok-clause-gives : goal.returns-in-Ok-clause-gives
returns-in-Ok-clause-gives g c old past found so =
    let same : c.as_slice.result.now ≡ c.args.line.now = search rules in
    let one : kept_line c.args.line.now ≡ c.in-Some.answer.now ∷ [] = ap kept_line (sym same) ∙ c.in-Some.ensures in
    record {
      next = Given c.in-Some.answer.now (Ok c.in-Ok.field-0) ∷ past;
      so_far = operates-given old _ (g.G.Gate.tells c.answer.new.self) past c.in-Some.answer.now (Ok c.in-Ok.field-0) so found
          c.in-Ok.ensures.calls c.in-Ok.ensures.told c.in-Ok.ensures.lines c.in-Ok.ensures.claimed c.in-Ok.ensures.said;
      given = ap (λ (l : List (List ℕ)). given_in past ++ l) (sym one);
      same_read = refl;
      same_end = refl;
      goes = inr (c.in-Some.answer.now, c.in-Ok.field-0, refl);
    }

pub returns-in-Memory-clause-gives : goal.returns-in-Memory-clause-gives
returns-in-Memory-clause-gives g c old past found so =
    let same : c.as_slice.result.now ≡ c.args.line.now = search rules in
    let one : kept_line c.args.line.now ≡ c.in-Some.answer.now ∷ [] = ap kept_line (sym same) ∙ c.in-Some.ensures in
    let given = operates-given old _ (g.G.Gate.tells c.answer.new.self) past c.in-Some.answer.now (Err fault.Memory) so found
    (subst (λ (e : TakeFault). Adds (gate_call.Answer c.in-Some.answer.now (Err e)) (g.G.Gate.tells c.args.gate.now).calls (g.G.Gate.tells c.answer.new.self).calls) c.in-Memory.is c.in-Err.ensures.calls)
    (subst (λ (e : TakeFault). AddsDecided c.in-Some.answer.now (Err e) (g.G.Gate.tells c.args.gate.now).told (g.G.Gate.tells c.answer.new.self).told) c.in-Memory.is c.in-Err.ensures.told)
    c.in-Err.ensures.lines c.in-Err.ensures.claimed
    (subst (λ (e : TakeFault). (g.G.Gate.tells c.answer.new.self).said ≡ says.Answer (Err e)) c.in-Memory.is c.in-Err.ensures.said) in
    record {
      next = Halted ∷ Given c.in-Some.answer.now (Err fault.Memory) ∷ past;
      so_far = operates-halted old _ (g.G.Gate.tells c.halt.new.self) _ given (inr (c.in-Some.answer.now, past, refl)) c.halt.ensures.calls c.halt.ensures.told c.halt.ensures.lines c.halt.ensures.claimed c.halt.ensures.said;
      given = ap (λ (l : List (List ℕ)). given_in past ++ l) (sym one);
      same_read = refl;
      same_end = refl;
      goes = λ ended. (Given c.in-Some.answer.now (Err fault.Memory) ∷ past, refl);
    }

pub returns : goal.returns
returns g c = record {
  gives = λ old past found so.
      let same : c.as_slice.result.now ≡ c.args.line.now = search rules in
      let one : kept_line c.args.line.now ≡ c.in-Some.answer.now ∷ [] = ap kept_line (sym same) ∙ c.in-Some.ensures in
      record {
        next = Given c.in-Some.answer.now (Err c.in-Err.fault) ∷ past;
        so_far = operates-given old _ (g.G.Gate.tells c.answer.new.self) past c.in-Some.answer.now (Err c.in-Err.fault) so found
            c.in-Err.ensures.calls c.in-Err.ensures.told c.in-Err.ensures.lines c.in-Err.ensures.claimed c.in-Err.ensures.said;
        given = ap (λ (l : List (List ℕ)). given_in past ++ l) (sym one);
        same_read = refl;
        same_end = refl;
        goes = λ ended. (c.in-Some.answer.now, c.in-Err.fault, past, refl, c.in_default-fault.not-Memory);
      };
  next = search rules;
  failed = λ is. cc;
}
