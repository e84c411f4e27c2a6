use Rattle.std.proofs.Common.{arith, ap, sym, length, ◌∙◌, ℕ, List, [], ◌∷◌}
use Rattle.agent_worker.proofs.AnswerLemmas.{kept-line, passed-line}
use Rattle.agent_worker.proofs.operator.answer_in.Goals as goal

pub returns-then-answer-gt-LONGEST : goal.returns-then-answer-gt-LONGEST
returns-then-answer-gt-LONGEST c = passed-line c.args.line.now (omega (arith, c.if-answer-gt-LONGEST.true, ap length c.strip_cr-answer.ensures.line))

pub returns : goal.returns
returns c =
    kept-line c.args.line.now (omega (arith, c.if-answer-gt-LONGEST.false, ap length c.strip_cr-answer.ensures.line))
    ∙ ap (λ (l : List ℕ). l ∷ []) (sym c.strip_cr-answer.ensures.line)
