use Rattle.value_ops.proofs.AnswerLemmas.{below_any, thrown_other}
use Rattle.value_ops.proofs.throws.thrown_again.Goals as goal

pub returns-in_default-clause-answer : goal.returns-in_default-clause-answer
returns-in_default-clause-answer c = thrown_other c.thrown.result c.args.on.now c.in_default.not-Thrown c.thrown.ensures.answer

pub returns-in_default-clause-below : goal.returns-in_default-clause-below
returns-in_default-clause-below c = λ n k. below_any c.thrown.result n c.thrown.ensures.below
