use Rattle.value_ops.proofs.throws.no_property.Goals as goal

pub returns-in-Null-clause-answer : goal.returns-in-Null-clause-answer
returns-in-Null-clause-answer c = rw c.in-Null.is c.thrown_around.ensures.answer
