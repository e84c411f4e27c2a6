use Rattle.cps_operators.proofs.operations.apply_prefix.Goals as goal

pub returns-in-Negative-clause-yields : goal.returns-in-Negative-clause-yields
returns-in-Negative-clause-yields c = λ t. rw c.in-Negative.is (c.compute.ensures.yields t)

pub returns-in-Positive-clause-yields : goal.returns-in-Positive-clause-yields
returns-in-Positive-clause-yields c = λ t. rw c.in-Positive.is (c.compute-in-Positive.ensures.yields t)
