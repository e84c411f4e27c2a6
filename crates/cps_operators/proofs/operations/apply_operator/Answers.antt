use Rattle.cps_operators.proofs.operations.apply_operator.Goals as goal

pub returns-in-Equal-clause-yields : goal.returns-in-Equal-clause-yields
returns-in-Equal-clause-yields c = λ t. rw c.in-Equal.is (c.compare.ensures.yields t)

pub returns-in-NotEqual-clause-yields : goal.returns-in-NotEqual-clause-yields
returns-in-NotEqual-clause-yields c = λ t. rw c.in-NotEqual.is (c.compare-in-NotEqual.ensures.yields t)

pub returns-in-Plus-clause-yields : goal.returns-in-Plus-clause-yields
returns-in-Plus-clause-yields c = λ t. rw c.in-Plus.is (c.compute.ensures.yields t)

pub returns-in-Minus-clause-yields : goal.returns-in-Minus-clause-yields
returns-in-Minus-clause-yields c = λ t. rw c.in-Minus.is (c.compute-in-Minus.ensures.yields t)

pub returns-in-Times-clause-yields : goal.returns-in-Times-clause-yields
returns-in-Times-clause-yields c = λ t. rw c.in-Times.is (c.compute-in-Times.ensures.yields t)

pub returns-in-Mod-clause-yields : goal.returns-in-Mod-clause-yields
returns-in-Mod-clause-yields c = λ t. rw c.in-Mod.is (c.compute-in-Mod.ensures.yields t)

pub returns-in-Range-clause-yields : goal.returns-in-Range-clause-yields
returns-in-Range-clause-yields c = λ t. rw c.in-Range.is (c.compute-in-Range.ensures.yields t)

pub returns-in-Less-clause-yields : goal.returns-in-Less-clause-yields
returns-in-Less-clause-yields c = λ t. rw c.in-Less.is (c.compute-in-Less.ensures.yields t)

pub returns-in-LessEqual-clause-yields : goal.returns-in-LessEqual-clause-yields
returns-in-LessEqual-clause-yields c = λ t. rw c.in-LessEqual.is (c.compute-in-LessEqual.ensures.yields t)

pub returns-in-Greater-clause-yields : goal.returns-in-Greater-clause-yields
returns-in-Greater-clause-yields c = λ t. rw c.in-Greater.is (c.compute-in-Greater.ensures.yields t)

pub returns-in-GreaterEqual-clause-yields : goal.returns-in-GreaterEqual-clause-yields
returns-in-GreaterEqual-clause-yields c = λ t. rw c.in-GreaterEqual.is (c.compute-in-GreaterEqual.ensures.yields t)
