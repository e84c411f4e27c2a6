use Rattle.std.proofs.Common.{sym}
use Rattle.value_walks.proofs.KeptLemmas.{none_kept}
use Rattle.value_walks.proofs.walk.WalkInTurn.of.Goals as goal

pub returns-in-Each-clause-values : goal.returns-in-Each-clause-values
returns-in-Each-clause-values c = sym (none_kept c.args.kept (rw c.in-Each.is at c.requires.kept))

pub returns-in-Each-clause-after : goal.returns-in-Each-clause-after
returns-in-Each-clause-after c = λ h v. rw (c.in-Each.is, none_kept c.args.kept (rw c.in-Each.is at c.requires.kept))

pub returns-in-Any-clause-values : goal.returns-in-Any-clause-values
returns-in-Any-clause-values c = sym (none_kept c.args.kept (rw c.in-Any.is at c.requires.kept))

pub returns-in-Any-clause-after : goal.returns-in-Any-clause-after
returns-in-Any-clause-after c = λ h v. rw (c.in-Any.is, none_kept c.args.kept (rw c.in-Any.is at c.requires.kept))

pub returns-in-Every-clause-values : goal.returns-in-Every-clause-values
returns-in-Every-clause-values c = sym (none_kept c.args.kept (rw c.in-Every.is at c.requires.kept))

pub returns-in-Every-clause-after : goal.returns-in-Every-clause-after
returns-in-Every-clause-after c = λ h v. rw (c.in-Every.is, none_kept c.args.kept (rw c.in-Every.is at c.requires.kept))

pub returns-in-Times-clause-values : goal.returns-in-Times-clause-values
returns-in-Times-clause-values c = sym (none_kept c.args.kept (rw c.in-Times.is at c.requires.kept))

pub returns-in-Times-clause-after : goal.returns-in-Times-clause-after
returns-in-Times-clause-after c = λ h v. rw (c.in-Times.is, none_kept c.args.kept (rw c.in-Times.is at c.requires.kept))
