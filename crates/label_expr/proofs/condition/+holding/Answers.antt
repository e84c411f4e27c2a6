use Rattle.std.proofs.Common.{ap, arith}
use Rattle.std.specs.Prelude.{not}
use Rattle.label_expr.specs.Conditions.{formula}
use Rattle.label_expr.proofs.ConditionLaws.{formula-Label, formula-Not, formula-All, formula-AnyOf, holds-all, holds-any, holds-even, holds-odd}
use Rattle.label_expr.proofs.condition.+holding.Goals as goal

pub Condition::holds-returns-in-Label : goal.Condition::holds-returns-in-Label
Condition::holds-returns-in-Label t c = rw (c.in-Label.is, formula-Label) c.is_label.ensures

pub Condition::holds-returns-then-signs-eq0 : goal.Condition::holds-returns-then-signs-eq0
Condition::holds-returns-then-signs-eq0 t c = rw (c.in-Not.is, formula-Not, ← c.get.ensures, holds-even c.args.labels.now c.in-Not.signs (formula c.get.result.now) c.if-signs-eq0.true) c.holds-holds.ensures

pub Condition::holds-returns-else-signs-eq0 : goal.Condition::holds-returns-else-signs-eq0
Condition::holds-returns-else-signs-eq0 t c = rw (c.in-Not.is, formula-Not, ← c.get.ensures, holds-odd c.args.labels.now c.in-Not.signs (formula c.get.result.now) c.if-signs-eq0.false) (ap not c.holds-holds.ensures)

pub Condition::holds-returns-then-holds : goal.Condition::holds-returns-then-holds
Condition::holds-returns-then-holds t c = grind (arith, formula-All, holds-all)

pub Condition::holds-returns-else-holds : goal.Condition::holds-returns-else-holds
Condition::holds-returns-else-holds t c = grind (arith, formula-All, holds-all)

pub Condition::holds-returns-then-holds-2 : goal.Condition::holds-returns-then-holds-2
Condition::holds-returns-then-holds-2 t c = grind (arith, formula-AnyOf, holds-any)

pub Condition::holds-returns-else-holds-2 : goal.Condition::holds-returns-else-holds-2
Condition::holds-returns-else-holds-2 t c = grind (arith, formula-AnyOf, holds-any)
