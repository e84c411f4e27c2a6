use Rattle.label_expr.proofs.GrammarLaws.{behind_sign}
use Rattle.label_expr.proofs.parser.behind.Goals as goal

pub returns-then-is : goal.returns-then-is
returns-then-is c = behind_sign c.in-Some.first.now c.in-Some.rest.now c.args.spots.now c.args.sign c.in-Some.ensures.cases.0 c.in-Some.ensures.cases.1 c.if-is.ensures
