use Rattle.label_expr.proofs.GrammarLaws.{behind_name}
use Rattle.label_expr.proofs.parser.name.Goals as goal

pub returns-in-Name : goal.returns-in-Name
returns-in-Name c = behind_name c.in-Some.first.now c.in-Some.rest.now c.args.spots.now c.in-Name.name c.in-Some.ensures.cases.0 c.in-Some.ensures.cases.1 c.in-Name.is
