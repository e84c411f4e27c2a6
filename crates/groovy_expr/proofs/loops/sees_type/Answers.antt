use Rattle.model_syntax.specs.Grammar.{type_name}
use Rattle.groovy_expr.proofs.loops.sees_type.Goals as goal

pub returns-in-Some : goal.returns-in-Some
returns-in-Some c = (type_name c.in-Some.ensures.0, c.in-Some.ensures.1)
