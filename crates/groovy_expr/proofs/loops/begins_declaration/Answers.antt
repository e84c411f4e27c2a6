use Rattle.groovy_expr.specs.Answers.{kinds}
use Rattle.groovy_expr.proofs.StatementFors.{no_declaration, declaration_test}
use Rattle.groovy_expr.proofs.loops.begins_declaration.Goals as goal

pub returns-in-Some : goal.returns-in-Some
returns-in-Some c = declaration_test (kinds c.args.tokens.now) c.is_name.result c.is_name.ensures c.if-sees_word.ensures c.in-Some.ensures.0 c.in-Some.ensures.1

pub returns-in-None : goal.returns-in-None
returns-in-None c = no_declaration c.if-sees_word.ensures c.in-None.ensures
