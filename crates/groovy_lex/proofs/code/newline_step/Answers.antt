use Rattle.std.proofs.Common.{sym, ◌∙◌, arith}
use Rattle.model_syntax.specs.Reading.{newline_ends, newline_blank, newline_in_text, code_newline, reads_code}
use Rattle.groovy_lex.proofs.code.newline_step.Goals as goal

pub returns-in-Some : goal.returns-in-Some
returns-in-Some c = λ B n e l. reads_code c.requires.code (code_newline (newline_in_text e c.in-Some.ensures.1 c.in-Some.ensures.2))

pub returns-then-ends_statements : goal.returns-then-ends_statements
returns-then-ends_statements c = λ B n e l. (reads_code c.requires.code (code_newline (newline_ends e c.in_default.ensures (sym c.ends_statements.ensures ∙ c.if-ends_statements.true))), omega arith, omega (arith, l))

pub returns : goal.returns
returns c = λ B n e l. (reads_code c.requires.code (code_newline (newline_blank e c.in_default.ensures (sym c.ends_statements.ensures ∙ c.if-ends_statements.false))), omega arith, omega (arith, l))
