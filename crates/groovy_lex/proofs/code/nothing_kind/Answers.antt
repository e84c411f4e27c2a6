use Rattle.std.proofs.Common.{arith}
use Rattle.model_syntax.specs.Reading.{nothing_begins, nothing_in_utf8}
use Rattle.groovy_lex.proofs.SpelledLemmas.{no_byte_behind}
use Rattle.groovy_lex.proofs.code.nothing_kind.Goals as goal

pub returns-in-Some : goal.returns-in-Some
returns-in-Some c = λ s. nothing_begins c.in-Some.ensures.stands.1 c.requires.nothing

pub returns-in-None : goal.returns-in-None
returns-in-None c = λ s. nothing_in_utf8 (λ e. omega (arith, c.requires.inside, no_byte_behind c.args.src.now c.args.at c.type_inv.src (omega (arith, c.requires.inside)) e), c.in-None.ensures.stands)
