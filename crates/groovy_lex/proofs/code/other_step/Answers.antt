use Rattle.model_syntax.specs.Source.{byte_at}
use Rattle.model_syntax.specs.Reading.{reads_code, code_nothing}
use Rattle.groovy_lex.proofs.CodeLemmas.{nothing_stands}
use Rattle.groovy_lex.proofs.code.other_step.Goals as goal

pub nothing_kind-requires-clause-nothing : goal.nothing_kind-requires-clause-nothing
nothing_kind-requires-clause-nothing c = nothing_stands (byte_at c.args.src.now) c.args.at c.requires.other c.if-begins_line.ensures (λ p. c.if-stands_pair.ensures (p.0, p.1.0)) c.in-None.ensures.stands

pub returns-in-None : goal.returns-in-None
returns-in-None c = reads_code c.requires.code (code_nothing (c.nothing_kind.ensures c.args.stack.now))
