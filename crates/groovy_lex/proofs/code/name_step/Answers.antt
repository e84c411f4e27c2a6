use Rattle.model_syntax.specs.Source.{byte_at}
use Rattle.groovy_lex.proofs.CodeLemmas.{name_reads}
use Rattle.groovy_lex.proofs.code.name_step.Goals as goal

pub returns : goal.returns
returns c = λ s i. (name_reads (byte_at c.args.src.now) s c.args.at c.in_ok-kind.end c.in_ok-kind.kind i c.in_ok-kind.ensures.fits, c.in_ok-kind.ensures.past.0, c.in_ok-kind.ensures.past.1)
