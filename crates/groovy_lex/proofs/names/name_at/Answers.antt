use Rattle.groovy_lex.proofs.NameLemmas.{name_fits}
use Rattle.groovy_lex.proofs.names.name_at.Goals as goal

pub returns-clause-fits : goal.returns-clause-fits
returns-clause-fits c = name_fits c.args.src.now c.args.at c.run_end-end.result c.in_ok-kind.kind c.run_end-end.ensures.run c.run_end-end.ensures.inside c.requires.letter c.in_ok-kind.ensures
