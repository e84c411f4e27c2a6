use Rattle.groovy_lex.proofs.WordLemmas.{word_found}
use Rattle.groovy_lex.proofs.words.word_of.Goals as goal

pub returns : goal.returns
returns c = word_found c.args.text.now c.lookup.result c.lookup.ensures
