use Rattle.real_edge.proofs.ProcessLemmas.{said_behind}
use Rattle.real_edge.proofs.launch.say_words.Goals as goal

pub returns-clause-words : goal.returns-clause-words
returns-clause-words c = said_behind _ _ _ _ _ c.in_ok-say_text.ensures.words c.in_ok-say_behind.ensures.words
