use Rattle.text_methods.proofs.MethodLemmas.{reads_always}
use Rattle.text_methods.proofs.texts.with_two_arguments.Goals as goal

pub returns-in-Replace : goal.returns-in-Replace
returns-in-Replace c = rw c.in-Replace.is (reads_always _ _ _ c.found.ensures c.replace.ensures)

pub returns-in-Substring : goal.returns-in-Substring
returns-in-Substring c = rw c.in-Substring.is (reads_always _ _ _ c.found-in-Substring.ensures c.substring_between.ensures)
