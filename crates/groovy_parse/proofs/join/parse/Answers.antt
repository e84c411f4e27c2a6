use Rattle.groovy_parse.proofs.FirstFaults.{only_tree}
use Rattle.groovy_parse.proofs.join.parse.Goals as goal

pub returns-clause-only : goal.returns-clause-only
returns-clause-only c = only_tree c.args.script.now c.parse_short.result c.parse_short.ensures.found
