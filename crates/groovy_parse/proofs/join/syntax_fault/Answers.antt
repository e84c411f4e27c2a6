use Rattle.groovy_parse.proofs.FirstFaults.{token_first, end_first}
use Rattle.groovy_parse.proofs.join.syntax_fault.Goals as goal

pub returns-in-Some : goal.returns-in-Some
returns-in-Some c = rw c.fault_at.ensures (token_first c.args.script.now c.args.tokens.now c.requires.lexed c.requires.here c.in-Some.ensures.lookup.3.0 c.in-Some.ensures.lookup.1)

pub returns-in-None : goal.returns-in-None
returns-in-None c = rw (c.fault_at-in-None.ensures, c.place_of.ensures) (end_first c.args.script.now c.args.tokens.now c.requires.lexed c.requires.here c.in-None.ensures.lookup.3)
