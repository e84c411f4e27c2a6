use Rattle.groovy_parse.proofs.FirstFaults.{syntax_before, lexical_before}
use Rattle.groovy_parse.proofs.join.earlier_fault.Goals as goal

pub returns-in-Some : goal.returns-in-Some
returns-in-Some c = rw c.fault_at.ensures (syntax_before c.args.script.now c.args.before.now c.requires.lexical c.requires.here c.in-Some.ensures.lookup.3.0 c.in-Some.ensures.lookup.1)

pub returns-in-None : goal.returns-in-None
returns-in-None c = rw (c.fault_at-in-None.ensures, c.place_of.ensures) (lexical_before c.args.script.now c.args.before.now c.requires.lexical c.requires.here c.in-None.ensures.lookup.3)
