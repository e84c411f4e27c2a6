use Rattle.std.proofs.Common.{ap, Err}
use Rattle.model_syntax.proofs.BracketDepthLaws.{lexical_fault-shallow}
use Rattle.groovy_parse.proofs.FirstFaults.{lexical_first}
use Rattle.groovy_parse.proofs.join.lexical_refusal.Goals as goal
use Rattle.groovy_parse.proofs.join.lexical_refusal.Goals.{in-Ok, in-Err-Memory, in-Err-Fault}

pub parse_tokens-requires : goal.parse_tokens-requires
parse_tokens-requires c = record { shallow = lexical_fault-shallow c.requires }

pub earlier_fault-requires-clause-here : goal.earlier_fault-requires-clause-here
earlier_fault-requires-clause-here c = c.in-Err-Fault.ensures.fault _ (ap Err c.in-Err-Fault.field-0-is)

pub returns : goal.returns
returns c = elim c.match-parse_tokens.branch [
  | in-Ok w ↦ rw (w.result-is, w.fault_at.ensures, w.place_of.ensures) (lexical_first c.args.script.now c.args.before.now c.requires w.in-Ok.ensures.found)
  | in-Err-Memory w ↦ rw w.result-is tt
  | in-Err-Fault w ↦ rw w.result-is w.earlier_fault.ensures
]
