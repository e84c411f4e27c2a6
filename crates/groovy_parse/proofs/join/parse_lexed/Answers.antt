use Rattle.std.proofs.Common.{ap, subst, sym, Err}
use Rattle.model_syntax.specs.FirstFault.{SyntaxPlace}
use Rattle.std.proofs.lemmas.Result.{err_from_is_err_and}
use Rattle.model_syntax.proofs.BracketDepthLaws.{lexed-shallow}
use Rattle.groovy_parse.proofs.FirstFaults.{scope_first}
use Rattle.groovy_parse.proofs.join.parse_lexed.Goals as goal

pub parse_tokens-requires : goal.parse_tokens-requires
parse_tokens-requires c = record { shallow = lexed-shallow c.requires }

pub returns-in_err-check-in-Ok-clause-refused : goal.returns-in_err-check-in-Ok-clause-refused
returns-in_err-check-in-Ok-clause-refused c =
    let p = err_from_is_err_and c.from_residual.result c.from_residual.ensures.1 in
    rw (p.1, p.2) (scope_first c.args.script.now c.args.tokens.now c.requires c.in-Ok.ensures.found c.in_err-check-in-Ok.field-0.0 c.in_err-check-in-Ok.ensures.first_fault)

pub syntax_fault-requires-clause-here : goal.syntax_fault-requires-clause-here
syntax_fault-requires-clause-here c = subst (SyntaxPlace c.args.tokens.now) (sym c.in-Err-Fault.token-is) (c.in-Err-Fault.ensures.fault _ (ap Err c.in-Err-Fault.field-0-is))
