use Rattle.std.proofs.Common.{Option, subst}
use Rattle.groovy_lex.specs.declared.raw.LexicalFault.{LexicalFault}
use Rattle.groovy_lex.specs.Raws.{IsRead}
use Rattle.groovy_lex.proofs.RawLemmas.{only_by, order_by, shallow_by, fault_by}
use Rattle.groovy_lex.proofs.lexer.lex.Goals as goal

pub returns-in_ok-tokens-in-None-clause-only : goal.returns-in_ok-tokens-in-None-clause-only
returns-in_ok-tokens-in-None-clause-only c = only_by c.args.src.now c.in_ok-raw.raw.tokens c.in_ok-tokens-in-None.tokens (subst (λ (o : Option LexicalFault). IsRead c.args.src.now c.in_ok-raw.raw.tokens o) c.in-None.is c.in_ok-raw.ensures) c.in_ok-tokens-in-None.ensures

pub returns-in_ok-tokens-in-None-clause-order : goal.returns-in_ok-tokens-in-None-clause-order
returns-in_ok-tokens-in-None-clause-order c = order_by c.args.src.now c.in_ok-raw.raw.tokens c.in_ok-tokens-in-None.tokens (subst (λ (o : Option LexicalFault). IsRead c.args.src.now c.in_ok-raw.raw.tokens o) c.in-None.is c.in_ok-raw.ensures) c.in_ok-tokens-in-None.ensures

pub returns-in_ok-tokens-in-None-clause-shallow : goal.returns-in_ok-tokens-in-None-clause-shallow
returns-in_ok-tokens-in-None-clause-shallow c = shallow_by c.args.src.now c.in_ok-raw.raw.tokens c.in_ok-tokens-in-None.tokens (subst (λ (o : Option LexicalFault). IsRead c.args.src.now c.in_ok-raw.raw.tokens o) c.in-None.is c.in_ok-raw.ensures) c.in_ok-tokens-in-None.ensures

pub returns-in_ok-before-in-Some-clause-fault : goal.returns-in_ok-before-in-Some-clause-fault
returns-in_ok-before-in-Some-clause-fault c = fault_by c.args.src.now c.in_ok-raw.raw.tokens c.in_ok-begun-in-Some.begun c.in_ok-before-in-Some.before c.in-Some.fault (subst (λ (o : Option LexicalFault). IsRead c.args.src.now c.in_ok-raw.raw.tokens o) c.in-Some.is c.in_ok-raw.ensures) c.in_ok-begun-in-Some.ensures c.in_ok-before-in-Some.ensures
