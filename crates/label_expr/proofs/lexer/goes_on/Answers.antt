use Rattle.std.proofs.Common.{sym, arith}
use Rattle.label_expr.proofs.TokenLaws.{goes_on-none, goes_on-some}
use Rattle.label_expr.proofs.lexer.goes_on.Goals as goal

pub returns-in-empty-clause-value : goal.returns-in-empty-clause-value
returns-in-empty-clause-value c = sym (goes_on-none _ c.in-empty.len_below)

pub returns-then-is_name_byte-clause-value : goal.returns-then-is_name_byte-clause-value
returns-then-is_name_byte-clause-value c = let is = goes_on-some c.args.bytes.now c.in-len1-up.len_at_least in grind (arith, is)

pub returns-else-is_name_byte-clause-value : goal.returns-else-is_name_byte-clause-value
returns-else-is_name_byte-clause-value c = let is = goes_on-some c.args.bytes.now c.in-len1-up.len_at_least in grind (arith, is)
