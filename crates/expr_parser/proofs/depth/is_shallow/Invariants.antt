use Rattle.expr_parser.proofs.DepthLaws.{Counted}
use Rattle.expr_parser.proofs.depth.is_shallow.Given as goal

abbrev pub invariant-loop-token : goal.invariant-loop-token
invariant-loop-token l = Counted l.tokens l.token-index l.depth
