use Rattle.std.proofs.Common.{◌<◌, ◌≤◌, subst, arith}
use Rattle.std.proofs.lemmas.Bool.Decides.{nat_tests}
use Rattle.expr_parser.proofs.DepthLaws.{counted_next, counted_deep, counted_all}
use Rattle.expr_parser.proofs.depth.is_shallow.Goals as goal

pub returns-then-depth-gt-DEPTH_LIMIT : goal.returns-then-depth-gt-DEPTH_LIMIT
returns-then-depth-gt-DEPTH_LIMIT c =
    let deep : 128 < c.depth_behind-depth.result = grind (arith, nat_tests, c.if-depth-gt-DEPTH_LIMIT.true) in
    counted_deep c.loop-token.invariant c.token-item.result c.token-item.is c.loop-token-test.true (subst (λ k. 128 < k) c.depth_behind-depth.ensures deep)

pub loop-token-preserved : goal.loop-token-preserved
loop-token-preserved c =
    let few : c.depth_behind-depth.result ≤ 128 = grind (arith, nat_tests, c.if-depth-gt-DEPTH_LIMIT.false) in
    rw c.depth_behind-depth.ensures (counted_next c.loop-token.invariant c.token-item.result c.token-item.is c.loop-token-test.true (subst (λ k. k ≤ 128) c.depth_behind-depth.ensures few))

pub returns : goal.returns
returns c = counted_all c.loop-token.invariant c.loop-token-test.false
