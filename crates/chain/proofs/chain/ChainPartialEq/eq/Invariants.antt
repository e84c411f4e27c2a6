use Rattle.std.proofs.Common.{◌≡◌}
use Rattle.std.specs.Cmp.Lexicographic.{pointwise}
use Rattle.chain.proofs.chain.ChainPartialEq.eq.Given as goal

abbrev pub invariant-loop-left : goal.invariant-loop-left
invariant-loop-left g l =
    pointwise g.T.PartialEq.eq l.self l.other ≡ pointwise g.T.PartialEq.eq l.left l.right
