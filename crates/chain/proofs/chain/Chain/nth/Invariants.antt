use Rattle.std.proofs.Common.{◌≡◌, slice_get}
use Rattle.chain.proofs.chain.Chain.nth.Given as goal

abbrev pub invariant-loop-chain : goal.invariant-loop-chain
invariant-loop-chain g l = slice_get l.self l.at ≡ slice_get l.chain l.left
