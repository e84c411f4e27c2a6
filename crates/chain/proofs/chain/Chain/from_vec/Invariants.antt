use Rattle.std.proofs.Common.{◌≡◌, ◌++◌, length}
use Rattle.chain.proofs.chain.Chain.from_vec.Given as goal

abbrev pub invariant-loop-last : goal.invariant-loop-last
invariant-loop-last g l = l.items.items ++ l.chain ≡ l.initial.items.items

abbrev pub decreases-loop-last : goal.decreases-loop-last
decreases-loop-last g l = length l.items.items
