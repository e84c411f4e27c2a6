use Rattle.std.proofs.Common.{◌≡◌, ◌++◌, drop, map}
use Rattle.step_library.proofs.parallel.last_nodes.Given as goal

abbrev pub invariant-loop-branch : goal.invariant-loop-branch
invariant-loop-branch l = l.nodes ++ map (λ b. b.end.node) (drop l.branch-index l.ends) ≡ map (λ b. b.end.node) l.ends
