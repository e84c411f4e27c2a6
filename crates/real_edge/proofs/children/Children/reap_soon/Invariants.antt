use Rattle.std.proofs.Common.{◌≤◌}
use Rattle.std.specs.Prelude.{vec_len}
use Rattle.real_edge.proofs.children.Children.reap_soon.Given as goal

-- reaping only takes away
abbrev pub invariant-loop : goal.invariant-loop
invariant-loop g l = vec_len l.self.unreaped ≤ vec_len l.fn.self.unreaped
