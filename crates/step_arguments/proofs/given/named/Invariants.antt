use Rattle.std.proofs.Common.{◌≡◌, ◌++◌, drop, map}
use Rattle.model_values.specs.TextOf.{key_text}
use Rattle.step_arguments.proofs.given.named.Given as goal

abbrev pub invariant-loop-at : goal.invariant-loop-at
invariant-loop-at l = l.given.items ++ map (λ e. (key_text e.0, e.1)) (drop l.at l.entries) ≡ map (λ e. (key_text e.0, e.1)) l.entries
