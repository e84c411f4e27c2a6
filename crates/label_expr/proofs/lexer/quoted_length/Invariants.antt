use Rattle.std.proofs.Common.{◌≡◌, ◌+◌, ◌-◌, ◌≤◌, length, drop, nat_eq}
use Rattle.std.specs.Prelude.{not}
use Rattle.std.specs.List.{prefix_len}
use Rattle.label_expr.proofs.lexer.quoted_length.Given as goal

abbrev pub invariant-bytes : goal.invariant-bytes
invariant-bytes l = (l.length ≤ length l.bytes) × (prefix_len (λ c. not (nat_eq c 34)) l.bytes ≡ l.length + prefix_len (λ c. not (nat_eq c 34)) (drop l.length l.bytes))

abbrev pub decreases-bytes : goal.decreases-bytes
decreases-bytes l = length l.bytes - l.length
