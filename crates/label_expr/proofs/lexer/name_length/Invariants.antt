use Rattle.std.proofs.Common.{◌≡◌, ◌+◌, ◌-◌, ◌≤◌, length, drop}
use Rattle.model_run.specs.LabelTokens as tokens
use Rattle.label_expr.proofs.lexer.name_length.Given as goal

abbrev pub invariant-bytes : goal.invariant-bytes
invariant-bytes l = (l.length ≤ length l.bytes) × (tokens.name_length l.bytes ≡ l.length + tokens.name_length (drop l.length l.bytes))

abbrev pub decreases-bytes : goal.decreases-bytes
decreases-bytes l = length l.bytes - l.length
