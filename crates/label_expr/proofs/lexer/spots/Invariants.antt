use Rattle.std.proofs.Common.{◌≡◌, ◌-◌, ◌≤◌, ◌++◌, length, drop}
use Rattle.model_run.specs.LabelTokens as tokens
use Rattle.label_expr.specs.Readings.{seen}
use Rattle.label_expr.proofs.lexer.spots.Given as goal

abbrev pub invariant-tokens : goal.invariant-tokens
invariant-tokens l = (l.at ≤ length l.text) × (tokens.spots_of l.text ≡ seen l.spots.items ++ tokens.spots_behind 0 l.at (drop l.at l.text))

abbrev pub decreases-tokens : goal.decreases-tokens
decreases-tokens l = length l.text - l.at
