use Rattle.std.proofs.Common.{◌≡◌, ℕ, ◌+◌, List, length}
use Rattle.model_run.specs.LabelTokens as tokens
use Rattle.model_run.specs.Labels.{Reading, Read, and_then, negation}
use Rattle.label_expr.specs.Conditions.{negated}
use Rattle.label_expr.specs.Readings.{seen}
use Rattle.label_expr.proofs.parser.negations.Given as goal

abbrev pub invariant-signs : goal.invariant-signs
invariant-signs l =
    (length l.rest + l.signs ≡ length l.spots)
    × ((go : List tokens.Spot → List tokens.Spot → Reading) (n : ℕ) → negation go n (seen l.spots) ≡ and_then (negation go n (seen l.rest)) (λ f. Read (negated l.signs f)))

abbrev pub decreases-signs : goal.decreases-signs
decreases-signs l = length l.rest
