use Rattle.std.proofs.Common.{◌≡◌, ℕ, ◌+◌, ◌-◌, ◌*◌, ◌<◌, ◌≤◌, length, map}
use Rattle.model_run.specs.Labels.{And, Or, more_negations, more_conjunctions, conjunction, disjunction}
use Rattle.label_expr.specs.Conditions.{formula, joined}
use Rattle.label_expr.specs.Readings.{seen, inside}
use Rattle.label_expr.proofs.parser.Parser.+parser.Given as goal

abbrev pub decreases-group : goal.decreases-group
decreases-group l = 8 * l.left + 8

abbrev pub decreases-level : goal.decreases-level
decreases-level l = 8 * l.left + 7

abbrev pub decreases-behind_implies : goal.decreases-behind_implies
decreases-behind_implies l = 8 * l.left + 6

abbrev pub decreases-behind_iff : goal.decreases-behind_iff
decreases-behind_iff l = 8 * l.left + 6

abbrev pub decreases-disjunction : goal.decreases-disjunction
decreases-disjunction l = 8 * l.left + 5

abbrev pub decreases-conjunction : goal.decreases-conjunction
decreases-conjunction l = 8 * l.left + 4

abbrev pub decreases-negation : goal.decreases-negation
decreases-negation l = 8 * l.left + 3

abbrev pub decreases-atom : goal.decreases-atom
decreases-atom l = 8 * l.left + 2

abbrev pub invariant-conjunction-operands : goal.invariant-conjunction-operands
invariant-conjunction-operands l =
    (length l.more + length l.rest < length l.spots)
    × ((n : ℕ) → length l.spots ≤ n → conjunction (inside l.left n) n (seen l.spots) ≡ more_negations (inside l.left n) n (n - length l.more) (joined And (formula l.first) (map formula l.more)) (seen l.rest))

abbrev pub decreases-conjunction-operands : goal.decreases-conjunction-operands
decreases-conjunction-operands l = length l.rest

abbrev pub invariant-disjunction-operands : goal.invariant-disjunction-operands
invariant-disjunction-operands l =
    (length l.more + length l.rest < length l.spots)
    × ((n : ℕ) → length l.spots ≤ n → disjunction (inside l.left n) n (seen l.spots) ≡ more_conjunctions (inside l.left n) n (n - length l.more) (joined Or (formula l.first) (map formula l.more)) (seen l.rest))

abbrev pub decreases-disjunction-operands : goal.decreases-disjunction-operands
decreases-disjunction-operands l = length l.rest
