use Rattle.std.proofs.Common.{◌≡◌, ◌++◌}
use Rattle.std.specs.Prelude.{pos, neg_ℤ, nat_abs, ◌-ℤ◌, ◌≤ℤ◌}
use Rattle.model_values.specs.Operators.{numbers_from}
use Rattle.value_operators.proofs.operators.falling.Given as goal

abbrev pub invariant-loop-number : goal.invariant-loop-number
invariant-loop-number l = record {
  within : l.last ≤ℤ l.number;
  rest : l.values ++ numbers_from (neg_ℤ (pos 1)) l.number (nat_abs (l.last -ℤ l.number)) ≡ numbers_from (neg_ℤ (pos 1)) l.first (nat_abs (l.last -ℤ l.first));
}

abbrev pub decreases-loop-number : goal.decreases-loop-number
decreases-loop-number l = nat_abs (l.last -ℤ l.number)
