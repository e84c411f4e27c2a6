use Rattle.std.proofs.Common.{◌≡◌, ◌++◌}
use Rattle.std.specs.Prelude.{pos, nat_abs, ◌-ℤ◌, ◌≤ℤ◌}
use Rattle.model_values.specs.Operators.{numbers_from}
use Rattle.value_operators.proofs.operators.rising.Given as goal

abbrev pub invariant-loop-number : goal.invariant-loop-number
invariant-loop-number l = record {
  within : l.number ≤ℤ l.last;
  rest : l.values ++ numbers_from (pos 1) l.number (nat_abs (l.last -ℤ l.number)) ≡ numbers_from (pos 1) l.first (nat_abs (l.last -ℤ l.first));
}

abbrev pub decreases-loop-number : goal.decreases-loop-number
decreases-loop-number l = nat_abs (l.last -ℤ l.number)
