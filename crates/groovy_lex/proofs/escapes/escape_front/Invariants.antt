use Rattle.std.proofs.Common.{ℕ, ◌+◌, ◌-◌, ◌<◌, ◌≤◌, length}
use Rattle.std.specs.Char.{digit_value}
use Rattle.model_syntax.specs.Source.{byte_at}
use Rattle.groovy_lex.proofs.escapes.escape_front.Given as goal

abbrev pub invariant-digits : goal.invariant-digits
invariant-digits l = record {
  front : l.at + 2 ≤ l.end;
  short : l.end ≤ l.at + 5;
  inside : l.end ≤ length l.src;
  passes : (k : ℕ) → l.at + 2 ≤ k → k < l.end → digit_value (byte_at l.src k) < 16;
}

abbrev pub decreases-digits : goal.decreases-digits
decreases-digits l = l.at + 5 - l.end
