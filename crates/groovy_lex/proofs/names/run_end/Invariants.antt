use Rattle.std.proofs.Common.{◌≡◌, ℕ, ◌-◌, ◌<◌, ◌≤◌, length, true}
use Rattle.model_syntax.specs.Source.{byte_at}
use Rattle.groovy_lex.specs.Names.{is_in}
use Rattle.groovy_lex.proofs.names.run_end.Given as goal

abbrev pub invariant-bytes : goal.invariant-bytes
invariant-bytes l = record {
  forward : l.from ≤ l.at;
  inside : l.at ≤ length l.src;
  passes : (k : ℕ) → l.from ≤ k → k < l.at → is_in l.class (byte_at l.src k) ≡ true;
}

abbrev pub decreases-bytes : goal.decreases-bytes
decreases-bytes l = length l.src - l.at
