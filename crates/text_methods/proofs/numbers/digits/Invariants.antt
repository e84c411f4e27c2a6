use Rattle.std.proofs.Common.{◌≡◌, ◌≤◌, drop}
use Rattle.model_values.specs.Searching.{digits_behind}
use Rattle.text_methods.proofs.numbers.digits.Given as goal

abbrev pub invariant-loop-byte : goal.invariant-loop-byte
invariant-loop-byte l = record {
  small : l.number ≤ l.most;
  rest : digits_behind l.number (drop l.byte-index l.bytes) ≡ digits_behind 0 l.bytes;
}
