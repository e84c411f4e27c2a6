use Rattle.std.proofs.Common.{◌≡◌, ◌++◌, false, drop}
use Rattle.model_values.specs.Searching.{plain_ends}
use Rattle.text_methods.proofs.parts.with_plain_ends.Given as goal

abbrev pub invariant-loop-byte : goal.invariant-loop-byte
invariant-loop-byte l = l.plain.items ++ plain_ends l.after_return (drop l.byte-index l.text) ≡ plain_ends false l.text
