use Rattle.std.proofs.Common.{◌≡◌, drop}
use Rattle.model_values.specs.Searching.{trimmed_front}
use Rattle.text_methods.proofs.trim.trimmed_start.Given as goal

abbrev pub invariant-loop-at : goal.invariant-loop-at
invariant-loop-at l = trimmed_front (drop l.at l.text) ≡ trimmed_front l.text
