use Rattle.std.proofs.Common.{◌≡◌, ◌-◌, ◌≤◌, length, take, drop}
use Rattle.model_values.specs.Searching.{onto_first}
use Rattle.text_methods.specs.Parts.{cut}
use Rattle.text_methods.proofs.parts.first_cut.Given as goal

abbrev pub invariant-loop-at : goal.invariant-loop-at
invariant-loop-at l = record {
  within : l.at ≤ length l.text;
  rest : cut l.cuts l.text ≡ onto_first (take l.at l.text) (cut l.cuts (drop l.at l.text));
}

abbrev pub decreases-loop-at : goal.decreases-loop-at
decreases-loop-at l = length l.text - l.at
