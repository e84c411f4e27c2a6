use Rattle.std.proofs.Common.{◌≡◌, ◌++◌, drop}
use Rattle.std.specs.List.{flat_map}
use Rattle.flow_graph.proofs.Pieces.{blank_decimal}
use Rattle.flow_graph.proofs.text.put_numbers.Given as goal

abbrev pub invariant-loop-number : goal.invariant-loop-number
invariant-loop-number l = l.text ++ flat_map blank_decimal (drop l.number-index l.others) ≡ l.initial.text ++ flat_map blank_decimal l.others
