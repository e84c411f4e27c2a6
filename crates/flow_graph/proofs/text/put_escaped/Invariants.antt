use Rattle.std.proofs.Common.{◌≡◌, ◌++◌, drop}
use Rattle.std.specs.List.{flat_map}
use Rattle.model_run.specs.GraphText.{escaped_byte}
use Rattle.flow_graph.proofs.text.put_escaped.Given as goal

abbrev pub invariant-loop-byte : goal.invariant-loop-byte
invariant-loop-byte l = l.text ++ flat_map escaped_byte (drop l.byte-index l.label) ≡ l.initial.text ++ flat_map escaped_byte l.label
