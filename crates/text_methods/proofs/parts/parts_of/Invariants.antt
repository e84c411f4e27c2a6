use Rattle.std.proofs.Common.{◌≡◌, ◌++◌, ◌≤◌, length}
use Rattle.text_methods.specs.Parts.{cut, kept}
use Rattle.text_methods.proofs.parts.parts_of.Given as goal

abbrev pub invariant-loop-start : goal.invariant-loop-start
invariant-loop-start l = record {
  few : length l.parts ≤ 65536;
  rest : l.parts ++ kept l.keeps_empty (cut l.cuts l.rest) ≡ kept l.keeps_empty (cut l.cuts l.text);
}

abbrev pub decreases-loop-start : goal.decreases-loop-start
decreases-loop-start l = length l.rest
