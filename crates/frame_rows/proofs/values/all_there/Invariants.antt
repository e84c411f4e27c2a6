use Rattle.std.proofs.Common.{◌≡◌, drop}
use Rattle.frame_rows.specs.Values.{all_there}
use Rattle.frame_rows.proofs.values.all_there.Given as goal

abbrev pub invariant-loop-value : goal.invariant-loop-value
invariant-loop-value l = all_there l.cells (drop l.value-index l.values) ≡ all_there l.cells l.values
