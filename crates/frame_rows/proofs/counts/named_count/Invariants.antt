use Rattle.std.proofs.Common.{◌≡◌, ◌≤◌, length}
use Rattle.model_run.specs.Nesting.{shape_at}
use Rattle.cps_code.specs.Script.{script_of}
use Rattle.frame_rows.proofs.NamedLaws.{names}
use Rattle.frame_rows.proofs.counts.named_count.Given as goal

abbrev pub invariant-loop-at : goal.invariant-loop-at
invariant-loop-at l = record {
  count : l.count ≡ length (names (shape_at (script_of l.fn.code) l.fn.node).parts l.at);
  low : l.count ≤ l.at;
}
