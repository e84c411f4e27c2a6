use Rattle.std.proofs.Common.{◌≡◌, ◌≤◌, ◌+◌, ◌*◌}
use Rattle.model_run.specs.FrameTable.{count_of}
use Rattle.model_run.specs.Nesting.{shape_at}
use Rattle.cps_code.specs.Script.{script_of}
use Rattle.frame_rows.proofs.counts.count_of.Given as goal

abbrev pub invariant-loop-at : goal.invariant-loop-at
invariant-loop-at l = record {
  count : l.count ≡ count_of (shape_at (script_of l.fn.code) l.fn.node) l.fn.env l.at;
  few : l.count ≤ 3 * l.at + 1;
}
