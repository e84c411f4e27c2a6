use Rattle.std.proofs.Common.{◌≡◌, ◌≤◌, ◌+◌, [], length, drop}
use Rattle.model_run.specs.Gathering.{text_parts}
use Rattle.model_run.specs.Nesting.{shape_at}
use Rattle.cps_code.specs.Script.{script_of}
use Rattle.cps_frames.specs.Standing.{world_of}
use Rattle.cps_frames.specs.declared.thread.ThreadState.{ThreadState}
use Rattle.cps_values.specs.Values.{values_given}
use Rattle.cps_values.proofs.built.written.Given as goal

abbrev pub invariant-loop-at : goal.invariant-loop-at
invariant-loop-at l = record {
  same : (t : ThreadState) → text_parts (world_of l.fn.shared t) (shape_at (script_of l.fn.shared.code) l.fn.node).parts l.fn.values [] ≡ text_parts (world_of l.fn.shared t) (drop l.at (shape_at (script_of l.fn.shared.code) l.fn.node).parts) (drop l.used l.fn.values) l.text;
  low : l.used ≤ l.at;
  enough : l.used + values_given (drop l.at (shape_at (script_of l.fn.shared.code) l.fn.node).parts) ≤ length l.fn.values;
}
