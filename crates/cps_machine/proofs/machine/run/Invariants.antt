use Rattle.std.proofs.Common.{◌≤◌, length}
use Rattle.cps_code.specs.Script.{script_of}
use Rattle.cps_frames.specs.Measure.{weight}
use Rattle.cps_frames.specs.Standing.{standing}
use Rattle.script_thread.specs.Marks.{StaysBelow}
use Rattle.cps_machine.proofs.LoopLaws.{Reached}
use Rattle.cps_machine.proofs.machine.run.Given as goal

abbrev pub invariant-loop-now : goal.invariant-loop-now
invariant-loop-now l = record {
  reached : Reached (standing l.fn.shared l.fn.state) l.fn.first (standing l.shared l.state) l.now;
  stays : StaysBelow l.fn.low l.fn.state.stack.items l.low l.state.stack.items;
  within : l.low ≤ length l.state.stack.items;
}

abbrev pub decreases-loop-now : goal.decreases-loop-now
decreases-loop-now l = weight (script_of l.fn.shared.code) (standing l.shared l.state) l.now
