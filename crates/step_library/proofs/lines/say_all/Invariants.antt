use Rattle.std.proofs.Common.{◌≡◌, drop, List}
use Rattle.model_run.specs.State.{Reply, State, Result}
use Rattle.model_run.specs.Steps.{logging_all}
use Rattle.cps_frames.specs.Standing.{standing, state}
use Rattle.cps_frames.specs.declared.thread.ThreadState.{ThreadState as Thread}
use Rattle.step_library.specs.Saying.{LogsOnly}
use Rattle.step_library.proofs.lines.say_all.Given as goal

abbrev pub invariant-loop-line : goal.invariant-loop-line
invariant-loop-line l = record {
  only : (t : Thread) → LogsOnly (standing l.fn.shared t) (standing l.shared t);
  rest : (t : Thread) (go : State → Result) (rs : List Reply) → logging_all l.lines go (state (standing l.fn.shared t).world rs) ≡ logging_all (drop l.line-index l.lines) go (state (standing l.shared t).world rs);
}
