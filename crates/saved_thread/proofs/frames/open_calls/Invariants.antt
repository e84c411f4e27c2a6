use Rattle.std.proofs.Common.{◌≡◌, ◌+◌, drop}
use Rattle.model_run.specs.Opened.{calls_of}
use Rattle.saved_thread.proofs.frames.open_calls.Given as goal

abbrev pub invariant-loop-frame : goal.invariant-loop-frame
invariant-loop-frame l = l.calls + calls_of (drop l.frame-index l.frames) ≡ calls_of l.frames
