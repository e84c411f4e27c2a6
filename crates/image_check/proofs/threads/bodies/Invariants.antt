use Rattle.std.proofs.Common.{◌≡◌, ◌≤◌, ◌+◌, drop}
use Rattle.model_run.specs.Fitting.{holds_executor, holds_folder}
use Rattle.image_check.specs.Threads.{bodies}
use Rattle.image_check.proofs.threads.bodies.Given as goal

abbrev pub invariant-loop-frame : goal.invariant-loop-frame
invariant-loop-frame l =
    (l.executors + bodies holds_executor (drop l.frame-index l.frames) ≡ bodies holds_executor l.frames)
    × (l.folders + bodies holds_folder (drop l.frame-index l.frames) ≡ bodies holds_folder l.frames)
    × (l.executors ≤ l.frame-index) × (l.folders ≤ l.frame-index)
