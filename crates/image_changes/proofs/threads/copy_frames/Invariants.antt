use Rattle.std.proofs.Common.{◌≡◌, ◌++◌, take}
use Rattle.image_changes.proofs.threads.copy_frames.Given as goal

abbrev pub invariant-loop-frame : goal.invariant-loop-frame
invariant-loop-frame l = l.copies ≡ l.fn.copies ++ take l.frame-index l.frames
