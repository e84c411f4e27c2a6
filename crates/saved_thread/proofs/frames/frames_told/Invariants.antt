use Rattle.std.proofs.Common.{◌≡◌, map, take}
use Rattle.cps_code.specs.Script.{script_of}
use Rattle.saved_thread.specs.Saving.{frame_told}
use Rattle.saved_thread.proofs.frames.frames_told.Given as goal

abbrev pub invariant-loop-frame : goal.invariant-loop-frame
invariant-loop-frame l = l.told ≡ map (frame_told (script_of l.fn.code)) (take l.frame-index l.frames)
