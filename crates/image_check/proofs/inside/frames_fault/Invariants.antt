use Rattle.std.proofs.Common.{◌≡◌, drop}
use Rattle.cps_code.specs.Script.{script_of}
use Rattle.image_check.specs.Threads.{frames_fault}
use Rattle.image_check.proofs.inside.frames_fault.Given as goal

abbrev pub invariant-loop-place : goal.invariant-loop-place
invariant-loop-place l = frames_fault (script_of l.table.code.now) l.lists.image.now l.thread l.place (drop l.place l.frames) ≡ frames_fault (script_of l.table.code.now) l.lists.image.now l.thread 0 l.thread.frames
