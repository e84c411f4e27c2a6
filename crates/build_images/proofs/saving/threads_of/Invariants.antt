use Rattle.std.proofs.Common.{◌≡◌, map, take}
use Rattle.cps_code.specs.Script.{script_of}
use Rattle.saved_thread.specs.Lower.thread_fits.Seats.{as_seat}
use Rattle.saved_thread.specs.Saving.{thread_told}
use Rattle.build_images.proofs.saving.threads_of.Given as goal

abbrev pub invariant-loop-seat : goal.invariant-loop-seat
invariant-loop-seat g l = l.threads ≡ map (thread_told (script_of l.fn.code)) (map (as_seat g.R.ScriptThread.stance) (take l.seat-index l.seats))
