use Rattle.std.proofs.Common.{◌≡◌, map, take}
use Rattle.cps_code.specs.Script.{script_of}
use Rattle.image_changes.specs.Seen.{KeepsThreads, thread_seen}
use Rattle.saved_thread.specs.Lower.thread_fits.Seats.{as_seat}
use Rattle.saved_thread.specs.Saving.{thread_told}
use Rattle.build_images.proofs.fronts.threads_of.Given as goal

abbrev pub invariant-loop-seat : goal.invariant-loop-seat
invariant-loop-seat g l = record {
  here : map thread_seen l.threads.items ≡ map (thread_told (script_of l.fn.code)) (map (as_seat g.R.ScriptThread.stance) (take l.seat-index l.seats));
  keeps : KeepsThreads l.fn.before l.threads.items;
}
