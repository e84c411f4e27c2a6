use Rattle.std.proofs.Common.{◌≡◌, ◌<◌, ◌++◌, length, map}
use Rattle.std.specs.List.{AllByRecursion as AllAre}
use Rattle.std.specs.Vec.Iter.{into_iter_items}
use Rattle.model_run.specs.Terms.{nodes_of}
use Rattle.green_threads.specs.Grouping.{IsSeated}
use Rattle.cps_code.specs.Script.{script_of}
use Rattle.saved_thread.specs.Lower.thread_fits.Seats.{as_seat}
use Rattle.saved_thread.specs.Saving.{Begun, seat_in}
use Rattle.build_images.proofs.restoring.seats_of.Given as goal

abbrev pub invariant-loop-thread : goal.invariant-loop-thread
invariant-loop-thread g l = record {
  told : map (as_seat g.R.ScriptThread.stance) l.seats.items ++ map (seat_in (script_of l.fn.code)) (into_iter_items l.thread-iterator) ≡ map (seat_in (script_of l.fn.code)) l.fn.threads;
  begun : AllAre (Begun g.R.ScriptThread.stance) l.seats.items;
  seated : AllAre (IsSeated g.R.Runner.number g.R.Runner.parent g.R.Runner.branch) l.seats.items;
  nodes : AllAre (λ t. AllAre (λ f. f.node < length (nodes_of (script_of l.fn.code))) t.frames) (into_iter_items l.thread-iterator);
}
