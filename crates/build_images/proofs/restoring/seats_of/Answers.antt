use Rattle.std.proofs.Common.{◌<◌, length}
use Rattle.std.specs.List.{AllByRecursion as AllAre}
use Rattle.std.specs.Vec.Iter.{into_iter_items}
use Rattle.model_run.specs.Terms.{nodes_of}
use Rattle.green_threads.specs.Grouping.{IsSeated}
use Rattle.cps_code.specs.Script.{script_of}
use Rattle.saved_thread.specs.Lower.thread_fits.Seats.{as_seat}
use Rattle.saved_thread.specs.Saving.{Begun, seat_in}
use Rattle.saved_thread.proofs.ListLaws.{and_last, first_of, one_more, others_of}
use Rattle.build_images.proofs.restoring.seats_of.Goals as goal

pub seat_of-requires : goal.seat_of-requires
seat_of-requires g c = record { nodes = first_of (λ t. AllAre (λ f. f.node < length (nodes_of (script_of c.args.code.now))) t.frames) (into_iter_items c.loop-thread.thread-iterator) _ c.in-Some.thread c.in-Some.ensures.steps.0 c.loop-thread.invariant.nodes }

pub loop-thread-preserved : goal.loop-thread-preserved
loop-thread-preserved g c =
    let rest = into_iter_items c.loop-thread.thread-iterator in
    record {
      told = one_more (as_seat g.R.ScriptThread.stance) (seat_in (script_of c.args.code.now)) c.loop-thread.seats.items c.push.new.self.items _ c.in-Some.thread rest _ _ c.in_ok-seat_of.ensures.told c.in_ok-push.ensures.items c.in-Some.ensures.steps.0 c.loop-thread.invariant.told;
      begun = and_last (Begun g.R.ScriptThread.stance) c.loop-thread.seats.items c.push.new.self.items _ c.in_ok-push.ensures.items c.loop-thread.invariant.begun c.in_ok-seat_of.ensures.begun;
      seated = and_last (IsSeated g.R.Runner.number g.R.Runner.parent g.R.Runner.branch) c.loop-thread.seats.items c.push.new.self.items _ c.in_ok-push.ensures.items c.loop-thread.invariant.seated c.in_ok-seat_of.ensures.seated;
      nodes = others_of (λ t. AllAre (λ f. f.node < length (nodes_of (script_of c.args.code.now))) t.frames) rest _ c.in-Some.thread c.in-Some.ensures.steps.0 c.loop-thread.invariant.nodes;
    }
