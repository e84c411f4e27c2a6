use Rattle.std.proofs.Common.{◌≡◌}
use Rattle.std.specs.List.{AllByRecursion as AllAre}
use Rattle.cps_code.specs.Script.{script_of}
use Rattle.image_form.specs.declared.image.ImageThread.{ImageThread}
use Rattle.image_changes.specs.Seen.{KeepsThread, thread_seen}
use Rattle.image_changes.specs.declared.now.NowThread.{NowThread}
use Rattle.saved_thread.specs.Lower.thread_fits.Seats.{as_seat}
use Rattle.saved_thread.specs.Saving.{AtNodes, thread_told}
use Rattle.saved_thread.proofs.ListLaws.{and_last, item_of}
use Rattle.build_images.specs.Fronts.{HasStoodAs}
use Rattle.build_images.proofs.FrontLaws.{one_more_seen}
use Rattle.build_images.proofs.fronts.threads_of.Goals as goal

pub thread_of-requires : goal.thread_of-requires
thread_of-requires g c =
    let root = script_of c.args.code.now in
    let stance = g.R.ScriptThread.stance in
    record {
      nodes = item_of (λ x. AtNodes root (stance x.thread).frames) c.args.seats.now c.loop-seat.seat-index c.seat-item.result c.loop-seat-test.true c.seat-item.is c.requires.nodes;
      order = c.requires.order;
      stood = item_of (λ x. AllAre (HasStoodAs g.R.ScriptThread.low g.R.ScriptThread.touched stance root x) c.args.before.now) c.args.seats.now c.loop-seat.seat-index c.seat-item.result c.loop-seat-test.true c.seat-item.is c.requires.stood;
    }

pub loop-seat-preserved : goal.loop-seat-preserved
loop-seat-preserved g c = record {
  here = one_more_seen (thread_told (script_of c.args.code.now)) (as_seat g.R.ScriptThread.stance) c.args.seats.now c.loop-seat.seat-index c.seat-item.result c.loop-seat.threads.items c.push.new.self.items _ c.seat-item.is c.loop-seat-test.true c.loop-seat.invariant.here c.in_ok-push.ensures.items c.in_ok-thread_of.ensures.here;
  keeps = and_last (λ (y : NowThread). AllAre (λ (x : ImageThread). x.number ≡ (thread_seen y).number → KeepsThread x y) c.args.before.now) c.loop-seat.threads.items c.push.new.self.items _ c.in_ok-push.ensures.items c.loop-seat.invariant.keeps c.in_ok-thread_of.ensures.keeps;
}
