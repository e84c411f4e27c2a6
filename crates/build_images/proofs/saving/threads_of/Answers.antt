use Rattle.std.proofs.Common.{arith}
use Rattle.cps_code.specs.Script.{script_of}
use Rattle.saved_thread.specs.Saving.{AtNodes}
use Rattle.saved_thread.proofs.ListLaws.{item_of}
use Rattle.build_images.proofs.saving.threads_of.Goals as goal

pub saved-requires : goal.saved-requires
saved-requires g c = record { nodes = item_of (λ x. AtNodes (script_of c.args.code.now) (g.R.ScriptThread.stance x.thread).frames) c.args.seats.now c.loop-seat.seat-index c.seat-item.result c.loop-seat-test.true c.seat-item.is c.requires.nodes; first = omega arith }
