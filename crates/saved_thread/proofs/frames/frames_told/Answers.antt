use Rattle.std.proofs.Common.{◌<◌, length}
use Rattle.model_run.specs.Terms.{nodes_of}
use Rattle.cps_code.specs.Script.{script_of}
use Rattle.saved_thread.proofs.ListLaws.{item_of}
use Rattle.saved_thread.proofs.frames.frames_told.Goals as goal

pub frame_told-requires : goal.frame_told-requires
frame_told-requires c = item_of (λ f. f.node < length (nodes_of (script_of c.args.code.now))) c.args.frames.now c.loop-frame.frame-index c.frame-item.result c.loop-frame-test.true c.frame-item.is c.requires
