use Rattle.std.proofs.Common.{◌<◌, length}
use Rattle.std.specs.Vec.Iter.{into_iter_items}
use Rattle.model_run.specs.Terms.{nodes_of}
use Rattle.cps_code.specs.Script.{script_of}
use Rattle.image_frames.specs.Standings.{frame_in}
use Rattle.saved_thread.proofs.ListLaws.{first_of, one_kept, others_of}
use Rattle.saved_thread.proofs.frames.frames_in.Goals as goal

pub frame_in-requires : goal.frame_in-requires
frame_in-requires c = first_of (λ f. f.node < length (nodes_of (script_of c.args.code.now))) (into_iter_items c.loop-frame.frame-iterator) _ c.in-Some.frame c.in-Some.ensures.steps.0 c.loop-frame.invariant.nodes

pub loop-frame-preserved : goal.loop-frame-preserved
loop-frame-preserved c = record {
  told = one_kept (frame_in (script_of c.args.code.now)) c.loop-frame.frames.items c.push.new.self.items c.frame_in.result c.in-Some.frame (into_iter_items c.loop-frame.frame-iterator) _ _ c.frame_in.ensures c.in_ok-push.ensures.items c.in-Some.ensures.steps.0 c.loop-frame.invariant.told;
  nodes = others_of (λ f. f.node < length (nodes_of (script_of c.args.code.now))) (into_iter_items c.loop-frame.frame-iterator) _ c.in-Some.frame c.in-Some.ensures.steps.0 c.loop-frame.invariant.nodes;
}
