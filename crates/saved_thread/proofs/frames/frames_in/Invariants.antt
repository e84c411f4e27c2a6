use Rattle.std.proofs.Common.{◌≡◌, ◌<◌, ◌++◌, length, map}
use Rattle.std.specs.List.{AllByRecursion as AllAre}
use Rattle.std.specs.Vec.Iter.{into_iter_items}
use Rattle.model_run.specs.Terms.{nodes_of}
use Rattle.cps_code.specs.Script.{script_of}
use Rattle.image_frames.specs.Standings.{frame_in}
use Rattle.saved_thread.proofs.frames.frames_in.Given as goal

abbrev pub invariant-loop-frame : goal.invariant-loop-frame
invariant-loop-frame l = record {
  told : l.frames.items ++ map (frame_in (script_of l.fn.code)) (into_iter_items l.frame-iterator) ≡ map (frame_in (script_of l.fn.code)) l.fn.told;
  nodes : AllAre (λ f. f.node < length (nodes_of (script_of l.fn.code))) (into_iter_items l.frame-iterator);
}
