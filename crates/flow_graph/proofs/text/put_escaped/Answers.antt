use Rattle.model_run.specs.GraphText.{escaped_byte}
use Rattle.flow_graph.proofs.Pieces.{put-step, put-done}
use Rattle.flow_graph.proofs.text.put_escaped.Goals as goal

pub loop-byte-preserved : goal.loop-byte-preserved
loop-byte-preserved c = put-step escaped_byte c.args.label.now _ _ 0 c.loop-byte-test.true c.in_ok-put_escaped_byte.ensures c.loop-byte.invariant

pub returns : goal.returns
returns c = put-done escaped_byte c.args.label.now _ _ c.loop-byte-test.false c.loop-byte.invariant
