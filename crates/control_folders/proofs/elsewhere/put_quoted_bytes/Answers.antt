use Rattle.control_folders.specs.TaskScript.{quoted_byte}
use Rattle.control_folders.proofs.Pieces.{put-step, put-done}
use Rattle.control_folders.proofs.elsewhere.put_quoted_bytes.Goals as goal

pub loop-byte-preserved : goal.loop-byte-preserved
loop-byte-preserved c = put-step quoted_byte c.args.bytes.now _ _ 0 c.loop-byte-test.true c.in_ok-put_quoted_byte.ensures c.loop-byte.invariant

pub returns : goal.returns
returns c = put-done quoted_byte c.args.bytes.now _ _ c.loop-byte-test.false c.loop-byte.invariant
