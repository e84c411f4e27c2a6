use Rattle.cps_code.specs.Script.{script_of}
use Rattle.frame_rows.specs.Leading.{spot_seen}
use Rattle.image_frames.proofs.LeadTests.{same_called}
use Rattle.image_frames.proofs.spots.is_called_at.Goals as goal

pub returns : goal.returns
returns c = λ f node. same_called (script_of c.args.code.now) c.requires.script f (spot_seen c.args.spot) c.may_be_called.result (c.may_be_called.ensures f node)
