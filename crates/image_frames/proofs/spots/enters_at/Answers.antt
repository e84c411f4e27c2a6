use Rattle.std.proofs.Common.{◌<◌, length, subst, sym}
use Rattle.model_run.specs.Terms.{nodes_of}
use Rattle.cps_code.specs.Script.{script_of}
use Rattle.frame_rows.specs.Leading.{spot_seen}
use Rattle.image_frames.proofs.LeadTests.{same_enters}
use Rattle.image_frames.proofs.spots.enters_at.Goals as goal

pub returns : goal.returns
returns c = λ f kind node.
    let root = script_of c.args.code.now in
    same_enters root c.requires.script f (subst (λ k. k < length (nodes_of root)) (sym node) c.requires.node) (spot_seen c.args.spot) c.may_stand.result (c.may_stand.ensures f kind node)
