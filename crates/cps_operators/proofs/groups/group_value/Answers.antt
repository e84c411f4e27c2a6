use Rattle.model_run.specs.declared.ending.Ending.TheVariants.{Normal}
use Rattle.model_run.specs.declared.frame.FrameKind.TheVariants as kind
use Rattle.cps_frames.specs.Order.{rank}
use Rattle.cps_frames.proofs.MoveLaws.{to_kind}
use Rattle.cps_operators.proofs.OperandLaws.{rank_pos}
use Rattle.cps_operators.proofs.groups.group_value.Goals as goal

pub returns : goal.returns
returns c =
    to_kind (rank c.args.frame) c.args.frame kind.GroupValue (Normal c.args.value) _ _ _ c.requires.kind
    (c.counted_value.ensures c.args.state.now c.args.frame.node (rank c.args.frame) (rank_pos c.args.frame))
