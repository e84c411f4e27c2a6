use Rattle.std.proofs.Common.{ap, refl, sym}
use Rattle.model_run.specs.Forms.{name_of}
use Rattle.model_run.specs.Names.{declare}
use Rattle.model_run.specs.declared.frame.FrameKind.TheVariants as kind
use Rattle.cps_frames.specs.Order.{rank}
use Rattle.cps_frames.specs.Standing.{standing, state}
use Rattle.cps_frames.proofs.EndLaws.{block_inside}
use Rattle.cps_frames.proofs.MoveLaws.{to_as}
use Rattle.cps_variables.proofs.NodeLaws.{rank_some, value_frame}
use Rattle.cps_assignments.proofs.declare.after_declare.Goals as goal

pub value_of-requires : goal.value_of-requires
value_of-requires c = block_inside c.requires.may c.requires.kind refl

pub returns : goal.returns
returns c =
    value_frame (rank c.args.frame) c.args.frame kind.DeclareValue (λ y sh a. declare (name_of sh.form) y) c.args.ending c.in_ok-value.value _ _ _ c.requires.kind (λ sh a. refl) (sym c.in_ok-value.ensures)
    (to_as c.args.frame.node (rank c.args.frame) (λ sh a. declare (name_of sh.form) c.in_ok-value.value) (λ sh a. declare c.in_ok-name.name c.in_ok-value.value) _ _ _ (λ a rs. ap (λ x. declare x c.in_ok-value.value (state (standing c.args.shared.now c.args.state.now).world rs)) (sym c.in_ok-name.ensures))
    (c.declare.ensures c.args.state.now c.args.frame.node (rank c.args.frame) (rank_some c.args.frame)))
