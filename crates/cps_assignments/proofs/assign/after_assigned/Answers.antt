use Rattle.std.proofs.Common.{refl, sym}
use Rattle.model_run.specs.Around.{form_at}
use Rattle.model_run.specs.Assignments.{assign_by, operator_in}
use Rattle.model_run.specs.declared.frame.FrameKind.TheVariants as kind
use Rattle.cps_frames.specs.Order.{rank}
use Rattle.cps_frames.specs.Standing.{standing}
use Rattle.cps_frames.proofs.EndLaws.{block_inside}
use Rattle.cps_variables.proofs.NodeLaws.{rank_some, value_frame}
use Rattle.cps_assignments.proofs.TargetLaws.{assigned_size, assigned_stands, frame_assigns}
use Rattle.cps_assignments.proofs.assign.after_assigned.Goals as goal

pub value_of-requires : goal.value_of-requires
value_of-requires c = block_inside c.requires.may c.requires.kind refl

pub assign_by-requires-clause-stands : goal.assign_by-requires-clause-stands
assign_by-requires-clause-stands c = assigned_stands (standing c.args.shared.now c.args.state.now) c.args.frame c.args.ending c.requires.may c.requires.kind

pub assign_by-requires-clause-assigns : goal.assign_by-requires-clause-assigns
assign_by-requires-clause-assigns c = frame_assigns (standing c.args.shared.now c.args.state.now) c.args.frame c.args.ending c.requires.may c.requires.kind

pub assign_by-requires-clause-read : goal.assign_by-requires-clause-read
assign_by-requires-clause-read c = assigned_size (standing c.args.shared.now c.args.state.now) c.args.frame c.args.ending c.requires.may c.requires.kind

pub returns : goal.returns
returns c =
    value_frame (rank c.args.frame) c.args.frame kind.AssignValue (λ y sh a. assign_by (operator_in sh.form) (form_at sh.parts 0) c.args.frame.values c.args.frame.env y) c.args.ending c.in_ok-value.value _ _ _ c.requires.kind (λ sh a. refl) (sym c.in_ok-value.ensures) (c.assign_by.ensures (rank c.args.frame) (rank_some c.args.frame))
