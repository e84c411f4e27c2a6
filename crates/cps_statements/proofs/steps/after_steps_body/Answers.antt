use Rattle.std.proofs.Common.{◌≡◌, ◌+◌, ◌*◌, ◌^◌, arith, refl, sym}
use Rattle.model_run.specs.Statements.{steps_next}
use Rattle.model_run.specs.declared.frame.FrameKind.TheVariants as kind
use Rattle.cps_frames.specs.Order.{rank}
use Rattle.cps_frames.proofs.EndLaws.{block_inside}
use Rattle.cps_statements.proofs.WayLaws.{turn_frame}
use Rattle.cps_variables.proofs.NodeLaws.{rank_is}
use Rattle.cps_statements.proofs.steps.after_steps_body.Goals as goal

pub turn_of-requires : goal.turn_of-requires
turn_of-requires c = block_inside c.requires.may c.requires.kind refl

pub returns : goal.returns
returns c =
    let e : rank c.args.frame ≡ 3 * 2 ^ 34 + (c.args.frame.left + c.args.frame.left) + 1 = rank_is c.args.frame kind.StepsBody c.requires.kind in
    turn_frame (rank c.args.frame) c.args.frame kind.StepsBody (λ sh a. steps_next a c.args.frame.node c.args.frame.env) c.args.ending _ _ _ _ c.requires.kind (λ sh a. refl) (sym c.in_ok-turn_of.ensures)
    (c.steps_next.ensures (rank c.args.frame) (omega (arith, e)))
