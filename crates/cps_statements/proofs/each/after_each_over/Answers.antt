use Rattle.std.proofs.Common.{◌≡◌, ◌+◌, ◌*◌, ◌^◌, arith, refl, sym}
use Rattle.model_run.specs.Statements.{each_from}
use Rattle.model_run.specs.declared.frame.FrameKind.TheVariants as kind
use Rattle.cps_frames.specs.Order.{rank}
use Rattle.cps_frames.proofs.EndLaws.{block_inside}
use Rattle.cps_variables.proofs.NodeLaws.{rank_is, value_frame}
use Rattle.cps_statements.proofs.each.after_each_over.Goals as goal

pub value_of-requires : goal.value_of-requires
value_of-requires c = block_inside c.requires.may c.requires.kind refl

pub returns : goal.returns
returns c =
    let w : rank c.args.frame ≡ 0 * 2 ^ 34 + (c.args.frame.left + c.args.frame.left) + 1 = rank_is c.args.frame kind.EachOver c.requires.kind in
    value_frame (rank c.args.frame) c.args.frame kind.EachOver (λ y sh a. each_from a c.args.frame.env y 0) c.args.ending c.in_ok-on.on _ _ _ c.requires.kind (λ sh a. refl) (sym c.in_ok-on.ensures) (c.each_from.ensures c.args.state.now (rank c.args.frame) (omega (arith, w)))
