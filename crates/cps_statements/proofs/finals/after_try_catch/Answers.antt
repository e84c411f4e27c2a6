use Rattle.std.proofs.Common.{◌≡◌, ◌+◌, ◌*◌, ◌^◌, arith, refl}
use Rattle.model_run.specs.declared.frame.FrameKind.TheVariants as kind
use Rattle.cps_frames.specs.Order.{rank}
use Rattle.cps_frames.proofs.EndLaws.{block_inside}
use Rattle.cps_frames.proofs.MoveLaws.{to_kind}
use Rattle.cps_variables.proofs.NodeLaws.{rank_is}
use Rattle.cps_statements.proofs.finals.after_try_catch.Goals as goal

pub after_catch-requires-clause-ending : goal.after_catch-requires-clause-ending
after_catch-requires-clause-ending c = block_inside c.requires.may c.requires.kind refl

pub returns : goal.returns
returns c =
    let e : rank c.args.frame ≡ 1 * 2 ^ 34 + (c.args.frame.left + c.args.frame.left) + 1 = rank_is c.args.frame kind.TryCatch c.requires.kind in
    to_kind (rank c.args.frame) c.args.frame kind.TryCatch c.args.ending _ _ _ c.requires.kind (c.after_catch.ensures (rank c.args.frame) (omega (arith, e)))
