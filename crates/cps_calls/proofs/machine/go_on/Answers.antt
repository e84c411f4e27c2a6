use Rattle.std.proofs.Common.{◌≡◌, ◌+◌, ◌*◌, ◌^◌, Ok, ap, arith, refl}
use Rattle.model_run.specs.declared.frame.FrameKind.TheVariants as kind
use Rattle.cps_frames.specs.Order.{extra, rank, tier}
use Rattle.cps_frames.specs.Standing.{standing}
use Rattle.cps_frames.proofs.EndLaws.{block_inside}
use Rattle.cps_frames.proofs.MoveLaws.{to_kind}
use Rattle.cps_calls.proofs.TurnLaws.{by_one}
use Rattle.cps_calls.proofs.machine.go_on.Goals as goal

pub after_body-requires : goal.after_body-requires
after_body-requires c = block_inside c.requires.may c.in-CallBody.is refl

pub returns-in-CallBody : goal.returns-in-CallBody
returns-in-CallBody c =
    let f = c.args.frame in
    let is : rank f ≡ tier kind.CallBody * 2 ^ 34 + (f.left + f.left) + extra kind.CallBody = ap (λ d. tier d * 2 ^ 34 + (f.left + f.left) + extra d) c.in-CallBody.is in
    by_one f c.args.ending (standing c.args.shared.now c.args.state.now) (Ok c.after_body.result) _
    (to_kind (rank f) f kind.CallBody c.args.ending (standing c.args.shared.now c.args.state.now) (Ok c.after_body.result) _ c.in-CallBody.is
    (c.after_body.ensures c.args.shared.now f.node (rank f) (omega (arith, is))))
