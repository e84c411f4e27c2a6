use Rattle.std.proofs.Common.{◌≡◌, ◌+◌, ◌*◌, ◌^◌, arith, refl, sym, ◌∙◌}
use Rattle.model_run.specs.declared.frame.FrameKind.TheVariants as kind
use Rattle.cps_frames.specs.Order.{rank}
use Rattle.cps_frames.proofs.EndLaws.{block_inside}
use Rattle.cps_statements.proofs.BlockLaws.{passed_on}
use Rattle.cps_statements.proofs.TryLaws.{other_frame, thrown_frame}
use Rattle.cps_variables.proofs.NodeLaws.{rank_is}
use Rattle.cps_statements.proofs.attempts.after_try.Goals as goal

pub thrown_of-requires : goal.thrown_of-requires
thrown_of-requires c = block_inside c.requires.may c.requires.kind refl

pub after_catch-requires-clause-ending : goal.after_catch-requires-clause-ending
after_catch-requires-clause-ending c = passed_on c.args.ending c.in-Err.ending (sym c.thrown_of.ensures ∙ c.in-Err.is) (block_inside c.requires.may c.requires.kind refl)

pub returns-in-Ok : goal.returns-in-Ok
returns-in-Ok c =
    let e : rank c.args.frame ≡ 2 * 2 ^ 34 + (c.args.frame.left + c.args.frame.left) + 1 = rank_is c.args.frame kind.TryBlock c.requires.kind in
    thrown_frame (rank c.args.frame) c.args.frame c.args.ending c.in-Ok.cell _ _ _ c.requires.kind (sym c.thrown_of.ensures ∙ c.in-Ok.is) (c.catching.ensures (rank c.args.frame) (omega (arith, e)))

pub returns : goal.returns
returns c =
    let e : rank c.args.frame ≡ 2 * 2 ^ 34 + (c.args.frame.left + c.args.frame.left) + 1 = rank_is c.args.frame kind.TryBlock c.requires.kind in
    other_frame (rank c.args.frame) c.args.frame c.args.ending c.in-Err.ending _ _ _ c.requires.kind (sym c.thrown_of.ensures ∙ c.in-Err.is) (c.after_catch.ensures (rank c.args.frame) (omega (arith, e)))
