use Rattle.std.proofs.Common.{◌≡◌, ◌+◌, ◌*◌, ◌^◌, arith, refl}
use Rattle.model_run.specs.declared.frame.FrameKind.TheVariants as kind
use Rattle.cps_frames.specs.Order.{rank}
use Rattle.cps_frames.specs.Standing.{standing}
use Rattle.cps_frames.proofs.EndLaws.{block_inside, no_answer_inside}
use Rattle.cps_frames.proofs.MoveLaws.{to_kind}
use Rattle.cps_statements.proofs.TestLaws.{steps_form}
use Rattle.cps_variables.proofs.NodeLaws.{rank_is, rank_some}
use Rattle.cps_statements.proofs.dispatch.go_on.Goals as goal

pub after_test-requires : goal.after_test-requires
after_test-requires c = record { may = c.requires.may; ending = block_inside c.requires.may c.in-WhileTest.is refl }

pub after_test-requires-in-StepsTest : goal.after_test-requires-in-StepsTest
after_test-requires-in-StepsTest c = record { may = c.requires.may; ending = block_inside c.requires.may c.in-StepsTest.is refl }

pub returns-in-WhileTest : goal.returns-in-WhileTest
returns-in-WhileTest c = to_kind (rank c.args.frame) c.args.frame kind.WhileTest c.args.ending _ _ _ c.in-WhileTest.is (c.after_test.ensures (rank c.args.frame) (rank_some c.args.frame))

pub returns-in-StepsTest : goal.returns-in-StepsTest
returns-in-StepsTest c = to_kind (rank c.args.frame) c.args.frame kind.StepsTest c.args.ending _ _ _ c.in-StepsTest.is (c.after_test-in-StepsTest.ensures (rank c.args.frame) (rank_some c.args.frame))

pub after_step-requires : goal.after_step-requires
after_step-requires c = record {
  form = steps_form (standing c.args.shared.now c.args.state.now) c.args.frame c.args.ending kind.StepsFirst c.requires.may c.in-StepsFirst.is refl;
  ending = no_answer_inside c.requires.may c.in-StepsFirst.is (λ sh left env. refl);
}

pub after_step-requires-in-StepsNext : goal.after_step-requires-in-StepsNext
after_step-requires-in-StepsNext c = record {
  form = steps_form (standing c.args.shared.now c.args.state.now) c.args.frame c.args.ending kind.StepsNext c.requires.may c.in-StepsNext.is refl;
  ending = no_answer_inside c.requires.may c.in-StepsNext.is (λ sh left env. refl);
}

pub returns-in-StepsFirst : goal.returns-in-StepsFirst
returns-in-StepsFirst c =
    let e : rank c.args.frame ≡ 2 * 2 ^ 34 + (c.args.frame.left + c.args.frame.left) + 1 = rank_is c.args.frame kind.StepsFirst c.in-StepsFirst.is in
    to_kind (rank c.args.frame) c.args.frame kind.StepsFirst c.args.ending _ _ _ c.in-StepsFirst.is (c.after_step.ensures (rank c.args.frame) (omega (arith, e)))

pub returns-in-StepsNext : goal.returns-in-StepsNext
returns-in-StepsNext c =
    let e : rank c.args.frame ≡ 2 * 2 ^ 34 + (c.args.frame.left + c.args.frame.left) + 1 = rank_is c.args.frame kind.StepsNext c.in-StepsNext.is in
    to_kind (rank c.args.frame) c.args.frame kind.StepsNext c.args.ending _ _ _ c.in-StepsNext.is (c.after_step-in-StepsNext.ensures (rank c.args.frame) (omega (arith, e)))
