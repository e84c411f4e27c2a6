use Rattle.std.proofs.Common.{◌≡◌, ◌<◌, ◌+◌, ◌-◌, ◌*◌, ◌^◌, ◌∙◌, suc, Ok, arith, sym, refl}
use Rattle.model_run.specs.Around.{arity}
use Rattle.model_run.specs.Nesting.{shape_at}
use Rattle.model_run.specs.declared.frame.FrameKind.TheVariants as kind
use Rattle.cps_code.specs.Script.{script_of}
use Rattle.cps_frames.specs.Order.{rank}
use Rattle.cps_frames.specs.Standing.{standing}
use Rattle.cps_frames.proofs.EndLaws.{block_inside}
use Rattle.cps_statements.proofs.TestLaws.{if_form}
use Rattle.cps_statements.proofs.WayLaws.{arm_fails, arm_holds, left_below}
use Rattle.cps_variables.proofs.NodeLaws.{count_is, rank_is}
use Rattle.cps_statements.proofs.arms.after_if_test.Goals as goal

pub value_of-requires : goal.value_of-requires
value_of-requires c = block_inside c.requires.may c.requires.kind refl

pub overflow_sub-at : goal.overflow_sub-at
overflow_sub-at c =
    let lt : c.args.frame.left < arity (shape_at (script_of c.args.shared.now.code) c.args.frame.node) = left_below (standing c.args.shared.now c.args.state.now) c.args.frame c.args.ending kind.IfTest c.requires.may c.requires.kind refl in
    let e = c.parts.ensures ∙ count_is (script_of c.args.shared.now.code) c.args.frame.node in
    omega (arith, lt, e)

pub overflow_sub-at-then-truth : goal.overflow_sub-at-then-truth
overflow_sub-at-then-truth c =
    let lt : c.args.frame.left < arity (shape_at (script_of c.args.shared.now.code) c.args.frame.node) = left_below (standing c.args.shared.now c.args.state.now) c.args.frame c.args.ending kind.IfTest c.requires.may c.requires.kind refl in
    let e = c.parts.ensures ∙ count_is (script_of c.args.shared.now.code) c.args.frame.node in
    omega (arith, lt, e)

pub part-requires-clause-part : goal.part-requires-clause-part
part-requires-clause-part c =
    let lt : c.args.frame.left < arity (shape_at (script_of c.args.shared.now.code) c.args.frame.node) = left_below (standing c.args.shared.now c.args.state.now) c.args.frame c.args.ending kind.IfTest c.requires.may c.requires.kind refl in
    let e = c.parts.ensures ∙ count_is (script_of c.args.shared.now.code) c.args.frame.node in
    omega (arith, lt, e)

pub returns-then-truth : goal.returns-then-truth
returns-then-truth c =
    let lt : c.args.frame.left < arity (shape_at (script_of c.args.shared.now.code) c.args.frame.node) = left_below (standing c.args.shared.now c.args.state.now) c.args.frame c.args.ending kind.IfTest c.requires.may c.requires.kind refl in
    let e : c.parts.result ≡ arity (shape_at (script_of c.args.shared.now.code) c.args.frame.node) = c.parts.ensures ∙ count_is (script_of c.args.shared.now.code) c.args.frame.node in
    let p : c.parts.result - 1 - c.args.frame.left ≡ arity (shape_at (script_of c.args.shared.now.code) c.args.frame.node) - suc c.args.frame.left = omega (arith, lt, e) in
    let w : rank c.args.frame ≡ 0 * 2 ^ 34 + (c.args.frame.left + c.args.frame.left) + 1 = rank_is c.args.frame kind.IfTest c.requires.kind in
    arm_holds (rank c.args.frame) c.args.frame c.args.ending c.in_ok-test.test _ _ (Ok c.part.result) _ c.requires.kind (sym c.in_ok-test.ensures) (sym c.truth.ensures ∙ c.if-truth.true) p (c.part.ensures c.args.state.now (rank c.args.frame) (omega (arith, w)))

pub arms-requires-clause-form : goal.arms-requires-clause-form
arms-requires-clause-form c = if_form (standing c.args.shared.now c.args.state.now) c.args.frame c.args.ending c.requires.may c.requires.kind

pub returns : goal.returns
returns c =
    let w : rank c.args.frame ≡ 0 * 2 ^ 34 + (c.args.frame.left + c.args.frame.left) + 1 = rank_is c.args.frame kind.IfTest c.requires.kind in
    arm_fails (rank c.args.frame) c.args.frame c.args.ending c.in_ok-test.test _ _ _ c.requires.kind (sym c.in_ok-test.ensures) (sym c.truth.ensures ∙ c.if-truth.false) (c.arms.ensures (rank c.args.frame) (omega (arith, w)))
