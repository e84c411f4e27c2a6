use Rattle.std.proofs.Common.{◌∙◌, ◌-◌, Ok, arith, ap, sym}
use Rattle.cps_code.specs.Script.{script_of}
use Rattle.cps_statements.proofs.RowLaws.{no_other_part, to_arm, to_block}
use Rattle.cps_variables.proofs.NodeLaws.{count_is}
use Rattle.cps_statements.proofs.arms.arms.Goals as goal

pub overflow_sub-at : goal.overflow_sub-at
overflow_sub-at c = let e = c.parts.ensures ∙ count_is (script_of c.args.shared.now.code) c.args.node in omega (arith, e, c.requires.left)

pub part_form-requires-clause-part : goal.part_form-requires-clause-part
part_form-requires-clause-part c = let e = c.parts.ensures ∙ count_is (script_of c.args.shared.now.code) c.args.node in omega (arith, e, c.requires.left, c.if-left-eq0.false)

pub part-requires : goal.part-requires
part-requires c = let e = c.parts.ensures ∙ count_is (script_of c.args.shared.now.code) c.args.node in record { node = c.requires.form.node; part = omega (arith, e, c.requires.left, c.if-left-eq0.false); entry = tt }

pub returns-in-Arm : goal.returns-in-Arm
returns-in-Arm c =
    to_arm c.args.node c.args.left _ c.args.env _ _ _ c.if-left-eq0.false (ap (λ n. n - c.args.left) (c.parts.ensures ∙ count_is (script_of c.args.shared.now.code) c.args.node)) (sym c.part_form.ensures ∙ c.in-Arm.is) c.inside.ensures

pub unreachable-requires : goal.unreachable-requires
unreachable-requires c = no_other_part (script_of c.args.shared.now.code) c.args.node (c.parts.result - c.args.left) c.part_form.result.now c.requires.form c.part_form.ensures c.in_default.not-Arm c.in_default.not-Block

pub returns-in-Block : goal.returns-in-Block
returns-in-Block c =
    to_block c.args.node c.args.left _ c.args.env _ (Ok c.part.result) _ c.if-left-eq0.false (ap (λ n. n - c.args.left) (c.parts.ensures ∙ count_is (script_of c.args.shared.now.code) c.args.node)) (sym c.part_form.ensures ∙ c.in-Block.is) (c.part.ensures c.args.state.now)
