use Rattle.std.proofs.Common.{◌<◌, ◌∙◌, arith, ap, sym}
use Rattle.model_syntax.specs.declared.node.NodeForm.TheVariants as form
use Rattle.model_run.specs.Around.{arity}
use Rattle.model_run.specs.Nesting.{shape_at}
use Rattle.model_run.specs.Statements.{is_finally}
use Rattle.cps_code.specs.Script.{script_of}
use Rattle.cps_statements.proofs.FinalLaws.{is_other, last_is_finally}
use Rattle.cps_variables.proofs.NodeLaws.{count_is, part_within}
use Rattle.cps_statements.proofs.finals.has_finally.Goals as goal

pub overflow_sub-last : goal.overflow_sub-last
overflow_sub-last c =
    let one : 0 < 1 = omega arith in
    let lt : 0 < arity (shape_at (script_of c.args.code.now) c.args.node) = part_within _ _ form.Try 0 c.requires one in
    let e = c.parts-last.ensures ∙ count_is (script_of c.args.code.now) c.args.node in
    omega (arith, lt, e)

pub part_form-requires-clause-part : goal.part_form-requires-clause-part
part_form-requires-clause-part c =
    let one : 0 < 1 = omega arith in
    let lt : 0 < arity (shape_at (script_of c.args.code.now) c.args.node) = part_within _ _ form.Try 0 c.requires one in
    let e = c.parts-last.ensures ∙ count_is (script_of c.args.code.now) c.args.node in
    omega (arith, lt, e)

pub returns-in-Finally : goal.returns-in-Finally
returns-in-Finally c =
    ap is_finally (sym c.in-Finally.is ∙ c.part_form.ensures)
    ∙ last_is_finally (shape_at (script_of c.args.code.now) c.args.node) c.parts-last.result (c.parts-last.ensures ∙ count_is (script_of c.args.code.now) c.args.node)

pub returns-in_default : goal.returns-in_default
returns-in_default c =
    sym (is_other c.part_form.result.now c.in_default.not-Finally) ∙ ap is_finally c.part_form.ensures
    ∙ last_is_finally (shape_at (script_of c.args.code.now) c.args.node) c.parts-last.result (c.parts-last.ensures ∙ count_is (script_of c.args.code.now) c.args.node)
