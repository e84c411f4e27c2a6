use Rattle.std.proofs.Common.{◌<◌, ◌-◌, ◌∙◌, ap, arith, sym}
use Rattle.model_syntax.specs.declared.node.NodeForm.TheVariants as form
use Rattle.model_run.specs.Around.{arity}
use Rattle.model_run.specs.Nesting.{shape_at}
use Rattle.cps_code.specs.Script.{script_of}
use Rattle.cps_statements.proofs.FinalLaws.{to_final}
use Rattle.cps_variables.proofs.NodeLaws.{count_is, part_within}
use Rattle.cps_statements.proofs.finals.after_catch.Goals as goal

pub overflow_sub-at : goal.overflow_sub-at
overflow_sub-at c =
    let one : 0 < 1 = omega arith in
    let lt : 0 < arity (shape_at (script_of c.args.shared.now.code) c.args.node) = part_within _ _ form.Try 0 c.requires.form one in
    let e = c.parts-at.ensures ∙ count_is (script_of c.args.shared.now.code) c.args.node in
    omega (arith, lt, e)

pub under-requires-clause-part : goal.under-requires-clause-part
under-requires-clause-part c =
    let one : 0 < 1 = omega arith in
    let lt : 0 < arity (shape_at (script_of c.args.shared.now.code) c.args.node) = part_within _ _ form.Try 0 c.requires.form one in
    let e = c.parts-at.ensures ∙ count_is (script_of c.args.shared.now.code) c.args.node in
    omega (arith, lt, e)

pub returns : goal.returns
returns c =
    to_final c.args.node c.args.env _ c.args.ending _ _ _ _ _ _ (sym c.has_finally.ensures ∙ c.if-not-has_finally.false) (ap (λ p. p.0) c.in_ok-kind.ensures) (ap (λ p. p.1) c.in_ok-kind.ensures) c.in_ok-clone.ensures.cases
    (ap (λ n. n - 1) (c.parts-at.ensures ∙ count_is (script_of c.args.shared.now.code) c.args.node)) c.under.ensures
