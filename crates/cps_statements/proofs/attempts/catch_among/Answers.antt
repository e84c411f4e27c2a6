use Rattle.std.proofs.Common.{◌∙◌, ◌<◌, ◌≤◌, ◌+◌, drop, length, ap, arith, sym}
use Rattle.std.proofs.Math.ListN.{drop_of_length-le}
use Rattle.model_run.specs.Around.{form_at}
use Rattle.model_run.specs.Nesting.{shape_at}
use Rattle.model_run.specs.Statements.{catch_among}
use Rattle.cps_code.specs.Script.{script_of}
use Rattle.cps_statements.proofs.TryLaws.{catch_further, catch_passed, no_catch}
use Rattle.cps_statements.proofs.attempts.catch_among.Goals as goal
use Rattle.cps_statements.proofs.attempts.catch_among.Goals.{in-Catch+else-catches, in_default}
use Rattle.cps_variables.proofs.NodeLaws.{count_is}

pub part_form-requires-clause-part : goal.part_form-requires-clause-part
part_form-requires-clause-part c = let e = c.parts-at-end.ensures ∙ count_is (script_of c.args.code.now) c.args.node in omega (arith, e, c.loop-at-test.true)

pub loop-at-preserved : goal.loop-at-preserved
loop-at-preserved c =
    let fs = (shape_at (script_of c.args.code.now) c.args.node).parts in
    let e = c.parts-at-end.ensures ∙ count_is (script_of c.args.code.now) c.args.node in
    let lt : c.loop-at.at < length fs = omega (arith, e, c.loop-at-test.true) in
    elim c.match-part_form.branch [
      | in-Catch+else-catches w ↦ sym (catch_further c.args.class fs c.loop-at.at lt ∙ catch_passed c.args.class c.loop-at.at (form_at fs c.loop-at.at) _ _ (catch_among c.args.class (c.loop-at.at + 1) (drop (c.loop-at.at + 1) fs)) (sym c.part_form.ensures ∙ w.in-Catch.is) (sym w.catches.ensures ∙ w.if-catches.false)) ∙ c.loop-at.invariant
      | in_default w ↦ sym (catch_further c.args.class fs c.loop-at.at lt ∙ no_catch c.args.class c.loop-at.at (form_at fs c.loop-at.at) (catch_among c.args.class (c.loop-at.at + 1) (drop (c.loop-at.at + 1) fs)) (λ caught x g. w.in_default.not-Catch _ _ (c.part_form.ensures ∙ g))) ∙ c.loop-at.invariant
    ]

pub returns : goal.returns
returns c =
    let fs = (shape_at (script_of c.args.code.now) c.args.node).parts in
    let e = c.parts-at-end.ensures ∙ count_is (script_of c.args.code.now) c.args.node in
    let ge : length fs ≤ c.loop-at.at = omega (arith, e, c.loop-at-test.false) in
    sym (ap (catch_among c.args.class c.loop-at.at) (drop_of_length-le fs ge)) ∙ c.loop-at.invariant
