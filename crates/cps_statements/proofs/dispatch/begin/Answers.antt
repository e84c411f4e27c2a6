use Rattle.std.proofs.Common.{◌<◌, ◌+◌, ◌*◌, ◌^◌, ◌∙◌, [], Ok, arith, refl, sym}
use Rattle.model_syntax.specs.declared.node.NodeForm.TheVariants as form
use Rattle.model_run.specs.Around.{arity, frame, under}
use Rattle.model_run.specs.Forms.{after}
use Rattle.model_run.specs.Statements.{arms, return_from, while_test}
use Rattle.model_run.specs.declared.ending.Entry.TheVariants.{First}
use Rattle.model_run.specs.declared.frame.FrameKind.TheVariants as kind
use Rattle.cps_code.specs.Script.{script_of}
use Rattle.cps_statements.proofs.RowLaws.{all_arms, to_begun}
use Rattle.cps_variables.proofs.NodeLaws.{count_is, part_within}
use Rattle.cps_statements.proofs.dispatch.begin.Goals as goal

pub arms-requires : goal.arms-requires
arms-requires c =
    let e = c.parts-left.ensures ∙ count_is (script_of c.args.shared.now.code) c.args.node in
    record { form = record { script = c.requires.script; node = c.requires.node; form = sym c.kind.ensures ∙ c.in-If.is }; left = omega (arith, e) }

pub returns-in-If : goal.returns-in-If
returns-in-If c = λ u passed.
    to_begun c.args.node c.args.env form.If (λ sh a. arms a c.args.node sh (arity sh) c.args.env) (2 ^ 66) u _ _ _ (sym c.kind.ensures ∙ c.in-If.is) (λ sh a. refl) passed (omega arith)
    (all_arms c.args.node c.parts-left.result c.args.env _ _ _ c.parts-left.ensures c.parts-left.type_inv c.arms.ensures)

pub returns-in-While : goal.returns-in-While
returns-in-While c = λ u passed.
    to_begun c.args.node c.args.env form.While (λ sh a. while_test a c.args.node c.args.env) (2 ^ 66) u _ _ _ (sym c.kind.ensures ∙ c.in-While.is) (λ sh a. refl) passed (omega arith) (c.while_test.ensures (2 ^ 66) (omega arith))

pub returns-in-Return : goal.returns-in-Return
returns-in-Return c = λ u passed.
    to_begun c.args.node c.args.env form.Return (λ sh a. return_from a c.args.node (arity sh) c.args.env) (2 ^ 66) u _ _ _ (sym c.kind.ensures ∙ c.in-Return.is) (λ sh a. refl) passed (omega arith) (c.return_from.ensures (2 ^ 66) (omega arith))

pub part-requires-clause-part : goal.part-requires-clause-part
part-requires-clause-part c = let lt : 0 < 1 = omega arith in part_within _ _ form.Evaluate 0 (record { script = c.requires.script; node = c.requires.node; form = sym c.kind.ensures ∙ c.in-Evaluate.is }) lt

pub returns-in-Evaluate : goal.returns-in-Evaluate
returns-in-Evaluate c = λ u passed.
    to_begun c.args.node c.args.env form.Evaluate (λ sh a. a.part First 0 c.args.env) (2 ^ 66) u _ (Ok c.part.result) _ (sym c.kind.ensures ∙ c.in-Evaluate.is) (λ sh a. refl) passed (omega arith) (c.part.ensures c.args.state.now (2 ^ 66) (omega arith))

pub first_part-requires-clause-part : goal.first_part-requires-clause-part
first_part-requires-clause-part c = let lt : 0 < 2 = omega arith in part_within _ _ (form.ForEach c.in-ForEach.field-0) 0 (record { script = c.requires.script; node = c.requires.node; form = sym c.kind.ensures ∙ c.in-ForEach.is }) lt

pub returns-in-ForEach : goal.returns-in-ForEach
returns-in-ForEach c = λ u passed.
    let lt : 0 * 2 ^ 34 + (0 + 0) + 1 < 2 ^ 66 = omega arith in
    to_begun c.args.node c.args.env (form.ForEach c.in-ForEach.field-0) (λ sh a. under a (frame kind.EachOver c.args.node 0 c.args.env []) (after (frame kind.EachOver c.args.node 0 c.args.env []) sh a) First 0 c.args.env) (2 ^ 66) u _ _ _ (sym c.kind.ensures ∙ c.in-ForEach.is) (λ sh a. refl) passed (omega arith) (c.first_part.ensures (2 ^ 66) lt)

pub first_part-requires-in-ForSteps-clause-part : goal.first_part-requires-in-ForSteps-clause-part
first_part-requires-in-ForSteps-clause-part c = let lt : 0 < 4 = omega arith in part_within _ _ form.ForSteps 0 (record { script = c.requires.script; node = c.requires.node; form = sym c.kind.ensures ∙ c.in-ForSteps.is }) lt

pub returns-in-ForSteps : goal.returns-in-ForSteps
returns-in-ForSteps c = λ u passed.
    let lt : 2 * 2 ^ 34 + (0 + 0) + 1 < 2 ^ 66 = omega arith in
    to_begun c.args.node c.args.env form.ForSteps (λ sh a. under a (frame kind.StepsFirst c.args.node 0 c.args.env []) (after (frame kind.StepsFirst c.args.node 0 c.args.env []) sh a) First 0 c.args.env) (2 ^ 66) u _ _ _ (sym c.kind.ensures ∙ c.in-ForSteps.is) (λ sh a. refl) passed (omega arith) (c.first_part-in-ForSteps.ensures (2 ^ 66) lt)

pub first_part-requires-in-Try-clause-part : goal.first_part-requires-in-Try-clause-part
first_part-requires-in-Try-clause-part c = let lt : 0 < 1 = omega arith in part_within _ _ form.Try 0 (record { script = c.requires.script; node = c.requires.node; form = sym c.kind.ensures ∙ c.in-Try.is }) lt

pub returns-in-Try : goal.returns-in-Try
returns-in-Try c = λ u passed.
    let lt : 2 * 2 ^ 34 + (0 + 0) + 1 < 2 ^ 66 = omega arith in
    to_begun c.args.node c.args.env form.Try (λ sh a. under a (frame kind.TryBlock c.args.node 0 c.args.env []) (after (frame kind.TryBlock c.args.node 0 c.args.env []) sh a) First 0 c.args.env) (2 ^ 66) u _ _ _ (sym c.kind.ensures ∙ c.in-Try.is) (λ sh a. refl) passed (omega arith) (c.first_part-in-Try.ensures (2 ^ 66) lt)

pub first_part-requires-in-Throw-clause-part : goal.first_part-requires-in-Throw-clause-part
first_part-requires-in-Throw-clause-part c = let lt : 0 < 1 = omega arith in part_within _ _ form.Throw 0 (record { script = c.requires.script; node = c.requires.node; form = sym c.kind.ensures ∙ c.in-Throw.is }) lt

pub returns-in-Throw : goal.returns-in-Throw
returns-in-Throw c = λ u passed.
    let lt : 0 * 2 ^ 34 + (0 + 0) + 1 < 2 ^ 66 = omega arith in
    to_begun c.args.node c.args.env form.Throw (λ sh a. under a (frame kind.ThrowValue c.args.node 0 c.args.env []) (after (frame kind.ThrowValue c.args.node 0 c.args.env []) sh a) First 0 c.args.env) (2 ^ 66) u _ _ _ (sym c.kind.ensures ∙ c.in-Throw.is) (λ sh a. refl) passed (omega arith) (c.first_part-in-Throw.ensures (2 ^ 66) lt)
