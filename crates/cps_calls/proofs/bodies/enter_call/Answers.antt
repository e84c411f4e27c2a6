use Rattle.std.proofs.Common.{◌≡◌, ◌∙◌, ◌≤◌, ◌^◌, None, Some, true, sym, ap, subst, arith}
use Rattle.std.specs.Prelude.{codes}
use Rattle.model_values.specs.Kinds.{closure}
use Rattle.model_values.specs.Throws.{no_method}
use Rattle.model_run.specs.Around.{arity, cells, ended, limits}
use Rattle.model_run.specs.Callables.{arguments_for, body_with, call_limit, opened, parameters_of}
use Rattle.model_run.specs.FrameTable.{is_callable}
use Rattle.model_run.specs.Forms.{body_of}
use Rattle.model_run.specs.Nesting.{shape_at}
use Rattle.model_run.specs.State.{guarded, operating}
use Rattle.cps_code.specs.Script.{script_of}
use Rattle.cps_frames.specs.Parts.{least_parts}
use Rattle.cps_frames.specs.Standing.{standing, state}
use Rattle.cps_frames.proofs.MoveLaws.{to_as}
use Rattle.cps_frames.proofs.PartLaws.{parts_there}
use Rattle.cps_calls.specs.Calls.{body_of_values}
use Rattle.cps_calls.proofs.BodyLaws.{body_called, callable_part, to_opened}
use Rattle.cps_calls.proofs.bodies.enter_call.Goals as goal

pub arguments_for-requires : goal.arguments_for-requires
arguments_for-requires c = subst (λ f. is_callable f ≡ true) (sym c.kind.ensures) c.requires.may.entry.0

pub run_with-requires-clause-callable : goal.run_with-requires-clause-callable
run_with-requires-clause-callable c = c.requires.may.entry.0

pub run_with-requires-clause-part : goal.run_with-requires-clause-part
run_with-requires-clause-part c =
    let root = script_of c.args.shared.now.code in
    let some : least_parts (shape_at root c.args.node).form ≤ arity (shape_at root c.args.node) = parts_there root c.requires.may.script c.args.node in
    let one : 1 ≤ least_parts (shape_at root c.args.node).form = callable_part (shape_at root c.args.node).form c.requires.may.entry.0 in
    omega (arith, some, one)

pub returns-in-None : goal.returns-in-None
returns-in-None c =
    let k = c.args.node in
    let f = (shape_at (script_of c.args.shared.now.code) k).form in
    let u = standing c.args.shared.now c.args.state.now in
    let none : arguments_for (parameters_of f) c.args.arguments ≡ None = ap (λ g. arguments_for (parameters_of g) c.args.arguments) (sym c.kind.ensures) ∙ sym c.in_ok-arguments_for.ensures ∙ c.in-None.is in
    to_as k (2 ^ 66) (λ sh a. body_of a k sh c.args.env c.args.arguments sh.form) (λ sh a. operating (λ w. no_method (limits w) (cells w) (closure 0) (codes "call")) ended) u _ _
    (λ a rs. body_called f c.requires.may.entry.0 a k (shape_at (script_of c.args.shared.now.code) k) c.args.env c.args.arguments (state u.world rs)
    ∙ ap (λ o. body_with a (shape_at (script_of c.args.shared.now.code) k) k c.args.env o (state u.world rs)) none)
    (c.refuse_arguments.ensures c.args.state.now k (2 ^ 66) (omega arith))

pub returns-in_ok-open_call-in-Some : goal.returns-in_ok-open_call-in-Some
returns-in_ok-open_call-in-Some c =
    let k = c.args.node in
    let f = (shape_at (script_of c.args.shared.now.code) k).form in
    let u = standing c.args.shared.now c.args.state.now in
    let some : arguments_for (parameters_of f) c.args.arguments ≡ Some c.in-Some.values = ap (λ g. arguments_for (parameters_of g) c.args.arguments) (sym c.kind.ensures) ∙ sym c.in_ok-arguments_for.ensures ∙ c.in-Some.is in
    to_as k (2 ^ 66) (λ sh a. body_of a k sh c.args.env c.args.arguments sh.form) (λ sh a. guarded call_limit opened (body_of_values a sh k c.args.env c.in-Some.values)) u _ _
    (λ a rs. body_called f c.requires.may.entry.0 a k (shape_at (script_of c.args.shared.now.code) k) c.args.env c.args.arguments (state u.world rs)
    ∙ ap (λ o. body_with a (shape_at (script_of c.args.shared.now.code) k) k c.args.env o (state u.world rs)) some)
    (to_opened k (2 ^ 66) (λ sh a. body_of_values a sh k c.args.env c.in-Some.values) u (standing c.args.shared.now c.open_call.new.state) _ _ (c.in_ok-open_call-in-Some.ensures c.args.shared.now)
    (c.run_with.ensures (2 ^ 66) (omega arith)))
