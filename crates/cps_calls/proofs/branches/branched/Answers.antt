use Rattle.std.proofs.Common.{◌≡◌, ◌∙◌, ◌∷◌, ◌≤◌, ◌^◌, [], None, Some, length, true, sym, ap, subst, arith}
use Rattle.std.proofs.lemmas.Result.{err_from_is_err_and}
use Rattle.std.specs.Prelude.{Err, codes}
use Rattle.model_values.specs.Kinds.{closure}
use Rattle.model_values.specs.Throws.{no_method}
use Rattle.model_run.specs.Around.{arity, cells, ended, frame, limits, whole}
use Rattle.model_run.specs.Callables.{arguments_for, body_with, call_limit, opened, parameters_of}
use Rattle.model_run.specs.FrameTable.{is_callable}
use Rattle.model_run.specs.Forms.{enter}
use Rattle.model_run.specs.Nesting.{shape_at}
use Rattle.model_run.specs.State.{guarded, operating, through}
use Rattle.model_run.specs.Steps.{after_branch}
use Rattle.model_run.specs.declared.ending.Entry.TheVariants.{Branched}
use Rattle.model_run.specs.declared.frame.FrameKind.TheVariants as kind
use Rattle.cps_code.specs.Script.{script_of}
use Rattle.cps_frames.specs.Parts.{least_parts}
use Rattle.cps_frames.specs.Standing.{standing, state}
use Rattle.cps_frames.specs.declared.halt.Halt.TheVariants.{Limit}
use Rattle.cps_frames.proofs.MoveLaws.{to_as}
use Rattle.cps_frames.proofs.PartLaws.{parts_there}
use Rattle.cps_calls.specs.Calls.{body_of_values}
use Rattle.cps_calls.proofs.BodyLaws.{closure_callable}
use Rattle.cps_calls.proofs.BranchLaws.{branch_called, closure_part, full_inside, to_opened_inside}
use Rattle.cps_calls.proofs.branches.branched.Goals as goal

pub arguments_for-requires : goal.arguments_for-requires
arguments_for-requires c = subst (λ f. is_callable f ≡ true) (sym c.kind.ensures) (closure_callable _ c.requires.may.entry.0)

pub run_branch-requires-clause-callable : goal.run_branch-requires-clause-callable
run_branch-requires-clause-callable c = closure_callable _ c.requires.may.entry.0

pub run_branch-requires-clause-part : goal.run_branch-requires-clause-part
run_branch-requires-clause-part c =
    let root = script_of c.args.shared.now.code in
    let some : least_parts (shape_at root c.args.node).form ≤ arity (shape_at root c.args.node) = parts_there root c.requires.may.script c.args.node in
    let one : 1 ≤ least_parts (shape_at root c.args.node).form = closure_part (shape_at root c.args.node).form c.requires.may.entry.0 in
    omega (arith, some, one)

pub run_branch-requires-clause-start : goal.run_branch-requires-clause-start
run_branch-requires-clause-start c =
    let few : length c.args.shared.now.graph ≤ 100000000 = c.requires.may.sound.bounds.few_nodes in
    omega (arith, few, c.requires.may.entry.2.1)

pub refuse_branch-requires : goal.refuse_branch-requires
refuse_branch-requires c = c.requires.may.entry.2

pub returns-in-None : goal.returns-in-None
returns-in-None c =
    let k = c.args.node in
    let env = c.args.env in
    let sh = shape_at (script_of c.args.shared.now.code) k in
    let u = standing c.args.shared.now c.args.state.now in
    let f = frame kind.BranchBody k 0 env (whole c.args.start ∷ []) in
    let none : arguments_for (parameters_of sh.form) [] ≡ None = ap (arguments_for (parameters_of sh.form)) (sym c.new-arguments.ensures) ∙ ap (λ g. arguments_for (parameters_of g) c.new-arguments.result) (sym c.kind.ensures) ∙ sym c.in_ok-arguments_for.ensures ∙ c.in-None.is in
    to_as k (2 ^ 66) (λ s a. enter (Branched c.args.start) a k s env) (λ s a x. through f (after_branch c.args.start) (operating (λ w. no_method (limits w) (cells w) (closure 0) (codes "call")) ended x)) u _ _
    (λ a rs. branch_called sh.form c.requires.may.entry.0 a k sh env c.args.start (state u.world rs)
    ∙ ap (λ o. through f (after_branch c.args.start) (body_with a sh k env o (state u.world rs))) none)
    (c.refuse_branch.ensures k (2 ^ 66) f (omega arith))

pub returns-in_err-open_call-in-Some : goal.returns-in_err-open_call-in-Some
returns-in_err-open_call-in-Some c =
    let p = err_from_is_err_and c.from_residual-in_err-open_call-in-Some.result c.from_residual-in_err-open_call-in-Some.ensures.1 in
    let k = c.args.node in
    let env = c.args.env in
    let sh = shape_at (script_of c.args.shared.now.code) k in
    let u = standing c.args.shared.now c.args.state.now in
    let v = standing c.args.shared.now c.open_call.new.state in
    let l = c.in_err-open_call-in-Some.field-0.0 in
    let f = frame kind.BranchBody k 0 env (whole c.args.start ∷ []) in
    let some : arguments_for (parameters_of sh.form) [] ≡ Some c.in-Some.values = ap (arguments_for (parameters_of sh.form)) (sym c.new-arguments.ensures) ∙ ap (λ g. arguments_for (parameters_of g) c.new-arguments.result) (sym c.kind.ensures) ∙ sym c.in_ok-arguments_for.ensures ∙ c.in-Some.is in
    rw (p.1, p.2) (to_as k (2 ^ 66) (λ s a. enter (Branched c.args.start) a k s env) (λ s a x. through f (after_branch c.args.start) (guarded call_limit opened (body_of_values a s k env c.in-Some.values) x)) u (Err (Limit l)) v
    (λ a rs. branch_called sh.form c.requires.may.entry.0 a k sh env c.args.start (state u.world rs)
    ∙ ap (λ o. through f (after_branch c.args.start) (body_with a sh k env o (state u.world rs))) some)
    (full_inside k (2 ^ 66) f (after_branch c.args.start) (λ s a. body_of_values a s k env c.in-Some.values) l u v (c.in_err-open_call-in-Some.ensures c.args.shared.now) (omega arith)))

pub returns-in_ok-open_call-in-Some : goal.returns-in_ok-open_call-in-Some
returns-in_ok-open_call-in-Some c =
    let k = c.args.node in
    let env = c.args.env in
    let sh = shape_at (script_of c.args.shared.now.code) k in
    let u = standing c.args.shared.now c.args.state.now in
    let f = frame kind.BranchBody k 0 env (whole c.args.start ∷ []) in
    let some : arguments_for (parameters_of sh.form) [] ≡ Some c.in-Some.values = ap (arguments_for (parameters_of sh.form)) (sym c.new-arguments.ensures) ∙ ap (λ g. arguments_for (parameters_of g) c.new-arguments.result) (sym c.kind.ensures) ∙ sym c.in_ok-arguments_for.ensures ∙ c.in-Some.is in
    to_as k (2 ^ 66) (λ s a. enter (Branched c.args.start) a k s env) (λ s a x. through f (after_branch c.args.start) (guarded call_limit opened (body_of_values a s k env c.in-Some.values) x)) u _ _
    (λ a rs. branch_called sh.form c.requires.may.entry.0 a k sh env c.args.start (state u.world rs)
    ∙ ap (λ o. through f (after_branch c.args.start) (body_with a sh k env o (state u.world rs))) some)
    (to_opened_inside k (2 ^ 66) f (after_branch c.args.start) (λ s a. body_of_values a s k env c.in-Some.values) u (standing c.args.shared.now c.open_call.new.state) _ _ (c.in_ok-open_call-in-Some.ensures c.args.shared.now)
    (c.run_branch.ensures (2 ^ 66) (omega arith)))
