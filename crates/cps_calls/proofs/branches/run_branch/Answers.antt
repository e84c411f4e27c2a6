use Rattle.std.proofs.Common.{◌≡◌, ◌∙◌, ◌<◌, ◌∷◌, List, [], length, refl, sym, ap, subst, arith}
use Rattle.std.specs.Prelude.{Err}
use Rattle.std.proofs.lemmas.Result.{err_from_is_err_and}
use Rattle.model_values.specs.declared.value.Value.{Value}
use Rattle.model_values.specs.declared.value.Value.TheVariants.{Null}
use Rattle.model_run.specs.declared.ending.Entry.TheVariants.{First}
use Rattle.model_run.specs.declared.frame.FrameKind.TheVariants as kind
use Rattle.model_run.specs.Around.{frame, under, whole}
use Rattle.model_run.specs.Callables.{after_call, parameters_of}
use Rattle.model_run.specs.Names.{bind_all}
use Rattle.model_run.specs.Nesting.{shape_at}
use Rattle.model_run.specs.State.{operating, through}
use Rattle.model_run.specs.Steps.{after_branch}
use Rattle.cps_code.specs.Script.{script_of}
use Rattle.cps_frames.specs.Changes.{Done}
use Rattle.cps_frames.specs.Halts.{halt_of}
use Rattle.cps_frames.specs.Standing.{standing, state}
use Rattle.cps_frames.proofs.MoveLaws.{to_as}
use Rattle.cps_calls.specs.Calls.{body_from, body_of_values, making}
use Rattle.cps_calls.proofs.BranchLaws.{makes_only, to_given_inside, to_refused_inside}
use Rattle.cps_calls.proofs.branches.run_branch.Goals as goal

pub returns-in_err-new_variables : goal.returns-in_err-new_variables
returns-in_err-new_variables c = λ r lt.
    let p = err_from_is_err_and c.from_residual.result c.from_residual.ensures.1 in
    let h : 2 < r = lt in
    let k = c.args.node in
    let env = c.args.env in
    let vs = c.args.values in
    let n = length c.args.shared.now.heap.cells in
    let u = standing c.args.shared.now c.args.state.now in
    let v = standing c.new_variables.new.shared c.args.state.now in
    let o = c.in_err-new_variables.field-0.0 in
    let f = frame kind.BranchBody k 0 env (whole c.args.start ∷ []) in
    let go = after_branch c.args.start in
    rw (p.1, p.2) (to_as k r (λ sh a s. through f go (body_of_values a sh k env vs s)) (λ sh a s. through f go (operating (making vs) (λ y. body_from a sh k env n) s)) u (Err (halt_of o)) v (λ a rs. refl)
    (to_refused_inside k r f go (making vs) (λ y sh a. body_from a sh k env n) o u v (λ g i e. makes_only _ _ g Null i e) (subst (λ (xs : List Value). Done (making xs) u (Err o) v) c.as_slice.ensures (c.in_err-new_variables.ensures.done c.args.state.now)) (omega (arith, h))))

pub returns : goal.returns
returns c = λ r lt.
    let k = c.args.node in
    let env = c.args.env in
    let vs = c.args.values in
    let n = length c.args.shared.now.heap.cells in
    let u = standing c.args.shared.now c.args.state.now in
    let u' = standing c.new_variables.new.shared c.args.state.now in
    let v = standing c.new_variables.new.shared c.inside_branch.new.state in
    let g = (shape_at (script_of c.new_variables.new.shared.code) k).form in
    let f = frame kind.BranchBody k 0 env (whole c.args.start ∷ []) in
    let go = after_branch c.args.start in
    let is_bound : c.in_ok-bound.bound ≡ bind_all (parameters_of g) n env =
    c.in_ok-bound.ensures ∙ ap (λ x. bind_all (parameters_of x) c.len-first.result c.in_ok-clone.field-0) c.kind.ensures
    ∙ ap (λ m. bind_all (parameters_of g) m c.in_ok-clone.field-0) c.len-first.ensures.len ∙ ap (bind_all (parameters_of g) n) c.in_ok-clone.ensures.cases in
    to_as k r (λ sh a s. through f go (body_of_values a sh k env vs s)) (λ sh a s. through f go (operating (making vs) (λ y. body_from a sh k env n) s)) u c.inside_branch.result v (λ a rs. refl)
    (to_given_inside k r f go (making vs) (λ y sh a. body_from a sh k env n) Null u u' c.inside_branch.result v (rw c.as_slice.ensures at (c.in_ok-new_variables.ensures.done c.args.state.now))
    (to_as k r (λ sh a s. through f go (body_from a sh k env n s)) (λ sh a s. through f go (under a (frame kind.CallBody k 0 env []) after_call First 0 c.in_ok-bound.bound s)) u' c.inside_branch.result v
    (λ a rs. ap (λ e. through f go (under a (frame kind.CallBody k 0 env []) after_call First 0 e (state u'.world rs))) (sym is_bound)) (c.inside_branch.ensures r lt)))
