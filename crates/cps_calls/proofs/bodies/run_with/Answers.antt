use Rattle.std.proofs.Common.{◌≡◌, ◌∙◌, ◌<◌, List, [], length, refl, sym, ap, subst, arith}
use Rattle.std.proofs.lemmas.Result.{err_from_is_err_and}
use Rattle.model_values.specs.declared.value.Value.{Value}
use Rattle.model_values.specs.declared.value.Value.TheVariants.{Null}
use Rattle.model_run.specs.declared.ending.Entry.TheVariants.{First}
use Rattle.model_run.specs.declared.frame.FrameKind.TheVariants as kind
use Rattle.model_run.specs.Around.{frame, under}
use Rattle.model_run.specs.Callables.{after_call, parameters_of}
use Rattle.model_run.specs.Names.{bind_all}
use Rattle.model_run.specs.Nesting.{shape_at}
use Rattle.model_run.specs.State.{operating}
use Rattle.cps_code.specs.Script.{script_of}
use Rattle.std.specs.Prelude.{Err}
use Rattle.cps_frames.specs.Changes.{Done}
use Rattle.cps_frames.specs.Halts.{halt_of}
use Rattle.cps_frames.specs.Moves.{ComesTo}
use Rattle.cps_frames.specs.Standing.{standing, state}
use Rattle.cps_frames.proofs.MoveLaws.{to_as, to_given, to_thrown}
use Rattle.cps_calls.specs.Calls.{body_from, body_of_values, making}
use Rattle.cps_calls.proofs.bodies.run_with.Goals as goal

pub returns-in_err-new_variables : goal.returns-in_err-new_variables
returns-in_err-new_variables c = λ r lt.
    let p = err_from_is_err_and c.from_residual.result c.from_residual.ensures.1 in
    let h : 1 < r = lt in
    let k = c.args.node in
    let vs = c.args.values in
    let n = length c.args.shared.now.heap.cells in
    let u = standing c.args.shared.now c.args.state.now in
    let v = standing c.new_variables.new.shared c.args.state.now in
    rw (p.1, p.2) (to_as k r (λ sh a. body_of_values a sh k c.args.env vs) (λ sh a. operating (making vs) (λ y. body_from a sh k c.args.env n)) u (Err (halt_of c.in_err-new_variables.field-0.0)) v (λ a rs. refl)
    (to_thrown k r (making vs) (λ y sh a. body_from a sh k c.args.env n) c.in_err-new_variables.field-0.0 u v (subst (λ (xs : List Value). Done (making xs) u (Err c.in_err-new_variables.field-0.0) v) c.as_slice.ensures (c.in_err-new_variables.ensures.done c.args.state.now)) (omega (arith, h))))

pub returns : goal.returns
returns c = λ r lt.
    let k = c.args.node in
    let env = c.args.env in
    let vs = c.args.values in
    let n = length c.args.shared.now.heap.cells in
    let u = standing c.args.shared.now c.args.state.now in
    let u' = standing c.new_variables.new.shared c.args.state.now in
    let v = standing c.new_variables.new.shared c.under.new.state in
    let f = (shape_at (script_of c.new_variables.new.shared.code) k).form in
    let is_bound : c.in_ok-bound.bound ≡ bind_all (parameters_of f) n env =
    c.in_ok-bound.ensures ∙ ap (λ g. bind_all (parameters_of g) c.len-first.result c.in_ok-clone.field-0) c.kind.ensures
    ∙ ap (λ m. bind_all (parameters_of f) m c.in_ok-clone.field-0) c.len-first.ensures.len ∙ ap (bind_all (parameters_of f) n) c.in_ok-clone.ensures.cases in
    let inner = subst (λ (ws : List Value). ComesTo k r (λ sh a. under a (frame kind.CallBody k 0 env ws) after_call First 0 c.in_ok-bound.bound) u' c.under.result v) c.new.ensures (c.under.ensures r lt) in
    to_as k r (λ sh a. body_of_values a sh k env vs) (λ sh a. operating (making vs) (λ y. body_from a sh k env n)) u c.under.result v (λ a rs. refl)
    (to_given k r (making vs) (λ y sh a. body_from a sh k env n) Null u u' c.under.result v (rw c.as_slice.ensures at (c.in_ok-new_variables.ensures.done c.args.state.now))
    (to_as k r (λ sh a. body_from a sh k env n) (λ sh a. under a (frame kind.CallBody k 0 env []) after_call First 0 c.in_ok-bound.bound) u' c.under.result v
    (λ a rs. ap (λ e. under a (frame kind.CallBody k 0 env []) after_call First 0 e (state u'.world rs)) (sym is_bound)) inner))
