use Rattle.std.proofs.Common.{◌∙◌, refl, sym, ap, subst}
use Rattle.std.specs.Prelude.{Err}
use Rattle.std.proofs.lemmas.Result.{err_from_is_err_and}
use Rattle.model_values.specs.Cells.{Answer}
use Rattle.model_values.specs.Limits.{product_limits}
use Rattle.model_values.specs.Walks.{at_end, turn as element_at}
use Rattle.model_run.specs.Around.{cells, ended, limits}
use Rattle.model_run.specs.Calls.{takes_two, walk, walk_method, walk_turn}
use Rattle.model_run.specs.Nesting.{shape_at}
use Rattle.model_run.specs.State.{operating, World}
use Rattle.value_view.specs.Answers.{Answers}
use Rattle.value_walks.specs.Walking.{walk_kept}
use Rattle.cps_code.specs.Script.{script_of}
use Rattle.cps_frames.specs.Halts.{halt_of}
use Rattle.cps_frames.specs.Standing.{standing, state, world_of}
use Rattle.cps_frames.proofs.MoveLaws.{done_answers, to_as, to_thrown}
use Rattle.cps_calls.proofs.WalkLaws.{callee_called, callee_there, closure_below, closure_has_body, none_left, no_turn, walk_with}
use Rattle.cps_calls.proofs.walks.begin_turn.Goals as goal

pub closure_of-requires : goal.closure_of-requires
closure_of-requires c = closure_below c.args.shared.now.heap.cells c.args.place.closure c.requires.stands.closure

pub unreachable-requires : goal.unreachable-requires
unreachable-requires c = closure_has_body (world_of c.args.shared.now c.args.state.now) c.args.place.closure c.requires.stands.closure (sym (c.in_ok-callee.ensures c.args.state.now) ∙ none_left _ c.in_default.not-Some)

pub run_turn-requires-clause-callee : goal.run_turn-requires-clause-callee
run_turn-requires-clause-callee c =
    callee_there (script_of c.args.shared.now.code) (world_of c.args.shared.now c.args.state.now) c.args.place.closure c.in-Some.callee c.requires.stands.cells (sym (c.in_ok-callee.ensures c.args.state.now) ∙ c.in-Some.is)

pub run_turn-requires-clause-callable : goal.run_turn-requires-clause-callable
run_turn-requires-clause-callable c =
    callee_called (script_of c.args.shared.now.code) (world_of c.args.shared.now c.args.state.now) c.args.place.closure c.in-Some.callee c.requires.stands.cells (sym (c.in_ok-callee.ensures c.args.state.now) ∙ c.in-Some.is)

pub returns-in_err-value : goal.returns-in_err-value
returns-in_err-value c = λ r pos.
    let p = err_from_is_err_and c.from_residual-in_err-value.result c.from_residual-in_err-value.ensures.1 in
    let place = c.args.place in
    let w = world_of c.args.shared.now c.args.state.now in
    let u = standing c.args.shared.now c.args.state.now in
    let old = c.args.shared.now.heap in
    let new = c.at_end.new.heap in
    let v = standing (record c.args.shared.now { heap = c.at_end.new.heap }) c.args.state.now in
    let o = c.in_err-value.field-0.0 in
    let m = walk_method (shape_at (script_of c.args.shared.now.code) place.node).form in
    let kept = walk_kept place.walk in
    let callee = sym (c.in_ok-callee.ensures c.args.state.now) ∙ c.in-Some.is in
    let past = no_turn (element_at product_limits old.cells place.on (takes_two w c.in-Some.callee) place.at) (sym (c.has_walk_turn.ensures.has (takes_two w c.in-Some.callee)) ∙ c.if-has_walk_turn.false) in
    let f : World → Answer = λ x. at_end (limits x) (cells x) m place.on kept in
    rw (p.1, p.2) (to_as place.node r (λ sh a. walk a place.node place.env (walk_method sh.form) place.at place.on place.closure kept) (λ sh a. operating f ended) u (Err (halt_of o)) v
    (λ a rs. walk_with a place.node place.env m place.at place.on place.closure kept w rs c.in-Some.callee callee ∙ ap (λ t. walk_turn a place.node place.env m place.at place.on place.closure kept c.in-Some.callee t (state w rs)) past)
    (to_thrown place.node r f (λ y sh a. ended y) o u v
    (done_answers f old new u (Err o) v refl refl refl (record { parent = refl; heap = c.in_err-value.ensures.leaves.follows }) (subst (λ x. Answers (at_end product_limits old.cells x place.on kept) old new (Err o)) c.requires.stands.method c.in_err-value.ensures.answer)) pos))

pub returns-then-has_walk_turn : goal.returns-then-has_walk_turn
returns-then-has_walk_turn c = λ r pos.
    let place = c.args.place in
    let w = world_of c.args.shared.now c.args.state.now in
    let m = walk_method (shape_at (script_of c.args.shared.now.code) place.node).form in
    let kept = walk_kept place.walk in
    let t = element_at product_limits c.args.shared.now.heap.cells place.on (takes_two w c.in-Some.callee) place.at in
    to_as place.node r (λ sh a. walk a place.node place.env (walk_method sh.form) place.at place.on place.closure kept) (λ sh a. walk_turn a place.node place.env (walk_method sh.form) place.at place.on place.closure kept c.in-Some.callee t) (standing c.args.shared.now c.args.state.now) _ _
    (λ a rs. walk_with a place.node place.env m place.at place.on place.closure kept w rs c.in-Some.callee (sym (c.in_ok-callee.ensures c.args.state.now) ∙ c.in-Some.is))
    (c.run_turn.ensures r pos)
