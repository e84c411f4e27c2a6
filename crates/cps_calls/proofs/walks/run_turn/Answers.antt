use Rattle.std.proofs.Common.{◌≡◌, ◌∙◌, ◌<◌, ◌≤◌, ◌∷◌, ◌++◌, suc, List, true, false, length, w32, refl, sym, ap, subst}
use Rattle.std.specs.Prelude.{Ok, Err}
use Rattle.std.proofs.lemmas.Int.{to_z_pos}
use Rattle.std.proofs.lemmas.Result.{err_from_is_err_and}
use Rattle.cell_heap.specs.Soundness.{ValueBelow}
use Rattle.cell_heap.proofs.FollowsLemmas.{Follows-same, Follows-trans}
use Rattle.model_values.specs.Limits.{product_limits}
use Rattle.model_values.specs.Walks.{turn as element_at}
use Rattle.model_values.specs.declared.value.Value.{Value}
use Rattle.model_values.specs.declared.value.Value.TheVariants.{Int as Whole}
use Rattle.model_run.specs.Around.{whole}
use Rattle.model_run.specs.Calls.{held_in_turn, takes_two, walk_method, walk_turn}
use Rattle.model_run.specs.State.{put_cells}
use Rattle.model_run.specs.FrameTable.{is_callable}
use Rattle.model_run.specs.Terms.{form_of, nodes_of, term_at}
use Rattle.model_run.specs.declared.ending.Entry.TheVariants.{Body}
use Rattle.model_run.proofs.Room.{spends_count}
use Rattle.value_walks.specs.Turns.{TurnAnswers, has_turn, listed}
use Rattle.value_walks.specs.Walking.{held_values, walk_kept, walk_method as method_of}
use Rattle.cps_code.specs.Script.{script_of}
use Rattle.cps_frames.specs.Moves.{Comes}
use Rattle.cps_frames.specs.Standing.{room_of, standing, world_of}
use Rattle.cps_frames.specs.declared.thread.Move.TheVariants.{Enter}
use Rattle.cps_frames.proofs.MoveLaws.{same_world}
use Rattle.cps_calls.proofs.WalkLaws.{turn_begins, turn_met, turn_refused, turn_there}
use Rattle.cps_calls.proofs.walks.run_turn.Goals as goal

pub returns-in_err-tick : goal.returns-in_err-tick
returns-in_err-tick c = λ r pos.
    let place = c.args.place in
    let p = err_from_is_err_and c.from_residual.result c.from_residual.ensures.1 in
    rw (p.1, p.2) (turn_met place.node place.env place.at place.on place.closure (walk_kept place.walk) c.args.callee r _ _ _ _ (c.requires.has (takes_two (world_of c.args.shared.now c.args.state.now) c.args.callee)) (c.in_err-tick.ensures c.args.state.now) pos)

pub takes_two-two-requires-clause-callable : goal.takes_two-two-requires-clause-callable
takes_two-two-requires-clause-callable c =
    subst (λ root. is_callable (form_of (term_at root c.args.callee.node)) ≡ true) (sym (ap (λ w. w.setting.script) (c.in_ok-tick.ensures c.args.state.now).made)) c.requires.callable

pub takes_two-two-requires-clause-node : goal.takes_two-two-requires-clause-node
takes_two-two-requires-clause-node c =
    subst (λ root. c.args.callee.node < length (nodes_of root)) (sym (ap (λ w. w.setting.script) (c.in_ok-tick.ensures c.args.state.now).made)) c.requires.callee

pub walk_turn-requires : goal.walk_turn-requires
walk_turn-requires c =
    subst (λ h. ValueBelow (length h) c.args.place.on) (sym (ap (λ x. x.cells) (c.in_ok-tick.ensures c.args.state.now).heap)) c.requires.stands.on

pub returns-in_err-turn : goal.returns-in_err-turn
returns-in_err-turn c = λ r pos.
    let place = c.args.place in
    let w = world_of c.args.shared.now c.args.state.now in
    let p = err_from_is_err_and c.from_residual-in_err-turn.result c.from_residual-in_err-turn.ensures.1 in
    let begun = c.in_ok-tick.ensures c.args.state.now in
    let old = c.tick.new.shared.heap in
    let new = c.walk_turn.new.heap in
    let same = turn_there w place.on c.args.callee place.at old.cells (script_of c.tick.new.shared.code) c.takes_two-two.result (ap (λ x. x.cells) begun.heap) (ap (λ x. x.setting.script) begun.made) c.takes_two-two.ensures in
    let o = c.in_err-turn.field-0.0 in
    rw (p.1, p.2) (turn_refused place.node place.env place.at place.on place.closure (walk_kept place.walk) c.args.callee r _ o old new _ (standing c.tick.new.shared c.args.state.now) _
    (subst (λ t. TurnAnswers t old new (Err o)) same c.in_err-turn.ensures.answer) begun (λ e. ap (λ h. put_cells h (world_of c.tick.new.shared c.args.state.now)) e) refl
    (record { parent = refl; heap = Follows-trans c.args.shared.now.heap old new (Follows-same c.args.shared.now.heap old begun.heap) c.in_err-turn.ensures.leaves.follows }) pos)

pub unreachable-requires : goal.unreachable-requires
unreachable-requires c =
    let place = c.args.place in
    let begun = c.in_ok-tick.ensures c.args.state.now in
    let past = subst (λ o. TurnAnswers (element_at product_limits c.tick.new.shared.heap.cells place.on c.takes_two-two.result place.at) c.tick.new.shared.heap c.walk_turn.new.heap (Ok o)) c.in_default.is c.in_ok-turn.ensures.answer in
    let none : false ≡ true = sym (ap has_turn past.0) ∙ ap (λ x. has_turn (element_at product_limits x.cells place.on c.takes_two-two.result place.at)) begun.heap ∙ c.requires.has c.takes_two-two.result in
    cc none

pub returns : goal.returns
returns c = λ r pos.
    let place = c.args.place in
    let w = world_of c.args.shared.now c.args.state.now in
    let u = standing c.args.shared.now c.args.state.now in
    let begun = c.in_ok-tick.ensures c.args.state.now in
    let old = c.tick.new.shared.heap in
    let new = c.walk_turn.new.heap in
    let s2 = record c.tick.new.shared { heap = c.walk_turn.new.heap } in
    let v = standing s2 c.push.new.self in
    let turn = c.in-Some.turn in
    let t = element_at product_limits c.args.shared.now.heap.cells place.on (takes_two w c.args.callee) place.at in
    let same = turn_there w place.on c.args.callee place.at old.cells (script_of c.tick.new.shared.code) c.takes_two-two.result (ap (λ x. x.cells) begun.heap) (ap (λ x. x.setting.script) begun.made) c.takes_two-two.ensures in
    let some = subst (λ o. TurnAnswers (element_at product_limits old.cells place.on c.takes_two-two.result place.at) old new (Ok o)) c.in-Some.is c.in_ok-turn.ensures.answer in
    let values : c.in_ok-into_values.field-0 ≡ place.on ∷ place.closure ∷ whole place.at ∷ held_in_turn (method_of place.walk) (listed turn.arguments) (listed turn.element) (walk_kept place.walk) =
    c.in_ok-into_values.ensures ∙ ap (λ xs. xs ++ held_values c.in_turn.result) c.in_ok-front.ensures
    ∙ ap (λ z. place.on ∷ place.closure ∷ Whole z ∷ held_values c.in_turn.result) (to_z_pos w32 place.at c.requires.small) ∙ ap (λ xs. place.on ∷ place.closure ∷ whole place.at ∷ xs) c.in_turn.ensures.values in
    let spent : suc (room_of (world_of c.tick.new.shared c.args.state.now)) ≤ room_of w = subst (λ x. suc (room_of x) ≤ room_of w) (sym begun.made) ((spends_count w).less begun.free) in
    subst (λ (xs : List Value). Comes place.node r (λ sh a. walk_turn a place.node place.env (walk_method sh.form) place.at place.on place.closure (walk_kept place.walk) c.args.callee t) u (Enter (Body xs) c.args.callee.node c.args.callee.env) v) (sym c.in_ok-arguments.ensures)
    (turn_begins place.node place.env place.at place.on place.closure (walk_kept place.walk) c.args.callee r t (method_of place.walk) new.cells (listed turn.arguments) (listed turn.element) c.in_ok-into_values.field-0 u v
    (sym same ∙ some) values c.requires.stands.method begun.free spent
    (same_world s2 c.args.state.now c.push.new.self c.in_ok-push.ensures.same ∙ ap (put_cells new.cells) begun.made)
    c.in_ok-push.ensures.pushed
    (record { parent = c.in_ok-push.ensures.parent; heap = Follows-trans c.args.shared.now.heap old new (Follows-same c.args.shared.now.heap old begun.heap) c.in_ok-turn.ensures.leaves.follows }))
