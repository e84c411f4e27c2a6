use Rattle.std.proofs.Common.{◌∙◌, ◌+◌, ◌^◌, ◌∷◌, length, drop, refl, sym, ap, subst, arith}
use Rattle.std.specs.List.{All}
use Rattle.cell_heap.specs.Soundness.{ValueBelow}
use Rattle.method_names.specs.Names.{seen as table_method}
use Rattle.model_values.specs.Fitting.{HasClosure, IsIn}
use Rattle.model_values.specs.Limits.{product_limits}
use Rattle.model_run.specs.Around.{position, value_at}
use Rattle.model_run.specs.Calls.{walk_method, walks}
use Rattle.model_run.specs.FrameTable.{walk_further, walk_values}
use Rattle.model_run.specs.Nesting.{ValuesFit, anything, shape_at}
use Rattle.value_ops.specs.Effects.{effect_answer}
use Rattle.value_walks.specs.Walking.{IsAfter, NextBelow, held_after, held_method, walk_kept}
use Rattle.cps_code.specs.Script.{script_of}
use Rattle.cps_frames.specs.Order.{rank}
use Rattle.cps_frames.specs.Standing.{common_of, standing, world_of}
use Rattle.cps_frames.proofs.EndLaws.{block_inside}
use Rattle.cps_calls.proofs.TurnLaws.{by_one, by_two}
use Rattle.cps_calls.proofs.WalkLaws.{all_below, enters_turn, keeps_turn, same_after, there_below, turn_method, turn_ranks, turn_walks, walk_ends, walk_goes_on}
use Rattle.cps_calls.proofs.walks.after_walk_turn.Goals as goal

pub value_of-requires : goal.value_of-requires
value_of-requires c = block_inside c.requires.may c.requires.kind refl

pub kept_value-on-requires : goal.kept_value-on-requires
kept_value-on-requires c =
    let row = keeps_turn (script_of c.args.shared.now.code) (common_of c.args.shared.now) c.args.frame c.requires.may.frame.fits c.requires.kind in
    omega (arith, row.three)

pub kept_value-closure-requires : goal.kept_value-closure-requires
kept_value-closure-requires c =
    let row = keeps_turn (script_of c.args.shared.now.code) (common_of c.args.shared.now) c.args.frame c.requires.may.frame.fits c.requires.kind in
    omega (arith, row.three)

pub kept_value-requires : goal.kept_value-requires
kept_value-requires c =
    let row = keeps_turn (script_of c.args.shared.now.code) (common_of c.args.shared.now) c.args.frame c.requires.may.frame.fits c.requires.kind in
    omega (arith, row.three)

pub walk_method-method-requires-clause-walks : goal.walk_method-method-requires-clause-walks
walk_method-method-requires-clause-walks c = turn_walks (script_of c.args.shared.now.code) (common_of c.args.shared.now) c.args.frame c.requires.may.frame.fits c.requires.kind

pub of-walk-requires-clause-walks : goal.of-walk-requires-clause-walks
of-walk-requires-clause-walks c =
    let row = keeps_turn (script_of c.args.shared.now.code) (common_of c.args.shared.now) c.args.frame c.requires.may.frame.fits c.requires.kind in
    ap walks c.walk_method-method.ensures ∙ row.walks_it

pub of-walk-requires-clause-kept : goal.of-walk-requires-clause-kept
of-walk-requires-clause-kept c =
    let row = keeps_turn (script_of c.args.shared.now.code) (common_of c.args.shared.now) c.args.frame c.requires.may.frame.fits c.requires.kind in
    subst (λ m. ValuesFit anything (walk_further m) (walk_values m) c.behind.result) (sym c.walk_method-method.ensures)
    (subst (λ vs. ValuesFit anything (walk_further (walk_method (shape_at (script_of c.args.shared.now.code) c.args.frame.node).form)) (walk_values (walk_method (shape_at (script_of c.args.shared.now.code) c.args.frame.node).form)) vs) (sym c.behind.ensures) row.kept)

pub after-requires-clause-held : goal.after-requires-clause-held
after-requires-clause-held c =
    let row = keeps_turn (script_of c.args.shared.now.code) (common_of c.args.shared.now) c.args.frame c.requires.may.frame.fits c.requires.kind in
    subst (All (ValueBelow (length c.args.shared.now.heap.cells))) (sym (c.of-walk.ensures.values ∙ c.behind.ensures)) (all_below c.args.shared.now.heap.cells (drop 3 c.args.frame.values) row.there)

pub begin_turn-requires : goal.begin_turn-requires
begin_turn-requires c =
    let f = c.args.frame in
    let h = c.args.shared.now.heap.cells in
    let row = keeps_turn (script_of c.args.shared.now.code) (common_of c.args.shared.now) f c.requires.may.frame.fits c.requires.kind in
    let is = subst (IsAfter h (held_method c.of-walk.result) (held_after h c.of-walk.result c.in_ok-value.value)) c.in-GoesOn.is c.in_ok-walk.ensures.after in
    record {
      stands = record {
        node = c.requires.may.frame.fits.node;
        method = is.0 ∙ c.of-walk.ensures.method ∙ c.walk_method-method.ensures;
        on = subst (ValueBelow (length h)) (sym c.kept_value-on.ensures) (there_below h (value_at 0 f.values) row.on);
        closure = subst (IsIn HasClosure h) (sym c.kept_value-closure.ensures) row.closure;
        kept = subst (NextBelow (length h)) c.in-GoesOn.is c.in_ok-walk.ensures.below;
        cells = c.requires.may.sound.cells;
      };
    }

pub returns-in-GoesOn : goal.returns-in-GoesOn
returns-in-GoesOn c =
    let f = c.args.frame in
    let vs = f.values in
    let u = standing c.args.shared.now c.args.state.now in
    let w = world_of c.args.shared.now c.args.state.now in
    let h = c.args.shared.now.heap.cells in
    let x = c.in_ok-value.value in
    let i = c.place_of-at.result + 1 in
    let on = c.kept_value-on.result in
    let closure = c.kept_value-closure.result in
    let next = walk_kept c.in-GoesOn.walk in
    let is = subst (IsAfter h (held_method c.of-walk.result) (held_after h c.of-walk.result x)) c.in-GoesOn.is c.in_ok-walk.ensures.after in
    let m = walk_method (shape_at (script_of c.args.shared.now.code) f.node).form in
    let row = keeps_turn (script_of c.args.shared.now.code) (common_of c.args.shared.now) f c.requires.may.frame.fits c.requires.kind in
    let read = same_after w (table_method c.walk_method-method.result) m on (value_at 0 vs) c.behind.result (drop 3 vs) x c.walk_method-method.ensures c.kept_value-on.ensures c.behind.ensures in
    let front = ap (λ v. v ∷ closure ∷ next) c.kept_value-on.ensures ∙ ap (λ v. value_at 0 vs ∷ v ∷ next) c.kept_value-closure.ensures in
    let again = walk_goes_on f c.args.ending x c.place_of-at.result (on ∷ closure ∷ next) next u c.requires.kind (sym c.in_ok-value.ensures)
    (c.place_of-at.ensures.place ∙ ap position c.kept_value.ensures) front (sym read ∙ sym (c.of-walk.ensures.after h x) ∙ is.1) in
    let method = turn_method (script_of c.args.shared.now.code) (common_of c.args.shared.now) f c.requires.may.frame.fits c.requires.kind in
    by_two f c.args.ending i (on ∷ closure ∷ next) u _ _ again
    (enters_turn f.node f.env i on closure next u _ _ method row.walks_it (c.begin_turn.ensures (2 ^ 66) (omega arith)))

pub returns-in-Ends : goal.returns-in-Ends
returns-in-Ends c =
    let f = c.args.frame in
    let vs = f.values in
    let u = standing c.args.shared.now c.args.state.now in
    let w = world_of c.args.shared.now c.args.state.now in
    let h = c.args.shared.now.heap.cells in
    let x = c.in_ok-value.value in
    let is = subst (IsAfter h (held_method c.of-walk.result) (held_after h c.of-walk.result x)) c.in-Ends.is c.in_ok-walk.ensures.after in
    let m = walk_method (shape_at (script_of c.args.shared.now.code) f.node).form in
    let read = same_after w (table_method c.walk_method-method.result) m c.kept_value-on.result (value_at 0 vs) c.behind.result (drop 3 vs) x c.walk_method-method.ensures c.kept_value-on.ensures c.behind.ensures in
    by_one f c.args.ending u _ _
    (walk_ends f c.args.ending x (effect_answer product_limits h c.in-Ends.effect) u _ _ c.requires.kind (sym c.in_ok-value.ensures)
    (sym read ∙ sym (c.of-walk.ensures.after h x) ∙ is)
    (c.end_with.ensures c.args.state.now f.node (rank f) (λ y. effect_answer product_limits h c.in-Ends.effect) (turn_ranks f c.requires.kind) refl))
