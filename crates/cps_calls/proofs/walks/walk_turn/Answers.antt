use Rattle.std.proofs.Common.{◌≡◌, ◌∙◌, None, true, sym, ap, subst}
use Rattle.std.specs.Prelude.{length, drop}
use Rattle.std.specs.List.{All}
use Rattle.cell_heap.specs.Soundness.{ValueBelow}
use Rattle.model_values.specs.declared.value.Value.TheVariants.{Null}
use Rattle.model_run.specs.declared.ending.Ending.TheVariants.{Normal}
use Rattle.model_run.specs.Around.{value_at}
use Rattle.model_run.specs.Callables.{closure_of}
use Rattle.model_run.specs.Calls.{walk, walk_method, walks}
use Rattle.model_run.specs.Forms.{turn}
use Rattle.model_run.specs.Nesting.{shape_at}
use Rattle.value_walks.specs.Walking.{kept_between, walk_kept}
use Rattle.cps_code.specs.Script.{script_of}
use Rattle.cps_frames.specs.Standing.{common_of, standing, state, world_of}
use Rattle.cps_frames.proofs.MoveLaws.{comes_ended, to_as}
use Rattle.cps_calls.proofs.WalkLaws.{all_below, between_below, closure_of_body, method_turn, there_below, turn_fits, walk_keeps, walk_without}
use Rattle.cps_calls.proofs.walks.walk_turn.Goals as goal

pub begin_turn-requires : goal.begin_turn-requires
begin_turn-requires c =
    let u = common_of c.args.shared.now in
    let h = c.args.shared.now.heap.cells in
    let m = walk_method (shape_at (script_of c.args.shared.now.code) c.args.node).form in
    let fits = turn_fits (shape_at (script_of c.args.shared.now.code) c.args.node).form u c.args.kept c.requires.form c.requires.may.entry.2 in
    record {
      stands = record {
        node = c.requires.may.node;
        method = c.in-Some.ensures.method;
        on = subst (ValueBelow (length h)) (sym c.value_at-on.ensures) (there_below h (value_at 0 c.args.kept) fits.0);
        closure = closure_of_body (world_of c.args.shared.now c.args.state.now) c.value_at-closure.result _ (sym (c.in_ok-closure_of-in-Some.ensures c.args.state.now) ∙ c.in-Some-2.is);
        kept = subst (All (ValueBelow (length h))) (sym (c.in-Some.ensures.kept ∙ ap (kept_between m) c.behind.ensures)) (between_below h m (drop 2 c.args.kept) (all_below h (drop 2 c.args.kept) fits.2));
        cells = c.requires.may.sound.cells;
      };
    }

pub returns-in-None-2 : goal.returns-in-None-2
returns-in-None-2 c = λ r above.
    let sh = shape_at (script_of c.args.shared.now.code) c.args.node in
    let w = world_of c.args.shared.now c.args.state.now in
    let m = walk_method sh.form in
    let is : walks m ≡ true = sym c.in-Some.ensures.walks in
    let none : closure_of w (value_at 1 c.args.kept) ≡ None = ap (closure_of w) (sym c.value_at-closure.ensures) ∙ sym (c.in_ok-closure_of-in-Some.ensures c.args.state.now) ∙ c.in-None-2.is in
    comes_ended c.args.node r (λ sh a. turn a c.args.node sh c.args.env c.args.at c.args.kept sh.form) (standing c.args.shared.now c.args.state.now) (Normal Null) above
    (λ a rs. method_turn sh.form a c.args.node sh c.args.env c.args.at c.args.kept (state w rs) c.requires.form is
    ∙ walk_without a c.args.node c.args.env m c.args.at (value_at 0 c.args.kept) (value_at 1 c.args.kept) (drop 2 c.args.kept) w rs none)

pub returns-in-Some-2 : goal.returns-in-Some-2
returns-in-Some-2 c = λ r above.
    let sh = shape_at (script_of c.args.shared.now.code) c.args.node in
    let w = world_of c.args.shared.now c.args.state.now in
    let m = walk_method sh.form in
    let kept = drop 2 c.args.kept in
    let is : walks m ≡ true = sym c.in-Some.ensures.walks in
    let same : walk_kept c.in-Some.walk ≡ kept_between m kept = c.in-Some.ensures.kept ∙ ap (kept_between m) c.behind.ensures in
    to_as c.args.node r (λ sh a. turn a c.args.node sh c.args.env c.args.at c.args.kept sh.form) (λ sh a. walk a c.args.node c.args.env (walk_method sh.form) c.args.at c.value_at-on.result c.value_at-closure.result (walk_kept c.in-Some.walk)) (standing c.args.shared.now c.args.state.now) _ _
    (λ a rs. method_turn sh.form a c.args.node sh c.args.env c.args.at c.args.kept (state w rs) c.requires.form is
    ∙ walk_keeps a c.args.node c.args.env m c.args.at (value_at 0 c.args.kept) (value_at 1 c.args.kept) kept (state w rs) is
    ∙ ap (λ vs. walk a c.args.node c.args.env m c.args.at (value_at 0 c.args.kept) (value_at 1 c.args.kept) vs (state w rs)) (sym same)
    ∙ ap (λ x. walk a c.args.node c.args.env m c.args.at x (value_at 1 c.args.kept) (walk_kept c.in-Some.walk) (state w rs)) (sym c.value_at-on.ensures)
    ∙ ap (λ x. walk a c.args.node c.args.env m c.args.at c.value_at-on.result x (walk_kept c.in-Some.walk) (state w rs)) (sym c.value_at-closure.ensures))
    (c.begin_turn.ensures r above)
