use Rattle.std.proofs.Common.{◌∙◌, ◌<◌, ◌≤◌, [], length, refl, ap, sym, subst}
use Rattle.std.specs.Prelude.{Ok, Err}
use Rattle.std.proofs.lemmas.Result.{err_from_is_err_and}
use Rattle.model_values.specs.Cells.{Answer}
use Rattle.model_values.specs.TextOf.{written}
use Rattle.model_run.specs.declared.ending.Ending.TheVariants.{Normal}
use Rattle.model_run.specs.Around.{cells, ended, limits}
use Rattle.model_run.specs.Gathering.{text_from, text_parts}
use Rattle.model_run.specs.Nesting.{shape_at}
use Rattle.model_run.specs.State.{World, counted, may_count, operating, tick}
use Rattle.model_run.specs.Terms.{nodes_of}
use Rattle.cps_code.specs.Script.{script_of}
use Rattle.value_view.specs.Answers.{Answers}
use Rattle.cps_frames.specs.Halts.{halt_of}
use Rattle.cps_frames.specs.Standing.{standing, world_of}
use Rattle.cps_frames.specs.declared.thread.Move.TheVariants.{Ends}
use Rattle.cps_frames.proofs.MoveLaws.{comes_met, to_as}
use Rattle.cps_operators.proofs.FrameLaws.{script_passed}
use Rattle.cps_operators.proofs.YieldLaws.{counted_stops}
use Rattle.cps_values.specs.Values.{values_given}
use Rattle.cps_values.proofs.HeapLaws.{all_passed, heap_ends, heap_stops, text_stops}
use Rattle.cps_values.proofs.built.text.Goals as goal

pub returns-in_err-tick : goal.returns-in_err-tick
returns-in_err-tick c = λ r pos.
    let p = err_from_is_err_and c.from_residual.result c.from_residual.ensures.1 in
    rw (p.1, p.2) (comes_met c.args.node r may_count counted (λ sh a. operating (λ w. written (limits w) (cells w) (text_parts w sh.parts c.args.values.now [])) ended) _ _ _ (c.in_err-tick.ensures c.args.state.now) pos)

pub written-requires-clause-node : goal.written-requires-clause-node
written-requires-clause-node c = subst (λ s. c.args.node < length (nodes_of s)) (sym (script_passed (standing c.args.shared.now c.args.state.now) (standing c.tick.new.shared c.args.state.now) (c.in_ok-tick.ensures c.args.state.now))) c.requires.node

pub written-requires-clause-below : goal.written-requires-clause-below
written-requires-clause-below c = all_passed (standing c.args.shared.now c.args.state.now) (standing c.tick.new.shared c.args.state.now) c.args.values.now (c.in_ok-tick.ensures c.args.state.now) c.requires.below

pub written-requires-clause-count : goal.written-requires-clause-count
written-requires-clause-count c = subst (λ s. values_given (shape_at s c.args.node).parts ≤ length c.args.values.now) (sym (script_passed (standing c.args.shared.now c.args.state.now) (standing c.tick.new.shared c.args.state.now) (c.in_ok-tick.ensures c.args.state.now))) c.requires.count

pub returns-in_err-text : goal.returns-in_err-text
returns-in_err-text c = λ r pos.
    let k = c.args.node in
    let t = c.args.state.now in
    let vs = c.args.values.now in
    let u = standing c.args.shared.now t in
    let v = standing c.tick.new.shared t in
    let fs = (shape_at (script_of c.args.shared.now.code) k).parts in
    let f = λ (w : World). written (limits w) (cells w) (text_parts w fs vs []) in
    let o = c.in_err-text.field-0.0 in
    let e = ap (λ s. written (limits v.world) (cells v.world) (text_parts v.world (shape_at s k).parts vs [])) (script_passed u v (c.in_ok-tick.ensures t)) in
    let p = err_from_is_err_and c.from_residual-in_err-text.result c.from_residual-in_err-text.ensures.1 in
    rw (p.1, p.2) (to_as k r (λ sh a. text_from sh vs) (λ sh a. tick (operating f ended)) u (Err (halt_of o)) v (λ a rs. refl)
    (counted_stops k r (operating f) (halt_of o) u v v (c.in_ok-tick.ensures t) (text_stops f (limits v.world) (cells v.world) (text_parts v.world (shape_at (script_of c.tick.new.shared.code) k).parts vs []) v o (sym e) (c.in_err-text.ensures t)) pos))

pub returns-in_err-text-2 : goal.returns-in_err-text-2
returns-in_err-text-2 c = λ r pos.
    let k = c.args.node in
    let t = c.args.state.now in
    let vs = c.args.values.now in
    let u = standing c.args.shared.now t in
    let v = world_of c.tick.new.shared t in
    let fs = (shape_at (script_of c.args.shared.now.code) k).parts in
    let f = λ (w : World). written (limits w) (cells w) (text_parts w fs vs []) in
    let o = c.in_err-text-2.field-0.0 in
    let e = ap (written (limits v) (cells v)) (sym (c.in_ok-text.ensures t)) ∙ ap (λ s. written (limits v) (cells v) (text_parts v (shape_at s k).parts vs [])) (script_passed u (standing c.tick.new.shared t) (c.in_ok-tick.ensures t)) in
    let p = err_from_is_err_and c.from_residual-in_err-text-2.result c.from_residual-in_err-text-2.ensures.1 in
    rw (p.1, p.2) (to_as k r (λ sh a. text_from sh vs) (λ sh a. tick (operating f ended)) u (Err (halt_of o)) (standing (record c.tick.new.shared { heap = c.perform.new.heap }) t) (λ a rs. refl)
    (heap_stops k r f u c.tick.new.shared t c.perform.new.heap o (c.in_ok-tick.ensures t) c.perform.ensures.leaves.follows (subst (λ (x : Answer). Answers x c.tick.new.shared.heap c.perform.new.heap (Err o)) e c.in_err-text-2.ensures.answer) pos))

pub returns : goal.returns
returns c = λ r pos.
    let k = c.args.node in
    let t = c.args.state.now in
    let vs = c.args.values.now in
    let u = standing c.args.shared.now t in
    let v = world_of c.tick.new.shared t in
    let fs = (shape_at (script_of c.args.shared.now.code) k).parts in
    let f = λ (w : World). written (limits w) (cells w) (text_parts w fs vs []) in
    let e = ap (written (limits v) (cells v)) (sym (c.in_ok-text.ensures t)) ∙ ap (λ s. written (limits v) (cells v) (text_parts v (shape_at s k).parts vs [])) (script_passed u (standing c.tick.new.shared t) (c.in_ok-tick.ensures t)) in
    to_as k r (λ sh a. text_from sh vs) (λ sh a. tick (operating f ended)) u (Ok (Ends (Normal c.in_ok-text-2.text))) (standing (record c.tick.new.shared { heap = c.perform.new.heap }) t) (λ a rs. refl)
    (heap_ends k r f u c.tick.new.shared t c.perform.new.heap c.in_ok-text-2.text (c.in_ok-tick.ensures t) c.perform.ensures.leaves.follows (sym e ∙ c.in_ok-text-2.ensures.answer) pos)
