use Rattle.std.proofs.Common.{◌∙◌, sym, subst}
use Rattle.std.specs.Prelude.{slice_get, Ok, Err}
use Rattle.std.proofs.lemmas.Result.{err_from_is_err_and}
use Rattle.value_view.specs.Answers.{Answers}
use Rattle.model_values.specs.Limits.{product_limits}
use Rattle.model_values.specs.Throws.{new_throwable}
use Rattle.model_run.specs.Around.{cells, ended, limits}
use Rattle.model_run.specs.Gathering.{new_class}
use Rattle.model_run.specs.State.{counted, may_count, operating}
use Rattle.cps_frames.specs.Standing.{standing}
use Rattle.cps_frames.proofs.MoveLaws.{comes_met}
use Rattle.cps_values.proofs.HeapLaws.{all_passed, heap_ends, heap_stops}
use Rattle.cps_values.proofs.ListLaws.{one_below}
use Rattle.cps_values.proofs.built.throwable.Goals as goal

pub returns-in_err-tick : goal.returns-in_err-tick
returns-in_err-tick c = λ k r pos.
    let p = err_from_is_err_and c.from_residual.result c.from_residual.ensures.1 in
    rw (p.1, p.2) (comes_met k r may_count counted (λ sh a. operating (λ w. new_throwable (limits w) (cells w) (new_class c.args.class) (slice_get c.args.values.now 0)) ended) _ _ _ (c.in_err-tick.ensures c.args.state.now) pos)

pub new_throwable-requires : goal.new_throwable-requires
new_throwable-requires c = λ x e. one_below _ c.args.values.now 0 x (all_passed (standing c.args.shared.now c.args.state.now) (standing c.tick.new.shared c.args.state.now) c.args.values.now (c.in_ok-tick.ensures c.args.state.now) c.requires) (sym c.get.ensures.value ∙ sym c.copied-message.ensures ∙ e)

pub returns-in_err-throwable : goal.returns-in_err-throwable
returns-in_err-throwable c = λ k r pos.
    let p = err_from_is_err_and c.from_residual-in_err-throwable.result c.from_residual-in_err-throwable.ensures.1 in
    let cs = c.tick.new.shared.heap.cells in
    let h = subst (λ m. Answers (new_throwable product_limits cs (new_class c.args.class) m) c.tick.new.shared.heap c.new_throwable.new.heap (Err c.in_err-throwable.field-0.0)) (c.copied-message.ensures ∙ c.get.ensures.value)
    (subst (λ d. Answers (new_throwable product_limits cs d c.copied-message.result) c.tick.new.shared.heap c.new_throwable.new.heap (Err c.in_err-throwable.field-0.0)) c.class_of.ensures c.in_err-throwable.ensures.answer) in
    rw (p.1, p.2) (heap_stops k r (λ w. new_throwable (limits w) (cells w) (new_class c.args.class) (slice_get c.args.values.now 0)) _ c.tick.new.shared c.args.state.now c.new_throwable.new.heap c.in_err-throwable.field-0.0 (c.in_ok-tick.ensures c.args.state.now) c.new_throwable.ensures.leaves.follows h pos)

pub returns : goal.returns
returns c = λ k r pos.
    let cs = c.tick.new.shared.heap.cells in
    let h = subst (λ m. Answers (new_throwable product_limits cs (new_class c.args.class) m) c.tick.new.shared.heap c.new_throwable.new.heap (Ok c.in_ok-throwable.throwable)) (c.copied-message.ensures ∙ c.get.ensures.value)
    (subst (λ d. Answers (new_throwable product_limits cs d c.copied-message.result) c.tick.new.shared.heap c.new_throwable.new.heap (Ok c.in_ok-throwable.throwable)) c.class_of.ensures c.in_ok-throwable.ensures.answer) in
    heap_ends k r (λ w. new_throwable (limits w) (cells w) (new_class c.args.class) (slice_get c.args.values.now 0)) _ c.tick.new.shared c.args.state.now c.new_throwable.new.heap c.in_ok-throwable.throwable (c.in_ok-tick.ensures c.args.state.now) c.new_throwable.ensures.leaves.follows h pos
