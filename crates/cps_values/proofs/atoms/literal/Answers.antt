use Rattle.std.proofs.lemmas.Result.{err_from_is_err_and}
use Rattle.model_values.specs.Cells.{new_text}
use Rattle.model_run.specs.Around.{cells, ended, limits}
use Rattle.model_run.specs.State.{counted, may_count, operating}
use Rattle.cps_frames.proofs.MoveLaws.{comes_met}
use Rattle.cps_values.proofs.HeapLaws.{heap_ends, heap_stops}
use Rattle.cps_values.proofs.atoms.literal.Goals as goal

pub returns-in_err-tick : goal.returns-in_err-tick
returns-in_err-tick c = λ k r pos.
    let p = err_from_is_err_and c.from_residual.result c.from_residual.ensures.1 in
    rw (p.1, p.2) (comes_met k r may_count counted (λ sh a. operating (λ w. new_text (limits w) (cells w) c.args.text) ended) _ _ _ (c.in_err-tick.ensures c.args.state.now) pos)

pub returns-in_err-text : goal.returns-in_err-text
returns-in_err-text c = λ k r pos.
    let p = err_from_is_err_and c.from_residual-in_err-text.result c.from_residual-in_err-text.ensures.1 in
    rw (p.1, p.2) (heap_stops k r (λ w. new_text (limits w) (cells w) c.args.text) _ c.tick.new.shared c.args.state.now c.perform.new.heap c.in_err-text.field-0.0 (c.in_ok-tick.ensures c.args.state.now) c.perform.ensures.leaves.follows c.in_err-text.ensures.answer pos)

pub returns : goal.returns
returns c = λ k r pos.
    heap_ends k r (λ w. new_text (limits w) (cells w) c.args.text) _ c.tick.new.shared c.args.state.now c.perform.new.heap c.in_ok-text.text (c.in_ok-tick.ensures c.args.state.now) c.perform.ensures.leaves.follows c.in_ok-text.ensures.answer pos
