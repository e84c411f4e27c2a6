use Rattle.std.proofs.lemmas.Result.{err_from_is_err_and}
use Rattle.model_values.specs.Cells.{new_list}
use Rattle.model_run.specs.Around.{cells, ended, limits}
use Rattle.model_run.specs.State.{counted, may_count, operating}
use Rattle.cps_frames.specs.Standing.{standing}
use Rattle.cps_frames.proofs.MoveLaws.{comes_met}
use Rattle.cps_values.proofs.HeapLaws.{all_passed, heap_ends, heap_stops}
use Rattle.cps_values.proofs.built.list.Goals as goal

pub returns-in_err-tick : goal.returns-in_err-tick
returns-in_err-tick c = λ k r pos.
    let p = err_from_is_err_and c.from_residual.result c.from_residual.ensures.1 in
    rw (p.1, p.2) (comes_met k r may_count counted (λ sh a. operating (λ w. new_list (limits w) (cells w) c.args.values) ended) _ _ _ (c.in_err-tick.ensures c.args.state.now) pos)

pub perform-requires : goal.perform-requires
perform-requires c = all_passed (standing c.args.shared.now c.args.state.now) (standing c.tick.new.shared c.args.state.now) c.args.values (c.in_ok-tick.ensures c.args.state.now) c.requires

pub returns-in_err-list : goal.returns-in_err-list
returns-in_err-list c = λ k r pos.
    let p = err_from_is_err_and c.from_residual-in_err-list.result c.from_residual-in_err-list.ensures.1 in
    rw (p.1, p.2) (heap_stops k r (λ w. new_list (limits w) (cells w) c.args.values) _ c.tick.new.shared c.args.state.now c.perform.new.heap c.in_err-list.field-0.0 (c.in_ok-tick.ensures c.args.state.now) c.perform.ensures.leaves.follows c.in_err-list.ensures.answer pos)

pub returns : goal.returns
returns c = λ k r pos.
    heap_ends k r (λ w. new_list (limits w) (cells w) c.args.values) _ c.tick.new.shared c.args.state.now c.perform.new.heap c.in_ok-list.list (c.in_ok-tick.ensures c.args.state.now) c.perform.ensures.leaves.follows c.in_ok-list.ensures.answer pos
