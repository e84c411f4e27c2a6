use Rattle.std.proofs.Common.{◌<◌, length, sym, subst}
use Rattle.std.specs.Prelude.{All}
use Rattle.std.proofs.lemmas.Result.{err_from_is_err_and}
use Rattle.model_values.specs.Cells.{new_cell}
use Rattle.model_values.specs.declared.cell.Cell.TheVariants.{Closure as ClosureCell}
use Rattle.model_run.specs.Around.{cells, ended, limits}
use Rattle.model_run.specs.State.{counted, may_count, operating}
use Rattle.cps_frames.proofs.MoveLaws.{comes_met}
use Rattle.cps_values.proofs.HeapLaws.{heap_ends, heap_stops}
use Rattle.cps_values.proofs.atoms.closure.Goals as goal

pub returns-in_err-tick : goal.returns-in_err-tick
returns-in_err-tick c = λ k r pos.
    let p = err_from_is_err_and c.from_residual.result c.from_residual.ensures.1 in
    rw (p.1, p.2) (comes_met k r may_count counted (λ sh a. operating (λ w. new_cell (limits w) (cells w) (ClosureCell c.args.node c.args.env)) ended) _ _ _ (c.in_err-tick.ensures c.args.state.now) pos)

pub new_closure-requires : goal.new_closure-requires
new_closure-requires c = subst (λ x. All (λ b. b.cell < length x.shared.cells) c.args.env) (sym (c.in_ok-tick.ensures c.args.state.now).made) c.requires

pub returns-in_err-closure : goal.returns-in_err-closure
returns-in_err-closure c = λ k r pos.
    let p = err_from_is_err_and c.from_residual-in_err-closure.result c.from_residual-in_err-closure.ensures.1 in
    rw (p.1, p.2) (heap_stops k r (λ w. new_cell (limits w) (cells w) (ClosureCell c.args.node c.args.env)) _ c.tick.new.shared c.args.state.now c.new_closure.new.heap c.in_err-closure.field-0.0 (c.in_ok-tick.ensures c.args.state.now) c.new_closure.ensures.follows c.in_err-closure.ensures.answer pos)

pub returns : goal.returns
returns c = λ k r pos.
    heap_ends k r (λ w. new_cell (limits w) (cells w) (ClosureCell c.args.node c.args.env)) _ c.tick.new.shared c.args.state.now c.new_closure.new.heap c.in_ok-closure.closure (c.in_ok-tick.ensures c.args.state.now) c.new_closure.ensures.follows c.in_ok-closure.ensures.answer pos
