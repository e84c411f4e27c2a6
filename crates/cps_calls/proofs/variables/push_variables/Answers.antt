use Rattle.std.proofs.Common.{◌∙◌, get_or, sym}
use Rattle.model_values.specs.declared.value.Value.TheVariants.{Null}
use Rattle.std.proofs.lemmas.Result.{err_from_is_err_and}
use Rattle.value_ops.proofs.CellLemmas.{is_memory}
use Rattle.cps_calls.proofs.VariableLemmas.{one_more_fits}
use Rattle.cps_calls.proofs.variables.push_variables.Goals as goal

pub returns-in_err-new_cell-clause-memory : goal.returns-in_err-new_cell-clause-memory
returns-in_err-new_cell-clause-memory c =
    let p = err_from_is_err_and c.from_residual.result c.from_residual.ensures.1 in
    let fits = one_more_fits c.args.heap.now.cells c.loop-value.heap.cells c.args.values.now c.loop-value.value-index (get_or c.args.values.now c.loop-value.value-index Null) c.loop-value.invariant.cells c.loop-value-test.true c.requires.few c.requires.small in
    rw (p.1, p.2) (is_memory c.in_err-new_cell.field-0.0 (sym c.in_err-new_cell.ensures.refusal ∙ fits))
