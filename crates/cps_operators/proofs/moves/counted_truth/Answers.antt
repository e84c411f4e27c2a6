use Rattle.std.proofs.Common.{◌∙◌, ap, sym}
use Rattle.std.proofs.lemmas.Result.{err_from_is_err_and}
use Rattle.model_values.specs.Truth.{truth}
use Rattle.cps_operators.proofs.moves.counted_truth.Goals as goal

pub returns-in_err-tick-clause-passes : goal.returns-in_err-tick-clause-passes
returns-in_err-tick-clause-passes c =
    let p = err_from_is_err_and c.from_residual.result c.from_residual.ensures.1 in
    rw (p.1, p.2) (c.in_err-tick.ensures c.args.state.now)

pub returns-clause-truth : goal.returns-clause-truth
returns-clause-truth c = c.truth-holds.ensures ∙ ap (λ w. truth w.shared.cells c.args.value.now) (sym (c.in_ok-tick.ensures c.args.state.now).made)
