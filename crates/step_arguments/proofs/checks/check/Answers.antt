use Rattle.std.proofs.Common.{◌∙◌}
use Rattle.std.proofs.lemmas.Result.{err_from_is_err_and}
use Rattle.step_arguments.specs.Binding.{seen_with}
use Rattle.step_arguments.proofs.Faults.{checks_on, tells_on}
use Rattle.step_arguments.proofs.checks.check.Goals as goal

pub returns-in_err-check_names-clause-checked : goal.returns-in_err-check_names-clause-checked
returns-in_err-check_names-clause-checked c = λ w.
    let p = err_from_is_err_and c.from_residual.result c.from_residual.ensures.1 in
    rw (p.1, p.2) (c.in_err-check_names.ensures.checked (seen_with c.args.heap.now.cells w) c.args.body)

pub returns-in_err-check_values-clause-checked : goal.returns-in_err-check_values-clause-checked
returns-in_err-check_values-clause-checked c = λ w.
    let p = err_from_is_err_and c.from_residual-in_err-check_values.result c.from_residual-in_err-check_values.ensures.1 in
    rw (p.1, p.2) (tells_on _ _ _ (c.in_ok-check_names.ensures.checked (seen_with c.args.heap.now.cells w) c.args.body) (c.in_err-check_values.ensures.checked w c.args.body))

pub returns-in_err-check_returned-clause-checked : goal.returns-in_err-check_returned-clause-checked
returns-in_err-check_returned-clause-checked c = λ w.
    let p = err_from_is_err_and c.from_residual-in_err-check_returned.result c.from_residual-in_err-check_returned.ensures.1 in
    rw (p.1, p.2) (tells_on _ _ _ ((c.in_ok-check_names.ensures.checked (seen_with c.args.heap.now.cells w) c.args.body) ∙ (c.in_ok-check_values.ensures.checked w c.args.body)) (c.in_err-check_returned.ensures (seen_with c.args.heap.now.cells w) c.args.body))

pub returns-in_err-check_main-clause-checked : goal.returns-in_err-check_main-clause-checked
returns-in_err-check_main-clause-checked c = λ w.
    let p = err_from_is_err_and c.from_residual-in_err-check_main.result c.from_residual-in_err-check_main.ensures.1 in
    rw (p.1, p.2) (tells_on _ _ _ ((c.in_ok-check_names.ensures.checked (seen_with c.args.heap.now.cells w) c.args.body) ∙ (c.in_ok-check_values.ensures.checked w c.args.body) ∙ (c.in_ok-check_returned.ensures (seen_with c.args.heap.now.cells w) c.args.body)) (c.in_err-check_main.ensures.checked (seen_with c.args.heap.now.cells w) c.args.body))

pub returns-in_err-check_body-clause-checked : goal.returns-in_err-check_body-clause-checked
returns-in_err-check_body-clause-checked c = λ w.
    let p = err_from_is_err_and c.from_residual-in_err-check_body.result c.from_residual-in_err-check_body.ensures.1 in
    rw (p.1, p.2) (tells_on _ _ _ ((c.in_ok-check_names.ensures.checked (seen_with c.args.heap.now.cells w) c.args.body) ∙ (c.in_ok-check_values.ensures.checked w c.args.body) ∙ (c.in_ok-check_returned.ensures (seen_with c.args.heap.now.cells w) c.args.body) ∙ (c.in_ok-check_main.ensures.checked (seen_with c.args.heap.now.cells w) c.args.body)) (c.in_err-check_body.ensures.checked (seen_with c.args.heap.now.cells w) c.args.arguments.now))

pub returns-clause-checked : goal.returns-clause-checked
returns-clause-checked c = λ w. checks_on _ _ _ _ ((c.in_ok-check_names.ensures.checked (seen_with c.args.heap.now.cells w) c.args.body) ∙ (c.in_ok-check_values.ensures.checked w c.args.body) ∙ (c.in_ok-check_returned.ensures (seen_with c.args.heap.now.cells w) c.args.body) ∙ (c.in_ok-check_main.ensures.checked (seen_with c.args.heap.now.cells w) c.args.body) ∙ (c.in_ok-check_body.ensures.checked (seen_with c.args.heap.now.cells w) c.args.arguments.now)) (c.check_label.ensures w c.args.body)
