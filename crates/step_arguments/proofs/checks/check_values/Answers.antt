use Rattle.std.proofs.Common.{◌∙◌, ◌+◌, List, ℕ, ap, drop, sym}
use Rattle.std.proofs.lemmas.Result.{err_from_is_err_and}
use Rattle.model_run.specs.StepTable.{all_fit, and_fits, bind_fit, fit_given, parameters, sort_of}
use Rattle.step_arguments.specs.Binding.{seen_with}
use Rattle.step_arguments.proofs.Faults.{tells_on}
use Rattle.step_arguments.proofs.Rests.{next_item}
use Rattle.step_arguments.proofs.checks.check_values.Goals as goal

pub returns-in_err-check_argument-clause-checked : goal.returns-in_err-check_argument-clause-checked
returns-in_err-check_argument-clause-checked c = λ w body.
    let u = seen_with c.args.heap.now.cells w in
    let ps = parameters c.args.step in
    let args = c.args.arguments.now in
    let g = c.loop-name-item.result in
    let rest = all_fit u ps (drop (c.loop-name.name-index + 1) args) in
    let named = ap (λ (n : List ℕ). and_fits n (fit_given u (sort_of n ps) g.1) rest) (sym c.as_slice.ensures) in
    let on = ap (bind_fit u c.args.step args body) (sym (c.loop-name.invariant.fits w) ∙ next_item (all_fit u ps) args c.loop-name.name-index g c.loop-name-test.true c.loop-name-item.is ∙ named) in
    let p = err_from_is_err_and c.from_residual.result c.from_residual.ensures.1 in
    rw (p.1, p.2) (tells_on _ _ _ on (c.in_err-check_argument.ensures.refused w args body rest))
