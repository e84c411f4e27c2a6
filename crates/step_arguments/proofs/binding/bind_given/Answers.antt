use Rattle.std.proofs.lemmas.Result.{err_from_is_err_and}
use Rattle.step_arguments.proofs.binding.bind_given.Goals as goal

pub returns-in_err-check-clause-bound : goal.returns-in_err-check-clause-bound
returns-in_err-check-clause-bound c = λ w.
    let p = err_from_is_err_and c.from_residual.result c.from_residual.ensures.1 in
    rw (p.1, p.2) (rw c.deref.ensures.value at (c.in_err-check.ensures.checked w))
