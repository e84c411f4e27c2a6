use Rattle.std.proofs.Common.{◌∙◌, ◌+◌, drop, subst, sym}
use Rattle.std.specs.Prelude.{Err}
use Rattle.std.proofs.lemmas.Result.{err_from_is_err_and}
use Rattle.model_run.specs.StepTable.{branch_fit}
use Rattle.step_arguments.specs.Binding.{FitsAs}
use Rattle.step_arguments.proofs.Rests.{bad_entry, good_entry, next_found}
use Rattle.step_arguments.proofs.fits.check_entries.Goals as goal

pub returns-in_err-check_branch : goal.returns-in_err-check_branch
returns-in_err-check_branch c =
    let h = c.args.heap.now.cells in
    let rest = drop (c.loop-at.at + 1) c.args.entries.now in
    let p = err_from_is_err_and c.from_residual.result c.from_residual.ensures.1 in
    let on = sym (next_found (branch_fit h) c.args.entries.now c.loop-at.at (c.in-Some.key.now, c.in-Some.value.now) c.in-Some.ensures) ∙ c.loop-at.invariant in
    rw (p.1, p.2) (subst (λ f. FitsAs f (Err c.in_err-check_branch.field-0.0)) on (bad_entry h (c.in-Some.key.now, c.in-Some.value.now) rest c.in_err-check_branch.field-0.0 c.in_err-check_branch.ensures))

pub loop-at-preserved : goal.loop-at-preserved
loop-at-preserved c =
    let h = c.args.heap.now.cells in
    let rest = drop (c.loop-at.at + 1) c.args.entries.now in
    sym (good_entry h (c.in-Some.key.now, c.in-Some.value.now) rest c.in_ok-check_branch.ensures) ∙ sym (next_found (branch_fit h) c.args.entries.now c.loop-at.at (c.in-Some.key.now, c.in-Some.value.now) c.in-Some.ensures) ∙ c.loop-at.invariant
