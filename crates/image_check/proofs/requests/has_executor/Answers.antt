use Rattle.std.proofs.Common.{◌∙◌, ap, sym}
use Rattle.std.specs.Prelude.{slice_get}
use Rattle.std.specs.Option.{option_copied}
use Rattle.image_check.proofs.Numbers.{any_found, found_at}
use Rattle.image_check.proofs.requests.has_executor.Goals as goal

pub returns-then-has_number : goal.returns-then-has_number
returns-then-has_number c =
    c.if-has_number.true
    ∙ sym (found_at c.args.number c.args.number c.args.site.now.executors (option_copied c.executor_at.result) (sym (c.executor_at.ensures ∙ ap (λ xs. slice_get xs c.args.number) c.as_slice-executors.ensures)) (sym c.has_number.ensures ∙ c.if-has_number.true))

pub returns-else-has_number : goal.returns-else-has_number
returns-else-has_number c = cc (c.is_among.ensures, c.as_slice-executors.ensures, any_found c.args.number c.args.site.now.executors)
