use Rattle.std.proofs.Common.{◌∙◌, ap, sym}
use Rattle.std.proofs.lemmas.Result.{err_from_is_err_and}
use Rattle.cps_assignments.specs.Targets.{is_name}
use Rattle.cps_assignments.proofs.TargetLaws.{name_counted, suffix_met, suffix_passed, target_part}
use Rattle.cps_assignments.proofs.targets.count_suffix.Goals as goal

pub part_form-requires-clause-part : goal.part_form-requires-clause-part
part_form-requires-clause-part c = target_part _ _ c.requires

pub returns-then-is_name : goal.returns-then-is_name
returns-then-is_name c = λ t. name_counted _ _ (ap is_name (sym c.part_form.ensures) ∙ sym c.is_name.ensures ∙ c.if-is_name.true)

pub returns-in_err-tick : goal.returns-in_err-tick
returns-in_err-tick c = λ t.
    let p = err_from_is_err_and c.from_residual.result c.from_residual.ensures.1 in
    rw (p.1, p.2) (suffix_met _ c.in_err-tick.field-0.0 _ _ (ap is_name (sym c.part_form.ensures) ∙ sym c.is_name.ensures ∙ c.if-is_name.false) (c.in_err-tick.ensures t))

pub returns : goal.returns
returns c = λ t. suffix_passed _ _ _ (ap is_name (sym c.part_form.ensures) ∙ sym c.is_name.ensures ∙ c.if-is_name.false) (c.in_ok-tick.ensures t)
