use Rattle.std.proofs.Common.{◌≡◌, ◌∙◌, ap, sym, subst, ℕ, List, Option, Some, None}
use Rattle.std.specs.Prelude.{IfOk, IfErr}
use Rattle.std.specs.Option.{option_copied}
use Rattle.label_expr.specs.Conditions.{IsLabel}
use Rattle.label_expr.specs.Readings.{IsFault}
use Rattle.model_run.specs.Labels.{label_fault}
use Rattle.label_expr.proofs.label.read_label.Goals as goal

pub returns-in-Some-clause-fits : goal.returns-in-Some-clause-fits
returns-in-Some-clause-fits c =
    subst (λ (label : Option (List ℕ)). IfOk c.read_text.result (IsLabel label)) (ap Some c.as_slice.ensures ∙ ap option_copied (sym c.in-Some.is)) c.read_text.ensures.fits

pub returns-in-Some-clause-faultless : goal.returns-in-Some-clause-faultless
returns-in-Some-clause-faultless c =
    subst (λ (label : Option (List ℕ)). IfOk c.read_text.result (λ _. label_fault label ≡ None)) (ap Some c.as_slice.ensures ∙ ap option_copied (sym c.in-Some.is)) c.read_text.ensures.faultless

pub returns-in-Some-clause-refused : goal.returns-in-Some-clause-refused
returns-in-Some-clause-refused c =
    subst (λ (label : Option (List ℕ)). IfErr c.read_text.result (IsFault (label_fault label))) (ap Some c.as_slice.ensures ∙ ap option_copied (sym c.in-Some.is)) c.read_text.ensures.refused
