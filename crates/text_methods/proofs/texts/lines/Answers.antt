use Rattle.std.proofs.Common.{◌∙◌, ◌∷◌, [], ℕ, List, true, subst}
use Rattle.model_values.specs.TextMethods.{lines}
use Rattle.text_methods.specs.Parts.{cut, kept}
use Rattle.text_methods.specs.Reads.{IsListOf}
use Rattle.text_methods.proofs.texts.lines.Goals as goal

pub returns : goal.returns
returns c =
    c.list_of.ensures (lines c.args.text.now)
    (subst (λ (p : List ℕ). IsListOf (kept true (cut (10 ∷ []) p)) c.in_ok-parts_of.field-0) (c.as_slice.ensures.value ∙ c.in_ok-plain.ensures) c.in_ok-parts_of.ensures)
