use Rattle.std.proofs.Common.{length, ◌≡◌, sym, ap₂, ◌∙◌, arith}
use Rattle.std.specs.Prelude.{ℤ}
use Rattle.std.proofs.lemmas.Int.{ints}
use mir.Syntax.{w32}
use mir.Val.{to_z, of_z}
use Rattle.model_values.specs.Characters.{characters}
use Rattle.model_values.specs.Limits.{product_limits}
use Rattle.model_values.specs.TextMethods.{substring}
use Rattle.text_methods.proofs.MethodLemmas.{number_is, reads_same}
use Rattle.text_methods.proofs.texts.substring_from.Goals as goal

pub returns-in-Number : goal.returns-in-Number
returns-in-Number c =
    let text = c.args.text.now in let n = length (characters text) in
    let from : to_z w32 (of_z w32 c.in-Number.from) ≡ c.in-Number.from = omega (arith, ints) in
    let to : to_z w32 (of_z w32 c.size.result) ≡ c.size.result = omega (arith, ints) in
    reads_same (λ h. substring product_limits h text n (to_z w32 (of_z w32 c.in-Number.from)) (to_z w32 (of_z w32 c.size.result))) _ c.substring.result
    (λ h. ap₂ (λ (x z : ℤ). substring product_limits h text n x z) from (to ∙ c.size.ensures) ∙ sym (number_is h c.args.from.now c.in-Number.from _ c.in-Number.is))
    c.substring.ensures
