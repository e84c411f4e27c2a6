use Rattle.std.proofs.Common.{◌≡◌, length, sym, ap₂, ◌∙◌, arith}
use Rattle.std.specs.Prelude.{ℤ}
use Rattle.std.proofs.lemmas.Int.{ints}
use mir.Syntax.{w32}
use mir.Val.{to_z, of_z}
use Rattle.model_values.specs.Characters.{characters}
use Rattle.model_values.specs.Limits.{product_limits}
use Rattle.model_values.specs.TextMethods.{substring, with_number}
use Rattle.value_view.specs.Seen.{seen}
use Rattle.text_methods.proofs.MethodLemmas.{number_is, reads_same}
use Rattle.text_methods.proofs.texts.substring_between.Goals as goal

pub returns-in-Number-Number : goal.returns-in-Number-Number
returns-in-Number-Number c =
    let text = c.args.text.now in let n = length (characters text) in
    let from = c.in-Number-Number.from in let to = c.in-Number-Number.to in
    let left : to_z w32 (of_z w32 from) ≡ from = omega (arith, ints) in
    let right : to_z w32 (of_z w32 to) ≡ to = omega (arith, ints) in
    reads_same (λ h. substring product_limits h text n (to_z w32 (of_z w32 from)) (to_z w32 (of_z w32 to))) _ c.substring.result
    (λ h. ap₂ (λ (x y : ℤ). substring product_limits h text n x y) left right ∙ sym (number_is h c.args.from.now from (λ i. with_number product_limits h (seen c.args.to.now) (λ j. substring product_limits h text n i j)) c.in-Number-Number.is-0 ∙ number_is h c.args.to.now to (λ j. substring product_limits h text n from j) c.in-Number-Number.is-1))
    c.substring.ensures
