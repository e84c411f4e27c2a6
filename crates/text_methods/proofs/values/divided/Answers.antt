use Rattle.std.proofs.Common.{◌≡◌, Bool, cond, sym, ap, ap₂, subst, ◌∙◌, arith}
use Rattle.std.specs.Prelude.{ℤ, pos, int_div, if◌then◌else◌}
use Rattle.std.specs.Int.{int_wrapping_div}
use Rattle.std.specs.Ordering.{int_eq}
use Rattle.std.proofs.lemmas.Int.{ints}
use mir.Syntax.{w32}
use mir.Val.{to_z, of_z}
use Rattle.model_values.specs.Cells.{Gives}
use Rattle.model_values.specs.Limits.{product_limits}
use Rattle.model_values.specs.Operators.{wrapped}
use Rattle.model_values.specs.Throws.{by_zero}
use Rattle.model_values.specs.declared.value.Value.TheVariants.{Int as Whole}
use Rattle.value_ops.specs.Effects.{EffectBelow, effect_answer}
use Rattle.value_ops.specs.declared.effect.Effect.{Effect}
use Rattle.text_methods.proofs.MethodLemmas.{number_is}
use Rattle.text_methods.proofs.NumberLemmas.{no_zero, quotient_is}
use Rattle.text_methods.proofs.values.divided.Goals as goal

pub returns-else-by-eq0 : goal.returns-else-by-eq0
returns-else-by-eq0 c =
    let x = c.args.number in let y = c.in-Number.by in
    let zero : y ≡ pos 0 → ⊥ = λ e. c.if-by-eq0.false (ap (λ (z : ℤ). of_z w32 z) e) in
    let some = no_zero y zero in
    let left : to_z w32 (of_z w32 x) ≡ x = omega (arith, ints) in
    let right : to_z w32 (of_z w32 y) ≡ y = omega (arith, ints) in
    let quotient : c.wrapping_div.result ≡ int_wrapping_div w32 x y = c.wrapping_div.ensures ∙ ap₂ (λ (a b : ℤ). int_wrapping_div w32 a b) left right in
    let again : to_z w32 (of_z w32 c.wrapping_div.result) ≡ c.wrapping_div.result = omega (arith, ints) in (
      λ h. ap (λ (e : Effect). effect_answer product_limits h e) c.whole.ensures
          ∙ ap (λ (z : ℤ). Gives h (Whole z)) (again ∙ quotient ∙ quotient_is x y c.ranges.number zero)
          ∙ sym (number_is h c.args.by.now y (λ z. if int_eq z (pos 0) then by_zero product_limits h else wrapped product_limits h (int_div x z)) c.in-Number.is ∙ ap (λ (t : Bool). cond t (by_zero product_limits h) (wrapped product_limits h (int_div x y))) some),
      λ n. subst (λ (e : Effect). EffectBelow n e) (sym c.whole.ensures) tt,
    )
