use Rattle.std.proofs.Common.{◌≡◌, ◌⊎◌, ℕ, length, sym, ap₂, ◌∙◌, inl, inr, arith}
use Rattle.std.specs.Prelude.{ℤ, pos, ◌<ℤ◌, ◌≤ℤ◌}
use Rattle.std.proofs.lemmas.Int.{ints}
use mir.Syntax.{w32}
use mir.Val.{to_z, of_z}
use Rattle.model_values.specs.Characters.{characters}
use Rattle.model_values.specs.Limits.{product_limits}
use Rattle.model_values.specs.Throws.{outside}
use Rattle.text_methods.proofs.MethodLemmas.{reads_same}
use Rattle.text_methods.proofs.NumberLemmas.{first_outside, range_is, second_outside}
use Rattle.text_methods.proofs.PartLemmas.{length_characters}
use Rattle.text_methods.proofs.texts.substring.Goals as goal
use Rattle.text_methods.proofs.texts.substring.Goals.{then-from-lt0-via-then-from-lt0, then-from-lt0-via-else-from-lt0+then-from-size, then-to-from-via-then-to-from, then-to-from-via-else-to-from+then-to-size}

pub returns-then-to-from : goal.returns-then-to-from
returns-then-to-from c =
    let text = c.args.text.now in let n = length (characters text) in
    let small = length_characters text in
    let count = c.character_count-count.ensures in
    let out : (c.args.to <ℤ c.args.from) ⊎ (pos n <ℤ c.args.to) = elim c.then-to-from.branch [
      | then-to-from-via-then-to-from w ↦ inl (omega (arith, ints))
      | then-to-from-via-else-to-from+then-to-size w ↦ inr (omega (arith, ints, count))
    ] in
    let low : pos 0 ≤ℤ c.args.from = omega (arith, ints) in
    let high : c.args.from ≤ℤ pos n = omega (arith, ints, count) in
    let same : to_z w32 (of_z w32 c.args.to) ≡ c.args.to = omega (arith, ints) in
    (λ h. c.in_ok-outside-2.ensures.answer h ∙ ap₂ (λ (z : ℤ) (k : ℕ). outside product_limits h z k) same count ∙ sym (second_outside h text n c.args.from c.args.to low high out), c.in_ok-outside-2.ensures.below)

pub returns-then-from-lt0 : goal.returns-then-from-lt0
returns-then-from-lt0 c =
    let text = c.args.text.now in let n = length (characters text) in
    let small = length_characters text in
    let count = c.character_count-count.ensures in
    let out : (c.args.from <ℤ pos 0) ⊎ (pos n <ℤ c.args.from) = elim c.then-from-lt0.branch [
      | then-from-lt0-via-then-from-lt0 w ↦ inl (omega (arith, ints))
      | then-from-lt0-via-else-from-lt0+then-from-size w ↦ inr (omega (arith, ints, count))
    ] in
    let same : to_z w32 (of_z w32 c.args.from) ≡ c.args.from = omega (arith, ints) in
    (λ h. c.in_ok-outside.ensures.answer h ∙ ap₂ (λ (z : ℤ) (k : ℕ). outside product_limits h z k) same count ∙ sym (first_outside h text n c.args.from c.args.to out), c.in_ok-outside.ensures.below)

pub returns : goal.returns
returns c =
    let text = c.args.text.now in let n = length (characters text) in
    let small = length_characters text in
    let count = c.character_count-count.ensures in
    reads_same _ _ c.new_text.result
    (λ h. range_is h text n c.args.from c.args.to _ _ c.character_range.result.now c.character_range.ensures (omega (arith, ints)) (omega (arith, ints)) (omega (arith, ints)) (omega (arith, ints, count)))
    c.new_text.ensures
