use Rattle.std.proofs.Common.{◌≡◌, ◌<◌, ◌⊎◌, ℕ, length, sym, ap, ap₂, ◌∙◌, inl, inr, arith, slice_get}
use Rattle.std.specs.Prelude.{ℤ, pos, ◌<ℤ◌, ◌≤ℤ◌}
use Rattle.std.proofs.lemmas.Int.{ints}
use mir.Syntax.{w32}
use mir.Val.{to_z, of_z}
use Rattle.cell_heap.specs.Contents.{values_in}
use Rattle.list_methods.proofs.ListLemmas.{outside_list}
use Rattle.model_values.specs.Limits.{product_limits}
use Rattle.model_values.specs.ListMethods.{entry_at}
use Rattle.model_values.specs.Throws.{outside}
use Rattle.value_ops.proofs.AnswerLemmas.{answers_as}
use Rattle.value_ops.specs.Effects.{effect_answer}
use Rattle.list_methods.proofs.lists.entry_at.Goals as goal
use Rattle.list_methods.proofs.lists.entry_at.Goals.{then-position-lt0-via-then-position-lt0, then-position-lt0-via-else-position-lt0+then-position-size}

pub returns-then-position-lt0-clause-answer : goal.returns-then-position-lt0-clause-answer
returns-then-position-lt0-clause-answer c =
    let h = c.args.heap.now.cells in
    let vs = values_in (slice_get h c.args.list) in
    let size : length c.as_slice-values.result.now ≡ length vs = ap length (c.as_slice-values.ensures ∙ c.list_in.ensures.values) in
    let same_list = ap length c.as_slice-values.ensures in
    let few : length c.as_slice-values.result.now < 2147483648 = omega (arith, same_list, c.list_in.ensures.few) in
    let out : (c.args.position <ℤ pos 0) ⊎ (pos (length vs) ≤ℤ c.args.position) = elim c.then-position-lt0.branch [
      | then-position-lt0-via-then-position-lt0 w ↦ inl (omega (arith, ints))
      | then-position-lt0-via-else-position-lt0+then-position-size w ↦ inr (omega (arith, ints, size, few))
    ] in
    let same : to_z w32 (of_z w32 c.args.position) ≡ c.args.position = omega (arith, ints) in
    answers_as (effect_answer product_limits h c.in_ok-outside.field-0) (entry_at product_limits h vs c.args.position) c.args.heap.now c.throw.new.heap c.throw.result
    (outside_list h vs c.args.position out ∙ sym (c.in_ok-outside.ensures.answer h ∙ ap₂ (λ (z : ℤ) (n : ℕ). outside product_limits h z n) same size))
    c.throw.ensures.answer
