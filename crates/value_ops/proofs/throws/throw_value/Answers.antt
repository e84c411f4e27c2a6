use Rattle.std.proofs.Common.{length, sym, ap, ◌∙◌}
use Rattle.model_values.specs.Limits.{product_limits}
use Rattle.model_values.specs.Throws.{throw_kind, throw_value}
use Rattle.value_ops.specs.Effects.{effect_answer}
use Rattle.value_ops.proofs.AnswerLemmas.{answers_as}
use Rattle.value_ops.proofs.throws.throw_value.Goals as goal

pub perform-requires : goal.perform-requires
perform-requires c = c.in_ok-effect.ensures.below (length c.args.heap.now.cells) c.kind_of.ensures.sound

pub returns : goal.returns
returns c =
    let h = c.args.heap.now.cells in
    let same = c.in_ok-effect.ensures.answer h ∙ ap (λ k. throw_kind product_limits h k) c.kind_of.ensures.kind in
    record {
      answer = answers_as (effect_answer product_limits h c.in_ok-effect.effect) (throw_value product_limits h c.args.value.now) c.args.heap.now c.perform.new.heap c.perform.result (sym same) c.perform.ensures.answer;
      leaves = c.perform.ensures.leaves;
    }
