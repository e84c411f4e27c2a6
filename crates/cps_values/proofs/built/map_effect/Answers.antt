use Rattle.std.proofs.Common.{◌≡◌, ◌∙◌, [], length, ap, sym}
use Rattle.model_values.specs.Limits.{product_limits}
use Rattle.model_values.specs.Throws.{bad_key}
use Rattle.model_run.specs.Gathering.{entries_of, map_from}
use Rattle.model_run.specs.Nesting.{shape_at}
use Rattle.cps_code.specs.Script.{script_of}
use Rattle.value_ops.specs.Effects.{HasAnswer, effect_answer}
use Rattle.value_ops.proofs.AnswerLemmas.{below_any}
use Rattle.cps_frames.specs.Standing.{world_of}
use Rattle.cps_frames.specs.declared.thread.ThreadState.{ThreadState}
use Rattle.cps_values.proofs.HeapLaws.{each_effect}
use Rattle.cps_values.proofs.built.map_effect.Goals as goal

pub returns-in-None : goal.returns-in-None
returns-in-None c =
    let h = c.args.shared.now.heap.cells in
    let es = entries_of h (shape_at (script_of c.args.shared.now.code) c.args.node).parts c.args.values.now [] in
    record {
      answer = each_effect (HasAnswer (λ cs. bad_key product_limits cs)) (λ x. (t : ThreadState) → effect_answer product_limits h x ≡ map_from (world_of c.args.shared.now t) es) (λ x q t. q h ∙ ap (map_from (world_of c.args.shared.now t)) (sym (sym c.in_ok-entries_of.ensures.entries ∙ c.in-None.is))) c.bad_key.result c.bad_key.ensures.answer;
      below = below_any c.bad_key.result (length h) c.bad_key.ensures.below;
    }

pub returns-in-Some : goal.returns-in-Some
returns-in-Some c = record {
  answer = λ t. ap (map_from (world_of c.args.shared.now t)) (sym (sym c.in_ok-entries_of.ensures.entries ∙ c.in-Some.is));
  below = c.in_ok-entries_of.ensures.below c.in-Some.entries c.in-Some.is;
}
