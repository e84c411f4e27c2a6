use Rattle.std.proofs.Common.{length, sym, ap, ◌∙◌}
use Rattle.model_values.specs.Index.{set_kind_property}
use Rattle.model_values.specs.Limits.{product_limits}
use Rattle.value_operators.proofs.TargetLemmas.{set_no_map}
use Rattle.value_operators.proofs.index.property_target.Goals as goal

pub returns-in_ok-no_property_to_set-in_default : goal.returns-in_ok-no_property_to_set-in_default
returns-in_ok-no_property_to_set-in_default c =
    let h = c.args.heap.now.cells in
    record {
      read = λ v. c.in_ok-no_property_to_set-in_default.ensures.answer h
          ∙ sym (set_no_map h c.args.name.now v c.kind_of.result c.in_default.not-Map)
          ∙ ap (λ k. set_kind_property product_limits h k c.args.name.now v) c.kind_of.ensures.kind;
      below = c.in_ok-no_property_to_set-in_default.ensures.below (length h);
    }
