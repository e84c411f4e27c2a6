use Rattle.std.proofs.Common.{◌≡◌, length, unwrap_or, ap, ◌∙◌}
use Rattle.std.specs.Map.{lookup}
use Rattle.model_values.specs.Keys.{same_key}
use Rattle.model_values.specs.declared.value.Value.TheVariants.{Null}
use Rattle.value_view.proofs.PartLemmas.{lookup_below}
use Rattle.list_methods.proofs.maps.value_or_null.Goals as goal

pub returns-clause-below : goal.returns-clause-below
returns-clause-below c =
    let value : c.unwrap_or.result ≡ unwrap_or (lookup (same_key c.args.key.now) c.map_in.result.now) Null = c.unwrap_or.ensures ∙ ap (λ o. unwrap_or o Null) c.get.ensures in
    rw value (lookup_below (length c.args.heap.now.cells) c.args.key.now c.map_in.result.now c.map_in.ensures.below)
