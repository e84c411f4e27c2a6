use Rattle.std.proofs.Common.{◌∙◌, ap}
use Rattle.std.specs.Prelude.{unwrap_or}
use Rattle.model_values.specs.declared.value.Value.TheVariants.{Null}
use Rattle.std.proofs.lemmas.Option.{unwrap_or-slice_get}
use Rattle.cps_variables.proofs.nodes.value_at.Goals as goal

pub returns : goal.returns
returns c = c.unwrap_or.ensures ∙ ap (λ o. unwrap_or o Null) (c.copied.ensures ∙ c.get.ensures.value) ∙ unwrap_or-slice_get c.args.values.now c.args.at Null
