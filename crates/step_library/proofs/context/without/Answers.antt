use Rattle.std.proofs.Common.{◌∙◌, ap, filter, nat_eq, rules}
use Rattle.std.specs.Prelude.{not}
use Rattle.std.proofs.lemmas.Fn.{filter_same}
use Rattle.model_run.specs.declared.held.Held.{Held}
use Rattle.step_library.proofs.context.without.Goals as goal

pub returns : goal.returns
returns c =
    c.from_vec.ensures ∙ filter_same _ (λ (h : Held). not (nat_eq h.request c.args.request)) _ (λ x b g k. search rules) _ _ c.retain.ensures.filtered
    ∙ ap (filter (λ (h : Held). not (nat_eq h.request c.args.request))) c.into_vec-kept.ensures
