use Rattle.std.proofs.Common.{◌≡◌, ◌∙◌, Some, ap, sym, subst}
use Rattle.model_values.specs.Fitting.{HasText}
use Rattle.cell_heap.specs.ValueTypes.{Cell}
use Rattle.value_trials.proofs.heaps.byte_in.Goals as goal

pub character_at-requires-clause-text : goal.character_at-requires-clause-text
character_at-requires-clause-text c = subst HasText (sym (c.get.ensures.cell ∙ ap (λ (x : Cell). Some x) c.in-Text.is)) tt
