use Rattle.std.proofs.Common.{◌∙◌, Option, Some, ap, sym, subst}
use Rattle.model_values.specs.Fitting.{HasText}
use Rattle.model_values.specs.Kinds.{cell_kind}
use Rattle.cell_heap.specs.ValueTypes.{Cell}
use Rattle.value_walks.specs.Places.{IsLoopPlace}
use Rattle.value_walks.proofs.PlaceLemmas.{cell_place, no_text_cell}
use Rattle.value_walks.proofs.loops.byte_in.Goals as goal

pub character_at-requires-clause-text : goal.character_at-requires-clause-text
character_at-requires-clause-text c = subst HasText (sym (c.get.ensures.cell ∙ ap (λ (x : Cell). Some x) c.in-Text.is)) tt

pub returns-in-Text-clause-place : goal.returns-in-Text-clause-place
returns-in-Text-clause-place c = cell_place c.args.cell _ c.args.at c.character_at.result c.character_at.ensures.byte

pub returns-in_default-clause-place : goal.returns-in_default-clause-place
returns-in_default-clause-place c =
    subst (λ (o : Option Cell). IsLoopPlace (cell_kind c.args.cell o) c.args.at 0) (sym c.get.ensures.cell) (no_text_cell c.args.cell c.get.result.now c.args.at 0 c.in_default.not-Text)
