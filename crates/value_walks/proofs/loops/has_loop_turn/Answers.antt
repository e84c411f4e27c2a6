use Rattle.std.proofs.Common.{ltb, ap, sym, ◌∙◌, subst}
use Rattle.model_values.specs.Kinds.{Kind}
use Rattle.model_values.specs.Limits.{product_limits}
use Rattle.model_values.specs.Walks.{loop_kind_turn}
use Rattle.value_walks.specs.Places.{IsLoopPlace}
use Rattle.value_walks.specs.Turns.{has_turn}
use Rattle.value_walks.proofs.LoopLemmas.{within_text}
use Rattle.value_walks.proofs.loops.has_loop_turn.Goals as goal

pub returns-in-Text : goal.returns-in-Text
returns-in-Text c =
    let h = c.args.heap.now.cells in
    let at = c.args.place.at in
    let byte = c.args.place.byte in
    let here = subst (λ (k : Kind). IsLoopPlace k at byte) (sym c.in-Text.ensures.kind) c.requires.place in
    ap (λ n. ltb byte n) c.len-in-Text.ensures
    ∙ within_text h c.in-Text.text.now at byte here
    ∙ ap (λ (k : Kind). has_turn (loop_kind_turn product_limits h c.args.on.now k at)) c.in-Text.ensures.kind
