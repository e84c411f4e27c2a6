use Rattle.std.proofs.Common.{◌++◌, ◌+◌, List, drop, sym, ap, ◌∙◌}
use Rattle.model_values.specs.TextMethods.{cells_from}
use Rattle.model_values.specs.declared.value.Value.{Value}
use Rattle.text_methods.proofs.ListLemmas.{cells_more}
use Rattle.text_methods.proofs.texts.cells_from.Goals as goal

pub loop-at-preserved : goal.loop-at-preserved
loop-at-preserved c =
    let first = c.args.first in let texts = c.args.texts.now in let at = c.loop-at.at in
    ap (λ (vs : List Value). vs ++ cells_from (first + (at + 1)) (drop (at + 1) texts)) c.in_ok-push.ensures.items
    ∙ sym (cells_more c.loop-at.values.items first texts at c.loop-at-test.true) ∙ c.loop-at.invariant
