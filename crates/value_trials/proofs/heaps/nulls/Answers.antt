use Rattle.std.proofs.Common.{◌≡◌, List, ◌++◌, ◌∷◌, [], sym, subst}
use Rattle.std.specs.List.{All}
use Rattle.std.proofs.lemmas.List.Elements.{All-push}
use Rattle.cell_heap.specs.Soundness.{ValueBelow}
use Rattle.cell_heap.specs.ValueTypes.{Value, Null}
use Rattle.value_trials.proofs.heaps.nulls.Goals as goal

pub loop-preserved : goal.loop-preserved
loop-preserved c =
    subst (λ (vs : List Value). All (ValueBelow 0) vs) (sym c.in_ok-push.ensures.pushed) (All-push (ValueBelow 0) c.loop.values Null c.loop.invariant tt)
