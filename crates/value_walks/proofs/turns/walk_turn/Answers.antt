use Rattle.model_values.specs.Kinds.{kind}
use Rattle.value_walks.proofs.TurnLemmas.{element_sized}
use Rattle.value_walks.proofs.turns.walk_turn.Goals as goal

pub returns-clause-element : goal.returns-clause-element
returns-clause-element c =
    let h = c.args.heap.now.cells in
    element_sized h (kind h c.args.on.now) c.args.takes_two c.args.at c.args.heap.now c.begin.new.heap c.begin.result (rw c.in_ok-place.ensures.place at c.begin.ensures.answer)
