use Rattle.std.proofs.lemmas.List.Elements.{All-append}
use Rattle.cell_heap.specs.Soundness.{ValueBelow}
use Rattle.value_walks.specs.Turns.{listed}
use Rattle.value_walks.proofs.WalkLemmas.{listed_below}
use Rattle.value_walks.proofs.walk.Walk.in_turn.Goals as goal

pub returns-in-Find-clause-below : goal.returns-in-Find-clause-below
returns-in-Find-clause-below c = λ n kept arguments element. listed_below n c.args.turn.now.arguments arguments

pub returns-in-FindAll-clause-below : goal.returns-in-FindAll-clause-below
returns-in-FindAll-clause-below c = λ n kept arguments element.
    All-append (ValueBelow n) (listed c.args.turn.now.element) c.in-FindAll.values (listed_below n c.args.turn.now.element element) (rw c.in-FindAll.is at kept)
