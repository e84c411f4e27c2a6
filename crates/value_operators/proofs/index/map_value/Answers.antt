use Rattle.value_view.proofs.PartLemmas.{lookup_below}
use Rattle.value_operators.proofs.index.map_value.Goals as goal

pub returns-in-Some-clause-below : goal.returns-in-Some-clause-below
returns-in-Some-clause-below c = λ n all. rw (c.unwrap_or.ensures, c.get.ensures) (lookup_below n c.in-Some.key c.args.entries.now all)
