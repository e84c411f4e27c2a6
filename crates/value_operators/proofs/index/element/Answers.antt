use Rattle.value_operators.proofs.index.element.Goals as goal

pub returns-in-List-Number-clause-below : goal.returns-in-List-Number-clause-below
returns-in-List-Number-clause-below c = λ n sound.
    let there = rw c.in-List-Number.is-0 at sound in
    c.list_entry.ensures.below n (rw c.as_slice.ensures there.1)
