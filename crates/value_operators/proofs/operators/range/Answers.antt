use Rattle.std.proofs.Common.{arith}
use Rattle.std.proofs.lemmas.Int.{ints}
use mir.Syntax.{w32}
use mir.Val.{to_z, of_z}
use Rattle.value_operators.proofs.OperandLemmas.{numbers_below, numbers_long}
use Rattle.value_operators.proofs.operators.range.Goals as goal

pub returns-then-abs_diff-ge-MAX_ENTRIES-clause-read : goal.returns-then-abs_diff-ge-MAX_ENTRIES-clause-read
returns-then-abs_diff-ge-MAX_ENTRIES-clause-read c = λ h.
    rw (c.in-Number-Number.is-0, c.in-Number-Number.is-1) (numbers_long h c.in-Number-Number.x c.in-Number-Number.y (omega (arith, ints)))

pub returns-in_ok-numbers-in-Number-Number-clause-below : goal.returns-in_ok-numbers-in-Number-Number-clause-below
returns-in_ok-numbers-in-Number-Number-clause-below c = λ n.
    rw c.in_ok-numbers-in-Number-Number.ensures (numbers_below n (to_z w32 (of_z w32 c.in-Number-Number.x)) (to_z w32 (of_z w32 c.in-Number-Number.y)))
