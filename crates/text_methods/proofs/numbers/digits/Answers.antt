use Rattle.std.proofs.Common.{arith, sym}
use Rattle.text_methods.proofs.NumberLemmas.{too_large}
use Rattle.text_methods.proofs.numbers.digits.Goals as goal

pub returns-then-number-from-clause-number : goal.returns-then-number-from-clause-number
returns-then-number-from-clause-number c =
    too_large c.args.most c.loop-byte.number c.args.bytes.now c.loop-byte.byte-index c.in_ok-digit.digit c.loop-byte.invariant.rest c.loop-byte-test.true (sym c.in_ok-digit.ensures.digit) (omega (arith, c.if-number-from.true, c.from.ensures, c.from-in-loop-byte.ensures))
