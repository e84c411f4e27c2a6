use Rattle.std.proofs.Common.{◌+◌, arith}
use Rattle.groovy_lex.proofs.NumberLemmas.{digits_more, digits_front}
use Rattle.groovy_lex.proofs.numbers.number_of.Goals as goal

pub returns-then-value-gt-LARGEST : goal.returns-then-value-gt-LARGEST
returns-then-value-gt-LARGEST c = omega (arith, digits_more c.args.digits.now c.digits.digit-index c.requires c.digits-test.true, digits_front c.args.digits.now (c.digits.digit-index + 1), c.from.ensures, c.digits.invariant.so_far, c.if-value-gt-LARGEST.true)

pub digits-preserved : goal.digits-preserved
digits-preserved c = record {
  so_far = omega (arith, digits_more c.args.digits.now c.digits.digit-index c.requires c.digits-test.true, c.from.ensures, c.digits.invariant.so_far);
  small = c.if-value-gt-LARGEST.false;
}
