use Rattle.std.proofs.Common.{arith}
use Rattle.std.proofs.lemmas.Int.{ints}
use mir.Syntax.{w32}
use mir.Val.{to_z}
use Rattle.value_operators.proofs.NumberLemmas.{rise-more}
use Rattle.value_operators.proofs.operators.rising.Goals as goal

pub loop-number-preserved : goal.loop-number-preserved
loop-number-preserved c = record {
  within = omega (arith, ints);
  rest = rise-more _ _ _ (to_z w32 c.loop-number.number-bits) _ _ (omega (arith, ints)) (omega (arith, ints)) c.in_ok-push.ensures.pushed c.loop-number.invariant.rest;
}
