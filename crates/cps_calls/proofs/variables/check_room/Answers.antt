use Rattle.std.proofs.Common.{arith}
use Rattle.cps_calls.proofs.VariableLemmas.{too_large}
use Rattle.cps_calls.proofs.variables.check_room.Goals as goal

pub returns-then-saturating_add-gt-MAX_BYTES-clause-limit : goal.returns-then-saturating_add-gt-MAX_BYTES-clause-limit
returns-then-saturating_add-gt-MAX_BYTES-clause-limit c = λ vs e. too_large c.args.heap.now.cells vs (omega (arith, e)) (omega (arith, e))
