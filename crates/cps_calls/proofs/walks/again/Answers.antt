use Rattle.std.proofs.Common.{◌^◌, arith}
use Rattle.cps_calls.proofs.walks.again.Goals as goal

pub returns : goal.returns
returns c = c.walk_turn.ensures (2 ^ 66) (omega arith)
