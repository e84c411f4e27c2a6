use Rattle.std.proofs.Common.{◌^◌, arith}
use Rattle.cps_operators.proofs.FormLaws.{with_values}
use Rattle.cps_operators.proofs.suffixes.indexed.Goals as goal

pub returns : goal.returns
returns c = with_values _ _ _ _ _ _ _ _ _ _ _ _ c.in_ok-kept.ensures c.inside_with.ensures (2 ^ 66) (omega arith)
