use Rattle.cps_operators.proofs.FormLaws.{with_copy}
use Rattle.cps_operators.proofs.moves.inside_with.Goals as goal

pub returns : goal.returns
returns c = with_copy _ _ _ _ _ _ _ _ _ _ _ _ c.in_ok-clone.ensures.cases c.under.ensures
