use Rattle.cps_frames.proofs.MoveLaws.{inside_to}
use Rattle.cps_frames.proofs.parts.inside.Goals as goal

pub returns : goal.returns
returns c = inside_to _ _ _ _ _ _ _ _ _ _ _ _ c.in_ok-clone.ensures.cases c.new.ensures c.under.ensures
