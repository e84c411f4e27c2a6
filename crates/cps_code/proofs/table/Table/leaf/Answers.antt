use Rattle.std.proofs.Common.{◌∙◌, sym}
use Rattle.cps_code.proofs.WalkLaws.{added-leaf}
use Rattle.cps_code.proofs.table.Table.leaf.Goals as goal

pub returns : goal.returns
returns c = c.in_ok-part.ensures.opened ∙ sym (added-leaf _ _ _)
