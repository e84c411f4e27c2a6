use Rattle.std.proofs.Common.{refl}
use Rattle.durable_build.proofs.LoadLemmas.{no_first, no_first_changes, opens_by}
use Rattle.durable_build.proofs.opening.opening_of.Goals as goal

pub returns-in-Ok-Whole-clause-opens : goal.returns-in-Ok-Whole-clause-opens
returns-in-Ok-Whole-clause-opens c = opens_by _ _ _ c.args.bytes.now c.args.at c.event_opening.result c.in-Ok-Whole.ensures.has c.in-Ok-Whole.field-0-is c.event_opening.ensures.opens

pub returns-in-Ok-Changed-clause-opens : goal.returns-in-Ok-Changed-clause-opens
returns-in-Ok-Changed-clause-opens c = (refl, no_first_changes _ _ _ c.args.bytes.now c.in-Ok-Changed.ensures.has c.in-Ok-Changed.field-0-is)

pub returns-clause-opens : goal.returns-clause-opens
returns-clause-opens c = no_first c.args.bytes.now c.args.at c.in-Err.fault c.in-Err.ensures.has
