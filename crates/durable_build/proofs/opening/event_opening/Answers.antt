use Rattle.durable_build.proofs.LoadLemmas.{source_opens}
use Rattle.durable_build.proofs.opening.event_opening.Goals as goal

pub returns-in-Start-clause-opens : goal.returns-in-Start-clause-opens
returns-in-Start-clause-opens c = source_opens c.args.event c.in-Start.script c.in-Start.agents c.args.at c.source_of.result c.in-Start.is c.source_of.ensures.says
