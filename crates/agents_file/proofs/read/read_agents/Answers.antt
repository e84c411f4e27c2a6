use Rattle.model_run.specs.declared.agents.AgentsKind.TheVariants.{TooLong}
use Rattle.model_run.specs.AgentsFile.{agents_file}
use Rattle.agents_file.proofs.ReadLemmas.{only_above, refused_for}
use Rattle.agents_file.proofs.read.read_agents.Goals as goal

pub returns-clause-long : goal.returns-clause-long
returns-clause-long c = λ path is.
    only_above c.args.bytes.now path (refused_for (agents_file c.args.bytes.now) c.read_short.result path TooLong c.read_short.ensures.fault is)
