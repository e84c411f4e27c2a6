use Rattle.std.proofs.Common.{ap, Err}
use Rattle.build_commands.specs.Inputs.{taken_from}
use Rattle.build_commands.specs.Plans.{unread, no_room}
use Rattle.build_commands.proofs.PlanLemmas.{plans}
use Rattle.build_commands.proofs.plan.read_plan.Goals as goal

pub returns-in-Ok-clause-plans : goal.returns-in-Ok-clause-plans
returns-in-Ok-clause-plans g c =
    let script = taken_from g.S.Source c.args.script.now c.read_files.new.script in
    let agents = taken_from g.S.Source c.args.agents.now c.read_files.new.agents in
    plans script agents c.in-Ok.files.script.items c.in-Ok.files.agents.items c.in-Ok.ensures.script c.in-Ok.ensures.agents c.judge.result c.judge.ensures

pub returns-in-Err-Failed-clause-plans : goal.returns-in-Err-Failed-clause-plans
returns-in-Err-Failed-clause-plans g c = unread (c.in-Err-Failed.ensures.failed (ap Err c.in-Err-Failed.field-0-is))

pub returns-in-Err-Memory-clause-plans : goal.returns-in-Err-Memory-clause-plans
returns-in-Err-Memory-clause-plans g c = no_room (c.in-Err-Memory.ensures.wanting (ap Err c.in-Err-Memory.field-0-is))
