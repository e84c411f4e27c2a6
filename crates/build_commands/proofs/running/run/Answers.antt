use Rattle.build_commands.specs.Inputs.{taken_from}
use Rattle.build_commands.proofs.PlanLemmas.{plan_builds}
use Rattle.build_commands.proofs.running.run.Goals as goal

pub build_planned-requires-clause-builds : goal.build_planned-requires-clause-builds
build_planned-requires-clause-builds g c κs within = plan_builds _ _ c.read_plan-plan.result c.read_plan-plan.ensures.plans

pub returns-clause-runs : goal.returns-clause-runs
returns-clause-runs g c =
    let S = g.S.Source in
    c.build_planned.ensures (taken_from S c.args.script.now c.read_plan-plan.new.script) (taken_from S c.args.agents.now c.read_plan-plan.new.agents) c.read_plan-plan.ensures.plans
