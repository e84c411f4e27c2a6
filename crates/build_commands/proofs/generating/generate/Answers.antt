use Rattle.generated_build.specs.Files.{agents_of_any, script_of}
use Rattle.build_commands.specs.Plans.{whole}
use Rattle.build_commands.proofs.PlanLemmas.{plan_builds}
use Rattle.build_commands.proofs.generating.generate.Goals as goal

pub build_planned-requires-clause-builds : goal.build_planned-requires-clause-builds
build_planned-requires-clause-builds g c κs within = plan_builds _ _ c.generated_plan-plan.result c.generated_plan-plan.ensures

pub returns : goal.returns
returns g c = c.build_planned.ensures (whole (script_of c.args.stages)) (whole agents_of_any) c.generated_plan-plan.ensures
