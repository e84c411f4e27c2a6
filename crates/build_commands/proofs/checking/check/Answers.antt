use Rattle.std.proofs.Common.{ℕ, sym, subst}
use Rattle.build_commands.specs.Inputs.{taken_from}
use Rattle.build_commands.specs.Checking.{sound, refused}
use Rattle.build_commands.specs.Plans.{RefusesFiles}
use Rattle.build_commands.specs.Refusals.{refusal_text}
use Rattle.build_commands.proofs.checking.check.Goals as goal

pub returns-in-Ok-clause-checks : goal.returns-in-Ok-clause-checks
returns-in-Ok-clause-checks g c = sound c.in-Ok.ensures.plans c.tell_text.ensures

pub returns-clause-checks : goal.returns-clause-checks
returns-clause-checks g c =
    let script = taken_from g.S.Source c.args.script.now c.read_plan.new.script in
    let agents = taken_from g.S.Source c.args.agents.now c.read_plan.new.agents in
    refused (subst (λ (n : ℕ). RefusesFiles script agents n (refusal_text c.in-Err.refusal)) (sym c.tell.ensures.status) c.in-Err.ensures.plans) c.tell.ensures.text
