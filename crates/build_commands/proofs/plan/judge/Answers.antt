use Rattle.std.proofs.Common.{◌≡◌, ◌∙◌, ap, sym, Err}
use Rattle.model_run.specs.AgentsFile.{agents_file}
use Rattle.build_commands.specs.Plans.{no_memory}
use Rattle.build_commands.proofs.PlanLemmas.{agents_told}
use Rattle.build_commands.proofs.plan.judge.Goals as goal

pub returns-in-Err-Fault : goal.returns-in-Err-Fault
returns-in-Err-Fault c =
    let value : c.deref.result.now ≡ c.args.files.agents.items = c.deref.ensures.value in
    agents_told c.agents_refusal.result (ap agents_file (sym value) ∙ c.in-Err-Fault.ensures.fault _ _ (ap Err c.in-Err-Fault.field-0-is)) c.agents_refusal.ensures

pub returns : goal.returns
returns c = no_memory
