use Rattle.std.proofs.Common.{◌≡◌, List, ℕ, Result, Ok, Err, refl, sym, subst}
use Rattle.generated_build.specs.Files.{agents_of_any, script_of}
use Rattle.build_commands.specs.declared.plan.Plan.{Plan}
use Rattle.build_commands.specs.declared.refusal.Refusal.{Refusal}
use Rattle.build_commands.specs.Plans.{Give, Judged, Plans, judged, no_room, whole}
use Rattle.build_commands.proofs.generating.generated_plan.Goals as goal

-- what is judged of bytes that are there is the plan of sources that gave just them
plans_whole : (script agents : List ℕ) (r : Result Plan Refusal) → Judged script agents r → Plans (whole script) (whole agents) r
plans_whole script agents (Ok plan) made =
    subst (λ (s : List ℕ). Give (whole script) (whole agents) s plan.agents plan.tree plan.site) (sym made.1)
    (subst (λ (a : List ℕ). Give (whole script) (whole agents) script a plan.tree plan.site) (sym made.2)
    (record { calm = (refl, refl); hold = record { held_script = refl; held_agents = refl }; script_ends = refl; agents_end = refl; builds = made.0 }))
plans_whole script agents (Err refusal) faults = judged (refl, refl) (record { held_script = refl; held_agents = refl }) faults

pub returns-in-Ok : goal.returns-in-Ok
returns-in-Ok c =
    let made = c.in-Ok.ensures in
    subst (λ (s : List ℕ). Plans (whole s) (whole agents_of_any) c.judge.result) made.script
    (subst (λ (a : List ℕ). Plans (whole c.in-Ok.field-0.script.items) (whole a) c.judge.result) made.agents
    (plans_whole c.in-Ok.field-0.script.items c.in-Ok.field-0.agents.items c.judge.result c.judge.ensures))

pub returns-in-Err : goal.returns-in-Err
returns-in-Err c = no_room (refl, refl)
