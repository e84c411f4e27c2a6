use Rattle.std.proofs.Common.{◌≡◌, ◌<◌, ℕ, List, length, ap, sym, subst, Err}
use Rattle.model_syntax.specs.FirstFault.{FirstFault, IsFaultless}
use Rattle.build_commands.specs.Files.{script_limit}
use Rattle.build_commands.proofs.FileLemmas.{not_past}
use Rattle.build_commands.specs.Plans.{too_long, no_memory}
use Rattle.build_commands.proofs.PlanLemmas.{script_told}
use Rattle.build_commands.proofs.plan.judge_script.Goals as goal

pub returns-in-Ok : goal.returns-in-Ok
returns-in-Ok c =
    let value : c.deref.result.now ≡ c.args.files.script.items = c.deref.ensures.value in
    let within : script_limit < length c.args.files.script.items → ⊥ = λ past. let wrong = c.in-Ok.ensures.long.1 (subst (λ (l : List ℕ). script_limit < length l) (sym value) past) in cc in
    (record { means = c.requires; fits = not_past _ _ within; faultless = subst (λ (l : List ℕ). IsFaultless l c.in-Ok.tree) value c.in-Ok.ensures.found }, c.from_vec.ensures, c.from_vec-in-Ok.ensures)

pub returns-in-Err-Fault : goal.returns-in-Err-Fault
returns-in-Err-Fault c =
    let value : c.deref.result.now ≡ c.args.files.script.items = c.deref.ensures.value in
    let within : script_limit < length c.args.files.script.items → ⊥ = λ past. let wrong = c.in-Err-Fault.ensures.long.1 (subst (λ (l : List ℕ). script_limit < length l) (sym value) past) in cc in
    script_told c.script_refusal.result (c.args.site, c.requires) (not_past _ _ within) (subst (λ (l : List ℕ). FirstFault l c.in-Err-Fault.fault) value (c.in-Err-Fault.ensures.fault _ (ap Err c.in-Err-Fault.field-0-is))) c.script_refusal.ensures

pub returns-in-Err-TooLong : goal.returns-in-Err-TooLong
returns-in-Err-TooLong c =
    let value : c.deref.result.now ≡ c.args.files.script.items = c.deref.ensures.value in
    too_long (c.args.site, c.requires) (subst (λ (l : List ℕ). script_limit < length l) value (c.in-Err-TooLong.ensures.long.0 (ap Err c.in-Err-TooLong.field-0-is)))

pub returns : goal.returns
returns c = no_memory
