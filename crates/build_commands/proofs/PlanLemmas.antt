-- What is judged of a script and an agents file, and of what their sources give.
use Rattle.std.proofs.Common.{◌≡◌, ℕ, ◌<◌, ◌≤◌, List, length, Option, IfSome, Result, Ok, Err, inl, inr, sym, ◌∙◌, subst, arith}
use Rattle.std.specs.Prelude.{IfOk}
use Rattle.model_syntax.specs.declared.fault.ScriptFault.{ScriptFault}
use Rattle.model_syntax.specs.declared.tree.Tree.{Tree}
use Rattle.model_syntax.specs.FirstFault.{FirstFault}
use Rattle.model_syntax.proofs.FirstFaultLaws.{faultless_or_fault}
use Rattle.model_run.specs.declared.agents.AgentsKind.{AgentsKind}
use Rattle.model_run.specs.declared.site.Site.{Site}
use Rattle.model_run.specs.AgentsFile.{agents_file, Refused}
use Rattle.build_commands.specs.Files.{HasSite, IsRefused, by_fault, by_length, script_limit, agents_limit, Builds, ReadWhole}
use Rattle.build_commands.specs.Inputs.{Input}
use Rattle.build_commands.specs.Lines.{agents_line, fault_line}
use Rattle.build_commands.proofs.FileLemmas.{Left, left_of, long_file, site_fits}
use Rattle.build_commands.specs.declared.plan.Plan.{Plan}
use Rattle.build_commands.specs.declared.refusal.Refusal.{Refusal}
use Rattle.build_commands.specs.Plans.{Faults, of_agents, too_long, of_script, no_memory, Judged, Give, RefusesFiles, judged, Plans}
use Rattle.build_commands.specs.Refusals.{refusal_status, refusal_text, Says}
use Rattle.build_commands.proofs.RefusalLemmas.{as_said}

-- what a refusal tells of a fault
pub agents_told : {script agents path : List ℕ} {kind : AgentsKind} (r : Refusal) → agents_file agents ≡ Refused path kind → Says 13 (agents_line path kind) r → Faults script agents (refusal_status r) (refusal_text r)
agents_told {script} {agents} {path} {kind} r bad says = as_said (Faults script agents) r 13 (agents_line path kind) says no_memory (of_agents bad)

pub script_told : {script agents : List ℕ} {fault : ScriptFault} (r : Refusal) → HasSite agents → length script ≤ script_limit → FirstFault script fault → Says 4 (fault_line fault) r → Faults script agents (refusal_status r) (refusal_text r)
script_told {script} {agents} {fault} r has fits first says = as_said (Faults script agents) r 4 (fault_line fault) says no_memory (of_script has fits first)

-- a longer script is too long as well, and a longer agents file is refused as well
script_longer : {s t a : List ℕ} {status : ℕ} {text : List ℕ} → script_limit < length s → script_limit < length t → Faults s a status text → Faults t a status text
script_longer long longer (of_agents bad) = of_agents bad
script_longer long longer (too_long has l) = too_long has longer
script_longer long longer (of_script has fits f) = absurd (omega (arith, long, fits))
script_longer long longer no_memory = no_memory

agents_longer : {s a b : List ℕ} {status : ℕ} {text : List ℕ} → agents_limit < length a → agents_limit < length b → Faults s a status text → Faults s b status text
agents_longer {a = a} {b = b} long longer (of_agents bad) = of_agents (long_file b longer ∙ sym (long_file a long) ∙ bad)
agents_longer {a = a} long longer (too_long has l) = absurd (omega (arith, long, site_fits a has.0 has.1))
agents_longer {a = a} long longer (of_script has fits f) = absurd (omega (arith, long, site_fits a has.0 has.1))
agents_longer long longer no_memory = no_memory

module _ (script agents : Input) (s a : List ℕ) (rs : ReadWhole script_limit script s) (ra : ReadWhole agents_limit agents a) where
  -- what is judged of the bytes that were read is judged of what the sources had left
  refuses : {status : ℕ} {text : List ℕ} → Faults s a status text → RefusesFiles script agents status text
  refuses {status} {text} f =
      let ls = left_of script_limit script s rs in
      let la = left_of agents_limit agents a ra in
      let one : Faults ls.all a status text = elim ls.same as (λ _. Faults ls.all a status text) [
        | inl same ↦ subst (λ (x : List ℕ). Faults x a status text) (sym same) f
        | inr long ↦ script_longer long.0 long.1 f
      ] in
      let both : Faults ls.all la.all status text = elim la.same as (λ _. Faults ls.all la.all status text) [
        | inl same ↦ subst (λ (x : List ℕ). Faults ls.all x status text) (sym same) one
        | inr long ↦ agents_longer long.0 long.1 one
      ] in
      judged (rs.calm, ra.calm) (record { held_script = ls.told; held_agents = la.told }) both

  held : {limit : ℕ} {left : Option (List ℕ)} (bytes : List ℕ) → length bytes ≤ limit → Left limit left bytes → IfSome left (λ told. told ≡ bytes)
  held {limit} {left} bytes fits l = elim l.same as (λ _. IfSome left (λ told. told ≡ bytes)) [
    | inl same ↦ subst (λ (x : List ℕ). IfSome left (λ told. told ≡ x)) same l.told
    | inr long ↦ absurd (omega (arith, fits, long.0))
  ]

  gives : (tree : Tree) (site : Site) → Builds s a tree site → Give script agents s a tree site
  gives tree site b =
      let fits = site_fits a site b.means in
      record {
        calm = (rs.calm, ra.calm);
        hold = record { held_script = held s b.fits (left_of script_limit script s rs); held_agents = held a fits (left_of agents_limit agents a ra) };
        script_ends = rs.whole b.fits;
        agents_end = ra.whole fits;
        builds = b;
      }

  pub plans : (result : Result Plan Refusal) → Judged s a result → Plans script agents result
  plans (Ok plan) j =
      subst (λ (x : List ℕ). Give script agents x plan.agents plan.tree plan.site) (sym j.1) (subst (λ (x : List ℕ). Give script agents s x plan.tree plan.site) (sym j.2) (gives plan.tree plan.site j.0))
  plans (Err refusal) j = refuses j

-- a script that can be built is not refused
pub unrefused : {s a : List ℕ} {tree : Tree} {site : Site} → Builds s a tree site → IsRefused s → ⊥
unrefused b (by_fault first) = faultless_or_fault b.faultless first
unrefused b (by_length long) = let fits = b.fits in omega (arith, long, fits)

-- a plan that was made can be built
pub plan_builds : (script agents : Input) (result : Result Plan Refusal) → Plans script agents result → IfOk result (λ plan. Builds plan.script plan.agents plan.tree plan.site)
plan_builds script agents (Ok plan) gives = gives.builds
plan_builds script agents (Err refusal) refuses = tt
