-- The parts of a call's contract for `check`, from its table.
use Rattle.std.proofs.Common.{◌≡◌, ◌⊎◌, ℕ, List, inl, inr, refl, ⊎_elim, arith}
use Rattle.device_faults.specs.Faults.{Rose}
use Rattle.model_run.specs.declared.result.BuildResult.TheVariants.{Success}
use Rattle.build_commands.specs.Files.{HasFault, HasSite, IsRefused, OfFiles}
use Rattle.build_commands.specs.Statuses.{HasRun}
use Rattle.build_commands.specs.Inputs.{HasFailed}
use Rattle.build_commands.specs.Checking.{Checks}
use Rattle.build_commands.specs.Checking as checking
use Rattle.build_commands.specs.Plans.{AreCalm, Faults, RefusesFiles}
use Rattle.build_commands.specs.Plans as plan
use Rattle.build_commands.specs.Texts.{ok_text}
use Rattle.build_commands.specs.Writing as writing
use Rattle.controller.specs.Call.{AreRead, Call, Devices, IsUnled, Tells, WithFiles}
use Rattle.controller.specs.Causes.{CheckCauses}
use Rattle.controller.specs.FirstFault.{JudgesFiles, TellsFault}
use Rattle.controller.specs.Output.{Says}
use Rattle.controller.proofs.CallLemmas.{unrun, run_untold, built_not_refused, built_site, of_files, site_no_fault}
use Rattle.controller.proofs.RunLemmas.{files_told, files_tell, files_want, files_failed, files_other, files_uncalm}
use Rattle.controller.proofs.TextLemmas.{written, written_run, says_unrun, files_say}

module _ {D H A : Type 0} (c : Call D H A) where
  abbrev ChecksSo : ℕ → Type 0
  ChecksSo n = Checks c.script c.agents c.old c.new c.sink_before c.sink_after n

  sound_run : {n : ℕ} → writing.Writes c.old c.new c.sink_before c.sink_after ok_text 0 n → HasRun n
  sound_run writes = written_run (inl (Success, refl)) writes

  pub check_outputs : {n : ℕ} → ChecksSo n → HasRun n → writing.Writes c.old c.new c.sink_before c.sink_after ok_text 0 n × WithFiles c (λ script agents. HasSite agents × ¬ (IsRefused script))
  check_outputs (checking.sound {s = s} {a = a} give writes) run =
      (writes, (s, a, give.hold, (built_site give.builds, λ refused. built_not_refused give.builds refused)))
  check_outputs (checking.refused refused tells) run = absurd (says_unrun (files_say refused) run)

  pub check_says : {n : ℕ} → ChecksSo n → HasRun n ⊎ ((text : List ℕ) × Says n text × Tells text c)
  check_says (checking.sound give writes) = inl (sound_run writes)
  check_says (checking.refused {text = text} refused tells) = inr (text, files_say refused, tells)

  told : {n : ℕ} → ChecksSo n → TellsFault n → AreCalm c.script c.agents × WithFiles c (λ script agents. (text : List ℕ) × Faults script agents n text × Tells text c)
  told {n = n} (checking.sound give writes) is = absurd (run_untold n (sound_run writes) is)
  told (checking.refused refused tells) is = files_told c refused tells is

  tell : {n : ℕ} → ChecksSo n → AreRead c → OfFiles c.script c.agents (λ script agents. HasFault agents ⊎ IsRefused script → TellsFault n ⊎ (n ≡ 8))
  tell {n = n} (checking.sound {s = s} {a = a} give writes) read =
      of_files c.script c.agents s a (λ script agents. HasFault agents ⊎ IsRefused script → TellsFault n ⊎ (n ≡ 8)) give.hold
      (λ faulty. absurd (⊎_elim (λ of_agents. site_no_fault a (built_site give.builds) of_agents) (λ of_script. built_not_refused give.builds of_script) faulty))
  tell (checking.refused refused tells) read = λ script agents at_s at_a faulty. files_tell c refused read

  pub check_judges : c.now ≡ c.disk → ChecksSo c.status → JudgesFiles c
  check_judges same checks = record { told = told checks; tells = tell checks; untouched = λ is. same }

  known : {n : ℕ} → ChecksSo n → (n ≡ 0) ⊎ (n ≡ 4) ⊎ (n ≡ 6) ⊎ (n ≡ 7) ⊎ (n ≡ 8) ⊎ (n ≡ 13)
  known (checking.sound give writes) = ⊎_elim (λ zero. inl zero) (λ failed. inr (inr (inr (inl failed.0)))) (written writes)
  known (checking.refused refused tells) = refused_known refused
    where
      faults_known : {s a : List ℕ} {n : ℕ} {text : List ℕ} → Faults s a n text → (n ≡ 0) ⊎ (n ≡ 4) ⊎ (n ≡ 6) ⊎ (n ≡ 7) ⊎ (n ≡ 8) ⊎ (n ≡ 13)
      faults_known (plan.of_agents is) = inr (inr (inr (inr (inr refl))))
      faults_known (plan.too_long site long) = inr (inl refl)
      faults_known (plan.of_script site fits first) = inr (inl refl)
      faults_known plan.no_memory = inr (inr (inr (inr (inl refl))))

      refused_known : {n : ℕ} {text : List ℕ} → RefusesFiles c.script c.agents n text → (n ≡ 0) ⊎ (n ≡ 4) ⊎ (n ≡ 6) ⊎ (n ≡ 7) ⊎ (n ≡ 8) ⊎ (n ≡ 13)
      refused_known (plan.unread failed) = inr (inr (inl refl))
      refused_known (plan.no_room calm) = inr (inr (inr (inr (inl refl))))
      refused_known (plan.judged calm hold faults) = faults_known faults

  source : {n : ℕ} → ChecksSo n → n ≡ 6 → HasFailed c.script ⊎ HasFailed c.agents
  source {n = n} (checking.sound give writes) six = absurd (unrun 6 n six refl (sound_run writes))
  source (checking.refused refused tells) six = files_failed c refused six

  sink : {n : ℕ} → ChecksSo n → n ≡ 7 → Rose c.sink_before c.sink_after
  sink (checking.sound give writes) seven = ⊎_elim (λ zero. absurd (omega (arith, seven, zero))) (λ failed. failed.1) (written writes)
  sink (checking.refused refused tells) seven = absurd ((files_other c refused).1 seven)

  works : {n : ℕ} → ChecksSo n → AreRead c → ¬ (Rose c.sink_before c.sink_after) → OfFiles c.script c.agents (λ script agents. HasSite agents → ¬ (IsRefused script) → (n ≡ 0) ⊎ (n ≡ 8))
  works (checking.sound give writes) read quiet = λ script agents at_s at_a site sound. ⊎_elim (λ zero. inl zero) (λ failed. absurd (quiet failed.1)) (written writes)
  works (checking.refused refused tells) read quiet = λ script agents at_s at_a site sound. inr (files_want c refused read script agents at_s at_a site sound)

  unread_told : {n : ℕ} → c.now ≡ c.disk → IsUnled c → ChecksSo n → ¬ (AreCalm c.script c.agents) → (n ≡ 6) × (c.now ≡ c.disk) × IsUnled c
  unread_told same unled (checking.sound give writes) other = absurd (other give.calm)
  unread_told same unled (checking.refused refused tells) other = (files_uncalm c refused other, same, unled)

  pub check_causes : {v : Devices D H A} → c.now ≡ c.disk → IsUnled c → ChecksSo c.status → CheckCauses v c
  check_causes same unled checks = record { known = known checks; source = source checks; unread = unread_told same unled checks; sink = sink checks; works = works checks }

  pub check_known : {n : ℕ} → ChecksSo n → n ≡ 2 → ⊥
  check_known {n = n} (checking.sound give writes) two = unrun 2 n two refl (sound_run writes)
  check_known (checking.refused refused tells) two = (files_other c refused).3 two
