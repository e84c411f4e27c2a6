-- The parts of a call's contract for `run`, from its table.
use Rattle.std.proofs.Common.{◌≡◌, ◌⊎◌, ◌+◌, ◌<◌, ◌≤◌, ◌^◌, ℕ, List, [], ◌∷◌, ◌++◌, Option, None, Some, inl, inr, refl, sym, ap, ◌∙◌, subst, append_assoc, ⊎_elim, arith}
use Rattle.std.specs.Prelude.{IfSome, IsSome, IsSomeAnd, is_some}
use Rattle.std.specs.Io.KnownBytes.{IsAtEnd}
use Rattle.std.proofs.Math.Logic.{∥∥₁_map}
use Rattle.build_commands.specs.Texts.{full_text, has_build_text}
use Rattle.device_faults.specs.Faults.{Rose, CountsFault}
use Rattle.jp_disk.specs.Images.{IsOnlyImage}
use Rattle.jp_disk.specs.Runs.{AtEachMoment}
use Rattle.jp_disk.proofs.MomentLemmas.{runs_on, at_each_weaker, starts}
use Rattle.journal_core.specs.Answers.{IsStarted}
use Rattle.journal_core.specs.Moments.{SinceSync}
use Rattle.journal_core.specs.Records.{Has, records}
use Rattle.journal_core.specs.declared.faults.TakeFault.{TakeFault}
use Rattle.journal_core.specs.declared.faults.TakeFault.TheVariants as take
use Rattle.model_syntax.specs.declared.tree.Tree.{Tree}
use Rattle.model_run.specs.declared.event.Event.{Event}
use Rattle.model_run.specs.declared.event.Event.TheVariants.{Start as StartEvent}
use Rattle.model_run.specs.declared.site.Site.{Site}
use Rattle.model_run.specs.State.{Setting}
use Rattle.settle_laws.specs.Stances.{Stance}
use Rattle.build_commands.specs.Lower.durable_build.Settings.{script_setting}
use Rattle.build_commands.specs.Lower.build_store.declared.beginning.BeginFault.{BeginFault}
use Rattle.build_commands.specs.Lower.build_store.declared.beginning.BeginFault.TheVariants as fault
use Rattle.build_commands.specs.Lower.record_form.declared.record.EventRecord.{EventRecord}
use Rattle.build_commands.specs.Lower.store_laws.Store.{Mean, Told, events_of}
use Rattle.build_commands.specs.Lower.durable_build.Kinds.{weights_of}
use Rattle.build_commands.proofs.Lower.durable_build.Sizes.{start_adds}
use Rattle.build_commands.specs.Lower.build_store.Lives.{BeginRefuses, StartFails, MayRisk, image_after, TellsStart}
use Rattle.build_commands.specs.Lower.build_store.Saved.{Stores, Survives}
use Rattle.build_commands.specs.Files.{HasFault, HasSite, IsRefused, by_fault, by_length, OfFiles, Builds}
use Rattle.build_commands.specs.Statuses.{HasLog, HasRun}
use Rattle.build_commands.specs.Inputs.{HasFailed}
use Rattle.build_commands.specs.declared.end_text.EndText.{EndText}
use Rattle.build_commands.specs.Beginning.{BeginSays, BeginsOver}
use Rattle.build_commands.specs.Beginning as begin
use Rattle.build_commands.specs.Plans.{AreCalm, Faults, Hold, RefusesFiles}
use Rattle.build_commands.specs.Plans as plan
use Rattle.build_commands.specs.Reporting.{Reports}
use Rattle.build_commands.specs.Reporting as report
use Rattle.controller.specs.Call.{AreRead, Call, Devices, IsUnled, Tells, WithFiles, answered}
use Rattle.controller.specs.Causes.{AllCalm, HasWorked, IsFullAtOnce, LeavesAll, RunCauses, RunWentOn, Unbegun}
use Rattle.controller.specs.Commands.{RunsBy}
use Rattle.controller.specs.Crash.{LastsRun, Stays}
use Rattle.controller.specs.FirstFault.{TellsFault, JudgesFiles}
use Rattle.controller.specs.Output.{DeliversRun, Says}
use Rattle.controller.proofs.CallLemmas.{FinishedIn, unrun, seven_no_log, untold, run_untold, built_not_refused, built_site, site_no_fault, mean_of, of_files, some_and}
use Rattle.controller.proofs.LifeLemmas.{gone, finish_delivers, finish_went}
use Rattle.controller.proofs.TextLemmas.{written, written_run, says_unrun, files_say, begin_says, reports_say}
use Rattle.jp_disk.specs.View.{DiskLaws}

-- a front of nothing is nothing
nothing_front : (kept rest : List Event) → [] ≡ kept ++ rest → kept ≡ []
nothing_front [] rest is = refl
nothing_front (e ∷ es) rest is = absurd (cc)

-- files that are judged: what is told of them
module _ {D H A : Type 0} (c : Call D H A) where
  pub files_told : {n : ℕ} {text : List ℕ} → RefusesFiles c.script c.agents n text → Tells text c → TellsFault n
      → AreCalm c.script c.agents × WithFiles c (λ script agents. (t : List ℕ) × Faults script agents n t × Tells t c)
  files_told (plan.unread failed) tells is = absurd (untold 6 6 refl (λ e. omega (arith, e)) (λ e. omega (arith, e)) is)
  files_told (plan.no_room calm) tells is = absurd (untold 8 8 refl (λ e. omega (arith, e)) (λ e. omega (arith, e)) is)
  files_told (plan.judged {s = s} {a = a} {text = text} calm hold faults) tells is = (calm, (s, a, hold, (text, faults, tells)))

  -- a source that counted a fault is told
  pub files_uncalm : {n : ℕ} {text : List ℕ} → RefusesFiles c.script c.agents n text → ¬ (AreCalm c.script c.agents) → n ≡ 6
  files_uncalm (plan.unread failed) other = refl
  files_uncalm (plan.no_room calm) other = absurd (other calm)
  files_uncalm (plan.judged calm hold faults) other = absurd (other calm)

  faults_tell : {s a : List ℕ} {n : ℕ} {text : List ℕ} → Faults s a n text → TellsFault n ⊎ (n ≡ 8)
  faults_tell (plan.of_agents is) = inl (inr refl)
  faults_tell (plan.too_long site long) = inl (inl refl)
  faults_tell (plan.of_script site fits first) = inl (inl refl)
  faults_tell plan.no_memory = inr refl

  pub files_tell : {n : ℕ} {text : List ℕ} → RefusesFiles c.script c.agents n text → AreRead c → TellsFault n ⊎ (n ≡ 8)
  files_tell (plan.unread failed) read = absurd (⊎_elim read.0 read.1 failed)
  files_tell (plan.no_room calm) read = inr refl
  files_tell (plan.judged calm hold faults) read = faults_tell faults

  -- files that can be built, and whose sources were read, are refused only for want of memory
  faults_want : {s a : List ℕ} {n : ℕ} {text : List ℕ} → Faults s a n text → HasSite a → ¬ (IsRefused s) → n ≡ 8
  faults_want {a = a} (plan.of_agents {path = path} {kind = kind} is) site sound = absurd (site_no_fault a site (path, kind, is))
  faults_want (plan.too_long other long) site sound = absurd (sound (by_length long))
  faults_want (plan.of_script other fits first) site sound = absurd (sound (by_fault first))
  faults_want plan.no_memory site sound = refl

  pub files_want : {n : ℕ} {text : List ℕ} → RefusesFiles c.script c.agents n text → AreRead c → OfFiles c.script c.agents (λ script agents. HasSite agents → ¬ (IsRefused script) → n ≡ 8)
  files_want (plan.unread failed) read = absurd (⊎_elim read.0 read.1 failed)
  files_want (plan.no_room calm) read = λ script agents at_s at_a site sound. refl
  files_want (plan.judged {s = s} {a = a} {status = n} calm hold faults) read =
      of_files c.script c.agents s a (λ script agents. HasSite agents → ¬ (IsRefused script) → n ≡ 8) hold (λ site sound. faults_want faults site sound)

  pub files_failed : {n : ℕ} {text : List ℕ} → RefusesFiles c.script c.agents n text → n ≡ 6 → HasFailed c.script ⊎ HasFailed c.agents
  files_failed (plan.unread failed) six = failed
  files_failed (plan.no_room calm) six = absurd (omega (arith, six))
  files_failed (plan.judged calm hold faults) six = absurd (never faults six)
    where
      never : {s a : List ℕ} {n : ℕ} {text : List ℕ} → Faults s a n text → n ≡ 6 → ⊥
      never (plan.of_agents is) e = omega (arith, e)
      never (plan.too_long site long) e = omega (arith, e)
      never (plan.of_script site fits first) e = omega (arith, e)
      never plan.no_memory e = omega (arith, e)

  faults_unbegun : {s a : List ℕ} {n : ℕ} {text : List ℕ} → Faults s a n text → (n ≡ 4) ⊎ (n ≡ 13) ⊎ (n ≡ 8) ⊎ ((n ≡ 6) × (HasFailed c.script ⊎ HasFailed c.agents))
  faults_unbegun (plan.of_agents is) = inr (inl refl)
  faults_unbegun (plan.too_long site long) = inl refl
  faults_unbegun (plan.of_script site fits first) = inl refl
  faults_unbegun plan.no_memory = inr (inr (inl refl))

  pub files_unbegun : {n : ℕ} {text : List ℕ} → RefusesFiles c.script c.agents n text → (n ≡ 4) ⊎ (n ≡ 13) ⊎ (n ≡ 8) ⊎ ((n ≡ 6) × (HasFailed c.script ⊎ HasFailed c.agents))
  files_unbegun (plan.unread failed) = inr (inr (inr (refl, failed)))
  files_unbegun (plan.no_room calm) = inr (inr (inl refl))
  files_unbegun (plan.judged calm hold faults) = faults_unbegun faults

  pub files_other : {n : ℕ} {text : List ℕ} → RefusesFiles c.script c.agents n text → (¬ (n ≡ 5)) × (¬ (n ≡ 7)) × (¬ (n ≡ 9)) × (¬ (n ≡ 2))
  files_other (plan.unread failed) = (λ e. omega (arith, e), λ e. omega (arith, e), λ e. omega (arith, e), λ e. omega (arith, e))
  files_other (plan.no_room calm) = (λ e. omega (arith, e), λ e. omega (arith, e), λ e. omega (arith, e), λ e. omega (arith, e))
  files_other (plan.judged calm hold faults) = other faults
    where
      other : {s a : List ℕ} {n : ℕ} {text : List ℕ} → Faults s a n text → (¬ (n ≡ 5)) × (¬ (n ≡ 7)) × (¬ (n ≡ 9)) × (¬ (n ≡ 2))
      other (plan.of_agents is) = (λ e. omega (arith, e), λ e. omega (arith, e), λ e. omega (arith, e), λ e. omega (arith, e))
      other (plan.too_long site long) = (λ e. omega (arith, e), λ e. omega (arith, e), λ e. omega (arith, e), λ e. omega (arith, e))
      other (plan.of_script site fits first) = (λ e. omega (arith, e), λ e. omega (arith, e), λ e. omega (arith, e), λ e. omega (arith, e))
      other plan.no_memory = (λ e. omega (arith, e), λ e. omega (arith, e), λ e. omega (arith, e), λ e. omega (arith, e))

-- what the counts tell of a build that went on
module _ {a b x y d e : ℕ} {old new : Option (List ℕ)} where
  pub reports_untold : {n : ℕ} → Reports a b x y old new d e n → TellsFault n → ⊥
  reports_untold {n = n} (report.rested quiet log writes) is = run_untold n (written_run log writes) is
  reports_untold (report.answers_failed calm rose tells) is = untold 6 6 refl (λ e. omega (arith, e)) (λ e. omega (arith, e)) is
  reports_untold (report.disk_failed rose tells) is = untold 5 5 refl (λ e. omega (arith, e)) (λ e. omega (arith, e)) is
  reports_untold (report.full len add long quiet tells) is = untold 14 14 refl (λ e. omega (arith, e)) (λ e. omega (arith, e)) is
  reports_untold (report.no_memory quiet tells) is = untold 8 8 refl (λ e. omega (arith, e)) (λ e. omega (arith, e)) is

  pub reports_answers : {n : ℕ} → Reports a b x y old new d e n → n ≡ 6 → Rose x y
  reports_answers {n = n} (report.rested quiet log writes) six = absurd (unrun 6 n six refl (written_run log writes))
  reports_answers (report.answers_failed calm rose tells) six = rose
  reports_answers (report.disk_failed rose tells) six = absurd (omega (arith, six))
  reports_answers (report.full len add long quiet tells) six = absurd (omega (arith, six))
  reports_answers (report.no_memory quiet tells) six = absurd (omega (arith, six))

  pub reports_disk : {n : ℕ} → Reports a b x y old new d e n → n ≡ 5 → Rose a b
  reports_disk {n = n} (report.rested quiet log writes) five = absurd (unrun 5 n five refl (written_run log writes))
  reports_disk (report.answers_failed calm rose tells) five = absurd (omega (arith, five))
  reports_disk (report.disk_failed rose tells) five = rose
  reports_disk (report.full len add long quiet tells) five = absurd (omega (arith, five))
  reports_disk (report.no_memory quiet tells) five = absurd (omega (arith, five))

  pub reports_sink : {n : ℕ} → Reports a b x y old new d e n → n ≡ 7 → Rose d e
  reports_sink {n = n} (report.rested {ended = m} quiet log writes) seven = ⊎_elim (λ is. absurd (seven_no_log m (sym is ∙ seven) log)) (λ failed. failed.1) (written writes)
  reports_sink (report.answers_failed calm rose tells) seven = absurd (omega (arith, seven))
  reports_sink (report.disk_failed rose tells) seven = absurd (omega (arith, seven))
  reports_sink (report.full len add long quiet tells) seven = absurd (omega (arith, seven))
  reports_sink (report.no_memory quiet tells) seven = absurd (omega (arith, seven))

  pub reports_build : {n : ℕ} → Reports a b x y old new d e n → n ≡ 9 → ⊥
  reports_build {n = n} (report.rested quiet log writes) nine = unrun 9 n nine refl (written_run log writes)
  reports_build (report.answers_failed calm rose tells) nine = omega (arith, nine)
  reports_build (report.disk_failed rose tells) nine = omega (arith, nine)
  reports_build (report.full len add long quiet tells) nine = omega (arith, nine)
  reports_build (report.no_memory quiet tells) nine = omega (arith, nine)

  pub reports_usage : {n : ℕ} → Reports a b x y old new d e n → n ≡ 2 → ⊥
  reports_usage {n = n} (report.rested quiet log writes) two = unrun 2 n two refl (written_run log writes)
  reports_usage (report.answers_failed calm rose tells) two = omega (arith, two)
  reports_usage (report.disk_failed rose tells) two = omega (arith, two)
  reports_usage (report.full len add long quiet tells) two = omega (arith, two)
  reports_usage (report.no_memory quiet tells) two = omega (arith, two)

-- where a log was shown the disk counted no fault
pub reports_calm : {a b x y d e : ℕ} {old new : Option (List ℕ)} {n : ℕ} → Reports a b x y old new d e n → HasRun n → b ≡ a
reports_calm (report.rested quiet log writes) run = quiet
reports_calm (report.answers_failed calm rose tells) run = calm
reports_calm (report.disk_failed rose tells) run = absurd (unrun 5 5 refl refl run)
reports_calm (report.full len add long quiet tells) run = absurd (unrun 14 14 refl refl run)
reports_calm (report.no_memory quiet tells) run = absurd (unrun 8 8 refl refl run)

-- where no device counted a fault, it has worked
pub reports_worked : {a b x y d e : ℕ} {old new : Option (List ℕ)} {n : ℕ} → Reports a b x y old new d e n → ¬ (Rose a b) → ¬ (Rose x y) → ¬ (Rose d e) → HasWorked n
reports_worked (report.rested quiet log writes) disk answers sink = ⊎_elim (λ is. inl (subst HasLog (sym is) log)) (λ failed. absurd (sink failed.1)) (written writes)
reports_worked (report.answers_failed calm rose tells) disk answers sink = absurd (answers rose)
reports_worked (report.disk_failed rose tells) disk answers sink = absurd (disk rose)
reports_worked (report.full len add long quiet tells) disk answers sink = inr (inr refl)
reports_worked (report.no_memory quiet tells) disk answers sink = inr (inl refl)

-- the status of a build that was not begun
begin_untold : {f : BeginFault} {n : ℕ} {text : List ℕ} → BeginSays f n text → TellsFault n → ⊥
begin_untold begin.has_build is = untold 9 9 refl (λ e. omega (arith, e)) (λ e. omega (arith, e)) is
begin_untold begin.disk_failed is = untold 5 5 refl (λ e. omega (arith, e)) (λ e. omega (arith, e)) is
begin_untold (begin.full len add) is = untold 14 14 refl (λ e. omega (arith, e)) (λ e. omega (arith, e)) is
begin_untold (begin.no_memory other) is = untold 8 8 refl (λ e. omega (arith, e)) (λ e. omega (arith, e)) is

begin_other : {f : BeginFault} {n : ℕ} {text : List ℕ} → BeginSays f n text → (¬ (n ≡ 6)) × (¬ (n ≡ 7)) × (¬ (n ≡ 2))
begin_other begin.has_build = (λ e. omega (arith, e), λ e. omega (arith, e), λ e. omega (arith, e))
begin_other begin.disk_failed = (λ e. omega (arith, e), λ e. omega (arith, e), λ e. omega (arith, e))
begin_other (begin.full len add) = (λ e. omega (arith, e), λ e. omega (arith, e), λ e. omega (arith, e))
begin_other (begin.no_memory other) = (λ e. omega (arith, e), λ e. omega (arith, e), λ e. omega (arith, e))

begin_nine : {f : BeginFault} {n : ℕ} {text : List ℕ} → BeginSays f n text → n ≡ 9 → f ≡ fault.HasBuild
begin_nine begin.has_build nine = refl
begin_nine begin.disk_failed nine = absurd (omega (arith, nine))
begin_nine (begin.full len add) nine = absurd (omega (arith, nine))
begin_nine (begin.no_memory other) nine = absurd (omega (arith, nine))

begin_text : {f : BeginFault} {n : ℕ} {text : List ℕ} → BeginSays f n text → n ≡ 9 → text ≡ has_build_text
begin_text begin.has_build nine = refl
begin_text begin.disk_failed nine = absurd (omega (arith, nine))
begin_text (begin.full len add) nine = absurd (omega (arith, nine))
begin_text (begin.no_memory other) nine = absurd (omega (arith, nine))

begin_five : {f : BeginFault} {n : ℕ} {text : List ℕ} → BeginSays f n text → n ≡ 5 → f ≡ fault.Take take.Disk
begin_five begin.has_build five = absurd (omega (arith, five))
begin_five begin.disk_failed five = refl
begin_five (begin.full len add) five = absurd (omega (arith, five))
begin_five (begin.no_memory other) five = absurd (omega (arith, five))

pub begin_disk : {f : BeginFault} {n : ℕ} {text : List ℕ} → BeginSays f n text → f ≡ fault.Take take.Disk → n ≡ 5
begin_disk begin.has_build is = absurd (cc)
begin_disk begin.disk_failed is = refl
begin_disk (begin.full len add) is = absurd (cc)
begin_disk (begin.no_memory {fault = f} other) is = absurd (other (same_fault f is))
  where
    same_fault : (f : TakeFault) → fault.Take f ≡ fault.Take take.Disk → f ≡ take.Disk
    same_fault f is = cc

-- a build that was not begun shows no log
begin_unrun : {f : BeginFault} {n : ℕ} {text : List ℕ} → BeginSays f n text → HasRun n → ⊥
begin_unrun begin.has_build run = unrun 9 9 refl refl run
begin_unrun begin.disk_failed run = unrun 5 5 refl refl run
begin_unrun (begin.full len add) run = unrun 14 14 refl refl run
begin_unrun (begin.no_memory other) run = unrun 8 8 refl refl run

-- a store without an event has no record
no_record : (records : List EventRecord) (payloads : List (List ℕ)) → events_of records ≡ [] → Told None records payloads → payloads ≡ []
no_record [] [] none spelled = refl
no_record [] (p ∷ ps) none spelled = absurd spelled
no_record (r ∷ rs) payloads none spelled = absurd (cc)

has_none : (setting : Setting) (image : List ℕ) → Stores setting [] image → Has [] image
has_none setting image stores = subst (λ (ps : List (List ℕ)). Has ps image) (no_record stores.told.records stores.payloads stores.told.are stores.told.spelled) stores.has

-- only a fault of the disk leaves the refused event open
risked_only : (f : TakeFault) (start : Event) (risked : Option Event) → MayRisk f (Some start) risked → ((f ≡ take.Disk) × (risked ≡ Some start)) ⊎ (risked ≡ None)
risked_only take.Disk start risked is = inl (refl, is)
risked_only take.Memory start risked is = inr is
risked_only (take.Full len add) start risked is = inr is
risked_only take.Stopped start risked is = inr is

module _ {D H A T : Type 0} (v : Devices D H A) (stance : T → Stance) (laws : DiskLaws v.disk) (kind : EndText) (c : Call D H A) where
  abbrev RunsSo : ℕ → Type 0
  RunsSo n = RunsBy v stance kind c n

  abbrev FinishedBy : (s a : List ℕ) → Tree → Site → D → ℕ → Type 0
  FinishedBy s a tree site started n = FinishedIn v c kind (script_setting tree site) started (StartEvent s a ∷ []) n

  abbrev OverSo : (s a : List ℕ) → Tree → Site → List ℕ → D → Type 0
  OverSo s a tree site file started =
      BeginsOver v.disk stance v.host v.source c.disk c.now c.hosts c.hosts_now c.answers c.answers_now c.history
      kind c.old c.new c.sink_before c.sink_after s a tree site file started

  -- a call that left the disk as it was
  pub stays_here : c.now ≡ c.disk → Stays v c
  stays_here same = subst (λ (d : D). AtEachMoment v.disk c.disk d (v.disk.may_leave c.disk)) (sym same) (starts v.disk c.disk (v.disk.may_leave c.disk) (λ image left. laws.only_now c.disk image left))

  -- OUTPUT
  delivered : (s a : List ℕ) (tree : Tree) (site : Site) → Builds s a tree site → (started : D) → v.disk.faults started ≡ v.disk.faults c.disk → HasRun c.status → FinishedBy s a tree site started c.status → DeliversRun v kind c s a
  delivered s a tree site builds started same run finishes =
      let d = finish_delivers v laws kind (script_setting tree site) started (StartEvent s a ∷ []) c same finishes run in
      record { setting = script_setting tree site; mean = mean_of builds; more = d.0; delivers = d.1 }

  outputs : {n : ℕ} → RunsSo n → n ≡ c.status → HasRun n → IsAtEnd c.script.rest × IsAtEnd c.agents.rest × WithFiles c (λ script agents. ∥ DeliversRun v kind c script agents ∥₁)
  outputs (begin.refused refused same unled tells) is run = absurd (says_unrun (files_say refused) run)
  outputs (begin.built give (begin.unbegun unled says counts sizes refuses tells)) is run = absurd (begin_unrun says run)
  outputs (begin.built {s = s} {a = a} {tree = tree} {site = site} give (begin.begun started same stay launched reports finishes over)) is run =
      let here = subst (λ (m : ℕ). ∥ FinishedBy s a tree site started m ∥₁) is finishes in
      (give.script_ends, give.agents_end, (s, a, give.hold, ∥∥₁_map here (delivered s a tree site give.builds started same (subst HasRun is run))))

  pub run_outputs : RunsSo c.status → HasRun c.status → IsAtEnd c.script.rest × IsAtEnd c.agents.rest × WithFiles c (λ script agents. ∥ DeliversRun v kind c script agents ∥₁)
  run_outputs runs run = outputs runs refl run

  pub run_says : {n : ℕ} → RunsSo n → HasRun n ⊎ ((text : List ℕ) × Says n text × Tells text c)
  run_says (begin.refused {text = text} refused same unled tells) = inr (text, files_say refused, tells)
  run_says (begin.built {s = s} {a = a} {tree = tree} {site = site} give (begin.unbegun {text = text} unled says counts sizes refuses tells)) = inr (text, begin_says (script_setting tree site) (StartEvent s a) says sizes, tells)
  run_says (begin.built give (begin.begun started same stay launched reports finishes over)) = reports_say reports

  -- CRASH
  module _ (s a : List ℕ) (tree : Tree) (site : Site) (builds : Builds s a tree site) where
    start_starts : (risked : Option Event) (f : TakeFault) → MayRisk f (Some (StartEvent s a)) risked → IfSome risked (λ e. e ≡ StartEvent s a)
    start_starts None f is = tt
    start_starts (Some e) f is = ⊎_elim (λ disk. same_event disk.1) (λ none. absurd (let bad : Some e ≡ None = none in cc)) (risked_only f (StartEvent s a) (Some e) is)
      where
        same_event : Some e ≡ Some (StartEvent s a) → e ≡ StartEvent s a
        same_event eq = cc

    -- a `Start` whose take failed
    start_lasts : (file : List ℕ) (f : TakeFault) → (HasRun c.status → ⊥) → CountsFault (v.disk.faults c.disk) (v.disk.faults c.now) (fault.Take f ≡ fault.Take take.Disk)
        → StartFails v.disk stance (script_setting tree site) (StartEvent s a) file c.disk c.now f → LastsRun v kind c file s a
    start_lasts file f unrun counts fails = record {
      setting = script_setting tree site;
      mean = mean_of builds;
      taken = [];
      risked = fails.risked;
      lasts = record {
        origin = fails.moments.synced;
        up_to = fails.moments.up_to;
        from_then = fails.moments.from_then;
        at_end = λ image left. kept_then image (fails.moments.from_then.each image (laws.counts_now c.now (v.disk.clock fails.moments.synced) image fails.moments.from_then.later left));
        sure = λ calm. ⊎_elim (λ disk. absurd (calm (counts.failed (ap (λ (x : TakeFault). fault.Take x) disk.0)))) (λ none. none) (risked_only f (StartEvent s a) fails.risked fails.may_risk);
        shown = λ run. absurd (unrun run);
      };
      synced = fails.moments.durable;
      starts = inr (refl, start_starts fails.risked f fails.may_risk);
    }
      where
        kept_then : (image : List ℕ) → Survives (script_setting tree site) [] [] fails.risked image
            → Stores (script_setting tree site) [] image ⊎ IsSomeAnd fails.risked (λ e. Stores (script_setting tree site) ([] ++ e ∷ []) image)
        kept_then image survives = ⊎_elim (λ front. inl (subst (λ (es : List Event). Stores (script_setting tree site) es image) (nothing_front survives.kept front.0 front.1) survives.stores))
            (λ all. inr (some_and fails.risked (λ e. survives.kept ≡ [] ++ e ∷ []) (λ e. Stores (script_setting tree site) ([] ++ e ∷ []) image) (λ e is. subst (λ (es : List Event). Stores (script_setting tree site) es image) is survives.stores) all))
            survives.front.within

    abbrev Leaves : List ℕ → Type 0
    Leaves file = Stays v c ⊎ (SinceSync v.disk file c.disk c.now (λ image. records image ≡ records file) ⊎ (¬ (IsStarted file) × LastsRun v kind c file s a))

    failed_leaves : (file : List ℕ) (f : TakeFault) → (HasRun c.status → ⊥) → CountsFault (v.disk.faults c.disk) (v.disk.faults c.now) (fault.Take f ≡ fault.Take take.Disk)
        → StartFails v.disk stance (script_setting tree site) (StartEvent s a) file c.disk c.now f → Leaves file
    failed_leaves file f unrun counts fails = inr (inr (fails.fresh, start_lasts file f unrun counts fails))

    unbegun_leaves : (file : List ℕ) (f : BeginFault) → (HasRun c.status → ⊥) → CountsFault (v.disk.faults c.disk) (v.disk.faults c.now) (f ≡ fault.Take take.Disk)
        → BeginRefuses v.disk stance (script_setting tree site) (StartEvent s a) file c.disk f c.now → Leaves file
    unbegun_leaves file fault.HasBuild unrun counts refuses = inr (inl refuses.3)
    unbegun_leaves file (fault.Take (take.Full len add)) unrun counts refuses = failed_leaves file (take.Full len add) unrun counts refuses.1
    unbegun_leaves file (fault.Take take.Memory) unrun counts refuses = ⊎_elim (λ stays. inl stays) (⊎_elim (λ keeps. inr (inl keeps)) (λ fails. failed_leaves file take.Memory unrun counts fails)) refuses.1
    unbegun_leaves file (fault.Take take.Disk) unrun counts refuses = ⊎_elim (λ stays. inl stays) (⊎_elim (λ keeps. inr (inl keeps)) (λ fails. failed_leaves file take.Disk unrun counts fails)) refuses.1
    unbegun_leaves file (fault.Take take.Stopped) unrun counts refuses = ⊎_elim (λ stays. inl stays) (⊎_elim (λ keeps. inr (inl keeps)) (λ fails. failed_leaves file take.Stopped unrun counts fails)) refuses.1

    -- a build that was begun and went on
    begun_lasts : (file : List ℕ) (started : D) → v.disk.reads c.disk ≡ Some file → v.disk.faults started ≡ v.disk.faults c.disk → FinishedBy s a tree site started c.status → OverSo s a tree site file started → LastsRun v kind c file s a
    begun_lasts file started told same finishes over =
        let setting : Setting = script_setting tree site in
        let start : List Event = StartEvent s a ∷ [] in
        let g = gone v laws kind setting started start c same finishes in
        let known : IsSome (v.disk.reads c.disk) = ap is_some told in
        record {
          setting = setting;
          mean = mean_of builds;
          taken = g.taken;
          risked = g.risked;
          lasts = record {
            origin = over.moments.synced;
            up_to = over.moments.up_to;
            from_then = runs_on v.disk over.moments.synced started c.now (Survives setting [] g.taken g.risked)
                (at_each_weaker v.disk over.moments.synced started (Survives setting [] start None) (Survives setting [] g.taken g.risked) (λ image survives. grown setting g.taken g.more g.risked image g.is survives) over.moments.from_then)
                (at_each_weaker v.disk started c.now (Survives setting start g.taken g.risked) (Survives setting [] g.taken g.risked) (λ image survives. from_none setting g.taken g.risked image survives) (g.moments known));
            at_end = g.images known;
            sure = g.sure;
            shown = g.shown;
          };
          synced = over.moments.durable;
          starts = inl (record { takes = g.takes; next = g.next });
        }
      where
        grown : (setting : Setting) (taken more : List Event) (risked : Option Event) (image : List ℕ) → taken ≡ (StartEvent s a ∷ []) ++ more → Survives setting [] (StartEvent s a ∷ []) None image → Survives setting [] taken risked image
        grown setting taken more risked image is survives = record {
          kept = survives.kept;
          front = record { begins = survives.front.begins; within = inl (only survives.front.within) };
          stores = survives.stores;
        }
          where
            only : ((rest : List Event) × (StartEvent s a ∷ [] ≡ survives.kept ++ rest)) ⊎ IsSomeAnd {T = Event} None (λ e. survives.kept ≡ (StartEvent s a ∷ []) ++ e ∷ []) → (rest : List Event) × (taken ≡ survives.kept ++ rest)
            only (inl rest) = (rest.0 ++ more, is ∙ ap (λ (es : List Event). es ++ more) rest.1 ∙ append_assoc survives.kept rest.0 more)
            only (inr none) = absurd none

        from_none : (setting : Setting) (taken : List Event) (risked : Option Event) (image : List ℕ) → Survives setting (StartEvent s a ∷ []) taken risked image → Survives setting [] taken risked image
        from_none setting taken risked image survives = record {
          kept = survives.kept;
          front = record { begins = (survives.kept, refl); within = survives.front.within };
          stores = survives.stores;
        }

  abbrev CrashesSo : List ℕ → Type 0
  CrashesSo file = Stays v c
      ⊎ (SinceSync v.disk file c.disk c.now (λ image. records image ≡ records file) ⊎ (¬ (IsStarted file) × WithFiles c (λ script agents. ∥ LastsRun v kind c file script agents ∥₁)))

  leaves_files : (file : List ℕ) (s a : List ℕ) (tree : Tree) (site : Site) (builds : Builds s a tree site) → Hold c.script c.agents s a → Leaves s a tree site builds file → CrashesSo file
  leaves_files file s a tree site builds hold (inl stays) = inl stays
  leaves_files file s a tree site builds hold (inr (inl keeps)) = inr (inl keeps)
  leaves_files file s a tree site builds hold (inr (inr lasts)) = inr (inr (lasts.0, (s, a, hold, ∣ lasts.1 ∣₁)))

  crashes : {n : ℕ} → RunsSo n → n ≡ c.status → (file : List ℕ) → v.disk.reads c.disk ≡ Some file → CrashesSo file
  crashes (begin.refused refused same unled tells) is file told = inl (stays_here same)
  crashes (begin.built {s = s} {a = a} {tree = tree} {site = site} give (begin.unbegun {fault = f} unled says counts sizes refuses tells)) is file told =
      leaves_files file s a tree site give.builds give.hold (unbegun_leaves s a tree site give.builds file f (λ run. begin_unrun says (subst HasRun (sym is) run)) counts (refuses file told))
  crashes (begin.built {s = s} {a = a} {tree = tree} {site = site} give (begin.begun started same stay launched reports finishes over)) is file told =
      let here = subst (λ (m : ℕ). ∥ FinishedBy s a tree site started m ∥₁) is finishes in
      inr (inr ((over file told).fresh, (s, a, give.hold, ∥∥₁_map here (λ f. begun_lasts s a tree site give.builds file started told same f (over file told)))))

  pub run_crashes : RunsSo c.status → (file : List ℕ) → v.disk.reads c.disk ≡ Some file → CrashesSo file
  run_crashes runs file told = crashes runs refl file told

  -- FIRST FAULT
  judges_told : {n : ℕ} → RunsSo n → TellsFault n → AreCalm c.script c.agents × WithFiles c (λ script agents. (text : List ℕ) × Faults script agents n text × Tells text c)
  judges_told (begin.refused refused same unled tells) is = files_told c refused tells is
  judges_told (begin.built give (begin.unbegun unled says counts sizes refuses tells)) is = absurd (begin_untold says is)
  judges_told (begin.built give (begin.begun started same stay launched reports finishes over)) is = absurd (reports_untold reports is)

  judges_tell : {n : ℕ} → RunsSo n → AreRead c → OfFiles c.script c.agents (λ script agents. HasFault agents ⊎ IsRefused script → TellsFault n ⊎ (n ≡ 8))
  judges_tell (begin.refused refused same unled tells) read = λ script agents at_s at_a faulty. files_tell c refused read
  judges_tell {n = n} (begin.built {s = s} {a = a} give begins) read =
      of_files c.script c.agents s a (λ script agents. HasFault agents ⊎ IsRefused script → TellsFault n ⊎ (n ≡ 8)) give.hold
      (λ faulty. absurd (⊎_elim (λ of_agents. site_no_fault a (built_site give.builds) of_agents) (λ of_script. built_not_refused give.builds of_script) faulty))

  judges_untouched : {n : ℕ} → RunsSo n → TellsFault n → c.now ≡ c.disk
  judges_untouched (begin.refused refused same unled tells) is = same
  judges_untouched (begin.built give (begin.unbegun unled says counts sizes refuses tells)) is = absurd (begin_untold says is)
  judges_untouched (begin.built give (begin.begun started same stay launched reports finishes over)) is = absurd (reports_untold reports is)

  pub run_judges : RunsSo c.status → JudgesFiles c
  run_judges runs = record { told = judges_told runs; tells = judges_tell runs; untouched = judges_untouched runs }

  -- CAUSES
  sources : {n : ℕ} → RunsSo n → n ≡ 6 → HasFailed c.script ⊎ HasFailed c.agents ⊎ HasFailed (answered v c)
  sources (begin.refused refused same unled tells) six = ⊎_elim (λ script. inl script) (λ agents. inr (inl agents)) (files_failed c refused six)
  sources (begin.built give (begin.unbegun unled says counts sizes refuses tells)) six = absurd ((begin_other says).0 six)
  sources (begin.built give (begin.begun started same stay launched reports finishes over)) six = inr (inr (reports_answers reports six))

  disks : {n : ℕ} → RunsSo n → n ≡ 5 → Rose (v.disk.faults c.disk) (v.disk.faults c.now)
  disks (begin.refused refused same unled tells) five = absurd ((files_other c refused).0 five)
  disks (begin.built give (begin.unbegun unled says counts sizes refuses tells)) five = counts.failed (begin_five says five)
  disks (begin.built give (begin.begun started same stay launched reports finishes over)) five = reports_disk reports five

  sinks : {n : ℕ} → RunsSo n → n ≡ 7 → Rose c.sink_before c.sink_after
  sinks (begin.refused refused same unled tells) seven = absurd ((files_other c refused).1 seven)
  sinks (begin.built give (begin.unbegun unled says counts sizes refuses tells)) seven = absurd ((begin_other says).1 seven)
  sinks (begin.built give (begin.begun started same stay launched reports finishes over)) seven = reports_sink reports seven

  started_by : (setting : Setting) (start : Event) (file : List ℕ) (f : BeginFault) → f ≡ fault.HasBuild → BeginRefuses v.disk stance setting start file c.disk f c.now → IsStarted file × (v.disk.reads c.now ≡ Some file) × IsOnlyImage file (v.disk.may_leave c.now)
  started_by setting start file fault.HasBuild is refuses = (refuses.0, refuses.1, refuses.2)
  started_by setting start file (fault.Take f) is refuses = absurd (cc)

  builds_found : {n : ℕ} → RunsSo n → n ≡ 9 → Tells has_build_text c × ((file : List ℕ) → v.disk.reads c.disk ≡ Some file → IsStarted file × (v.disk.reads c.now ≡ Some file) × IsOnlyImage file (v.disk.may_leave c.now))
  builds_found (begin.refused refused same unled tells) nine = absurd ((files_other c refused).2 nine)
  builds_found (begin.built {s = s} {a = a} {tree = tree} {site = site} give (begin.unbegun {fault = f} unled says counts sizes refuses tells)) nine =
      (subst (λ (text : List ℕ). Tells text c) (begin_text says nine) tells, λ file told. started_by (script_setting tree site) (StartEvent s a) file f (begin_nine says nine) (refuses file told))
  builds_found (begin.built give (begin.begun started same stay launched reports finishes over)) nine = absurd (reports_build reports nine)

  -- where no device failed
  unbegun_finds : {n : ℕ} {text : List ℕ} {f : BeginFault} (setting : Setting) (start : Event) (file : List ℕ) → BeginSays f n text
      → BeginRefuses v.disk stance setting start file c.disk f c.now → IsStarted file → (n ≡ 9) ⊎ (n ≡ 8) ⊎ (n ≡ 5)
  unbegun_finds setting start file begin.has_build refuses is = inl refl
  unbegun_finds setting start file begin.disk_failed refuses is = inr (inr refl)
  unbegun_finds setting start file (begin.full len add) refuses is = absurd (refuses.1.fresh is)
  unbegun_finds setting start file (begin.no_memory other) refuses is = inr (inl refl)

  finds : {n : ℕ} → RunsSo n → AreRead c → (file : List ℕ) → v.disk.reads c.disk ≡ Some file → IsStarted file → OfFiles c.script c.agents (λ script agents. HasSite agents → ¬ (IsRefused script) → (n ≡ 9) ⊎ (n ≡ 8) ⊎ (n ≡ 5))
  finds (begin.refused refused same unled tells) read file told is = λ script agents at_s at_a site sound. inr (inl (files_want c refused read script agents at_s at_a site sound))
  finds (begin.built {s = s} {a = a} {tree = tree} {site = site} give (begin.unbegun unled says counts sizes refuses tells)) read file told is =
      λ script agents at_s at_a has sound. unbegun_finds (script_setting tree site) (StartEvent s a) file says (refuses file told) is
  finds (begin.built give (begin.begun started same stay launched reports finishes over)) read file told is = absurd ((over file told).fresh is)

  unbegun_works : {n : ℕ} {text : List ℕ} {f : BeginFault} (setting : Setting) (start : Event) (file : List ℕ) → BeginSays f n text → CountsFault (v.disk.faults c.disk) (v.disk.faults c.now) (f ≡ fault.Take take.Disk)
      → BeginRefuses v.disk stance setting start file c.disk f c.now → ¬ (Rose (v.disk.faults c.disk) (v.disk.faults c.now)) → ¬ (IsStarted file) → HasWorked n
  unbegun_works setting start file begin.has_build counts refuses calm fresh = absurd (fresh refuses.0)
  unbegun_works setting start file begin.disk_failed counts refuses calm fresh = absurd (calm (counts.failed refl))
  unbegun_works setting start file (begin.full len add) counts refuses calm fresh = inr (inr refl)
  unbegun_works setting start file (begin.no_memory other) counts refuses calm fresh = inr (inl refl)

  works : {n : ℕ} → RunsSo n → n ≡ c.status → AllCalm v c → (file : List ℕ) → v.disk.reads c.disk ≡ Some file → ¬ (IsStarted file) → OfFiles c.script c.agents (λ script agents. HasSite agents → ¬ (IsRefused script) → HasWorked n)
  works (begin.refused refused same unled tells) is calm file told fresh = λ script agents at_s at_a site sound. inr (inl (files_want c refused calm.files script agents at_s at_a site sound))
  works (begin.built {s = s} {a = a} {tree = tree} {site = site} give (begin.unbegun unled says counts sizes refuses tells)) is calm file told fresh =
      λ script agents at_s at_a has sound. unbegun_works (script_setting tree site) (StartEvent s a) file says counts (refuses file told) calm.disk fresh
  works (begin.built {s = s} {a = a} {tree = tree} {site = site} give (begin.begun started same stay launched reports finishes over)) is calm file told fresh =
      λ script agents at_s at_a has sound. reports_worked reports calm.disk calm.answers calm.sink

  -- why no build was begun
  module _ (s a : List ℕ) (tree : Tree) (site : Site) (builds : Builds s a tree site) where
    full_at_once : (len add : ℕ) → TellsStart (script_setting tree site) (StartEvent s a) (fault.Take (take.Full len add)) → Tells (full_text len add) c → IsFullAtOnce v s a c
    full_at_once len add sizes tells =
        let start : Event = StartEvent s a in
        let adds = start_adds (weights_of []) start (image_after (script_setting tree site) (start ∷ [])) add sizes.2 in
        let all : (2 ^ 30 < 1 + add) × Tells (full_text 1 add) c = subst (λ (l : ℕ). (2 ^ 30 < l + add) × Tells (full_text l add) c) sizes.0 (sizes.1, tells) in
        record {
          setting = script_setting tree site;
          mean = mean_of builds;
          too_long = subst (λ (m : ℕ). 2 ^ 30 < 1 + m) adds all.0;
          told = subst (λ (m : ℕ). Tells (full_text 1 m) c) adds all.1;
        }

    unbegun_why : {n : ℕ} {text : List ℕ} {f : BeginFault} → n ≡ c.status → BeginSays f n text → TellsStart (script_setting tree site) (StartEvent s a) f → Tells text c
        → (c.status ≡ 9) ⊎ (c.status ≡ 5) ⊎ (c.status ≡ 8) ⊎ ((c.status ≡ 14) × IsFullAtOnce v s a c)
    unbegun_why is begin.has_build sizes tells = inl (sym is)
    unbegun_why is begin.disk_failed sizes tells = inr (inl (sym is))
    unbegun_why is (begin.full len add) sizes tells = inr (inr (inr (sym is, full_at_once len add sizes tells)))
    unbegun_why is (begin.no_memory other) sizes tells = inr (inr (inl (sym is)))

    abbrev UntakenSo : List ℕ → List ℕ → Type 0
    UntakenSo file image =
        v.disk.may_leave c.disk image ⊎ (records image ≡ records file) ⊎ ((c.status ≡ 5) × Has [] file × (setting : Setting) × Mean s a setting × Stores setting (StartEvent s a ∷ []) image)

    -- a `Start` whose take failed: the file has no record, and neither has what a crash leaves, but for that `Start`
    failed_image : (file : List ℕ) (f : TakeFault) (image : List ℕ) → (f ≡ take.Disk → c.status ≡ 5) → StartFails v.disk stance (script_setting tree site) (StartEvent s a) file c.disk c.now f → v.disk.may_leave c.now image → UntakenSo file image
    failed_image file f image five fails left =
        let survives = fails.moments.from_then.each image (laws.counts_now c.now (v.disk.clock fails.moments.synced) image fails.moments.from_then.later left) in
        ⊎_elim (λ front. inr (inl (has_none (script_setting tree site) image (subst (λ (es : List Event). Stores (script_setting tree site) es image) (nothing_front survives.kept front.0 front.1) survives.stores) ∙ sym fails.none)))
        (λ all. with_start survives.kept survives.stores all (risked_only f (StartEvent s a) fails.risked fails.may_risk)) survives.front.within
      where
        with_start : (kept : List Event) → Stores (script_setting tree site) kept image → IsSomeAnd fails.risked (λ e. kept ≡ [] ++ e ∷ []) → ((f ≡ take.Disk) × (fails.risked ≡ Some (StartEvent s a))) ⊎ (fails.risked ≡ None) → UntakenSo file image
        with_start kept stores all (inl disk) =
            let is : kept ≡ StartEvent s a ∷ [] = subst (λ (o : Option Event). IsSomeAnd o (λ e. kept ≡ [] ++ e ∷ [])) disk.1 all in
            inr (inr (five disk.0, fails.none, script_setting tree site, mean_of builds, subst (λ (es : List Event). Stores (script_setting tree site) es image) is stores))
        with_start kept stores all (inr none) = absurd (subst (λ (o : Option Event). IsSomeAnd o (λ e. kept ≡ [] ++ e ∷ [])) none all)

    either_image : (file : List ℕ) (f : TakeFault) (image : List ℕ) → (f ≡ take.Disk → c.status ≡ 5)
        → AtEachMoment v.disk c.disk c.now (v.disk.may_leave c.disk) ⊎ (SinceSync v.disk file c.disk c.now (λ image. records image ≡ records file) ⊎ StartFails v.disk stance (script_setting tree site) (StartEvent s a) file c.disk c.now f)
        → v.disk.may_leave c.now image → UntakenSo file image
    either_image file f image five why left =
        ⊎_elim (λ stays. inl (stays.each image (laws.counts_now c.now (v.disk.clock c.disk) image stays.later left)))
        (⊎_elim (λ keeps. inr (inl (keeps.from_then.each image (laws.counts_now c.now (v.disk.clock keeps.synced) image keeps.from_then.later left)))) (λ fails. failed_image file f image five fails left)) why

    pub unbegun_image : (file : List ℕ) (f : BeginFault) (image : List ℕ) → (f ≡ fault.Take take.Disk → c.status ≡ 5) → BeginRefuses v.disk stance (script_setting tree site) (StartEvent s a) file c.disk f c.now → v.disk.may_leave c.now image → UntakenSo file image
    unbegun_image file fault.HasBuild image five refuses left =
        let keeps = refuses.3 in
        inr (inl (keeps.from_then.each image (laws.counts_now c.now (v.disk.clock keeps.synced) image keeps.from_then.later left)))
    unbegun_image file (fault.Take (take.Full len add)) image five refuses left = failed_image file (take.Full len add) image (λ e. five (ap (λ (x : TakeFault). fault.Take x) e)) refuses.1 left
    unbegun_image file (fault.Take take.Memory) image five refuses left = either_image file take.Memory image (λ e. five (ap (λ (x : TakeFault). fault.Take x) e)) refuses.1 left
    unbegun_image file (fault.Take take.Disk) image five refuses left = either_image file take.Disk image (λ e. five (ap (λ (x : TakeFault). fault.Take x) e)) refuses.1 left
    unbegun_image file (fault.Take take.Stopped) image five refuses left = either_image file take.Stopped image (λ e. five (ap (λ (x : TakeFault). fault.Take x) e)) refuses.1 left

  went_by : (s a : List ℕ) (tree : Tree) (site : Site) → Builds s a tree site → (started : D) → v.disk.faults started ≡ v.disk.faults c.disk → FinishedBy s a tree site started c.status → RunWentOn v c s a
  went_by s a tree site builds started same finishes = record {
    setting = script_setting tree site;
    mean = mean_of builds;
    went_on = finish_went v laws kind (script_setting tree site) started (StartEvent s a ∷ []) c same finishes;
  }

  went_on : {n : ℕ} → RunsSo n → n ≡ c.status → LeavesAll v c ⊎ WithFiles c (λ script agents. Unbegun v c script agents ⊎ ∥ RunWentOn v c script agents ∥₁)
  went_on (begin.refused refused same unled tells) is =
      inl (record { why = subst (λ (m : ℕ). (m ≡ 4) ⊎ (m ≡ 13) ⊎ (m ≡ 8) ⊎ ((m ≡ 6) × (HasFailed c.script ⊎ HasFailed c.agents))) is (files_unbegun c refused); disk = same; unled = unled })
  went_on (begin.built {s = s} {a = a} {tree = tree} {site = site} give (begin.unbegun {fault = f} unled says counts sizes refuses tells)) is =
      inr (
        s,
        a,
        give.hold,
        inl (record {
          why = unbegun_why s a tree site give.builds is says sizes tells;
          unled = unled;
          images = λ file told image left. unbegun_image s a tree site give.builds file f image (λ disk. sym is ∙ begin_disk says disk) (refuses file told) left;
        }),
      )
  went_on (begin.built {s = s} {a = a} {tree = tree} {site = site} give (begin.begun started same stay launched reports finishes over)) is =
      let here = subst (λ (m : ℕ). ∥ FinishedBy s a tree site started m ∥₁) is finishes in
      inr (s, a, give.hold, inr (∥∥₁_map here (went_by s a tree site give.builds started same)))

  -- a log was shown over a disk that counted no fault
  shown_calm : {n : ℕ} → RunsSo n → HasRun n → v.disk.faults c.now ≡ v.disk.faults c.disk
  shown_calm (begin.refused refused same unled tells) run = absurd (says_unrun (files_say refused) run)
  shown_calm (begin.built give (begin.unbegun unled says counts sizes refuses tells)) run = absurd (begin_unrun says run)
  shown_calm (begin.built give (begin.begun started same stay launched reports finishes over)) run = reports_calm reports run

  -- a source of a file that counted a fault is told
  unread_told : {n : ℕ} → RunsSo n → ¬ (AreCalm c.script c.agents) → (n ≡ 6) × (c.now ≡ c.disk) × IsUnled c
  unread_told (begin.refused refused same unled tells) other = (files_uncalm c refused other, same, unled)
  unread_told (begin.built give begins) other = absurd (other give.calm)

  pub run_causes : RunsSo c.status → RunCauses v c
  run_causes runs = record {
    source = sources runs;
    unread = unread_told runs;
    disk = disks runs;
    sink = sinks runs;
    has_build = builds_found runs;
    finds_build = finds runs;
    calm = shown_calm runs;
    went_on = went_on runs refl;
    works = works runs refl;
  }

  -- it is no usage
  pub run_known : {n : ℕ} → RunsSo n → n ≡ 2 → ⊥
  run_known (begin.refused refused same unled tells) two = (files_other c refused).3 two
  run_known (begin.built give (begin.unbegun unled says counts sizes refuses tells)) two = (begin_other says).2 two
  run_known (begin.built give (begin.begun started same stay launched reports finishes over)) two = reports_usage reports two

  -- no answer is read where no build goes on
  pub run_unread : {n : ℕ} → RunsSo n → (n ≡ 4) ⊎ (n ≡ 13) ⊎ (n ≡ 9) → IsUnled c
  run_unread (begin.refused refused same unled tells) is = unled
  run_unread (begin.built give (begin.unbegun unled says counts sizes refuses tells)) is = unled
  run_unread (begin.built give (begin.begun started same stay launched reports finishes over)) is =
      absurd (⊎_elim (λ four. reports_untold reports (inl four)) (⊎_elim (λ thirteen. reports_untold reports (inr thirteen)) (λ nine. reports_build reports nine)) is)
