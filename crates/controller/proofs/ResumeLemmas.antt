-- The parts of a call's contract for `resume`, from its tables.
use Rattle.std.proofs.Common.{◌≡◌, ◌⊎◌, ℕ, List, [], ◌++◌, Option, Some, inl, inr, refl, ap, ◌∙◌, subst, ⊎_elim, arith}
use Rattle.std.specs.Prelude.{IfSome, IsSome, is_some}
use Rattle.std.proofs.Math.Logic.{∥∥₁_map}
use Rattle.device_faults.specs.Faults.{Rose}
use Rattle.jp_disk.specs.Runs.{AtEachMoment}
use Rattle.jp_disk.proofs.MomentLemmas.{if_told}
use Rattle.model_run.specs.declared.event.Event.{Event}
use Rattle.model_run.specs.State.{Setting}
use Rattle.build_commands.specs.Statuses.{HasRun}
use Rattle.build_commands.specs.Inputs.{HasFailed}
use Rattle.build_commands.specs.declared.end_text.EndText.TheVariants as end
use Rattle.build_commands.specs.Reporting.{LeavesStore}
use Rattle.build_commands.specs.Resuming.{IsUntouched, NotOpened, Resumes, Reopens}
use Rattle.build_commands.specs.Resuming as resume
use Rattle.build_commands.specs.Showing.{HasBuild, HasNone, NotTold}
use Rattle.build_commands.specs.Showing as showing
use Rattle.controller.specs.Call.{Call, Devices, Finds, IsUnled, Tells, Unopened, answered}
use Rattle.controller.specs.Causes.{AllCalm, HasWorked, ResumeCauses, WentOn}
use Rattle.controller.specs.Commands.{ResumesBy}
use Rattle.controller.specs.Crash.{LastsResume, Stays}
use Rattle.controller.specs.FirstFault.{TellsFault}
use Rattle.controller.specs.Output.{Delivers, GoesOn, Says}
use Rattle.controller.proofs.CallLemmas.{FinishedIn, unrun, untold}
use Rattle.controller.proofs.LifeLemmas.{gone, finish_delivers, finish_went}
use Rattle.controller.proofs.RunLemmas.{reports_untold, reports_answers, reports_disk, reports_sink, reports_build, reports_calm, reports_usage, reports_worked}
use Rattle.controller.proofs.TextLemmas.{reports_say, not_told_says, says_unrun}
use Rattle.jp_disk.specs.View.{DiskLaws}

-- a store does not have a build and none
both : (file : List ℕ) → HasBuild file → HasNone file → ⊥
both file has (inl none) = has.0 none
both file has (inr hurt) = has.1 hurt.0 hurt.1

opened_unrun : {events : List Event} {a b n : ℕ} {text : List ℕ} → NotOpened events a b n text → HasRun n → ⊥
opened_unrun (resume.no_build none) run = unrun 9 9 refl refl run
opened_unrun (resume.disk_failed rose) run = unrun 5 5 refl refl run
opened_unrun resume.no_memory run = unrun 8 8 refl refl run

pub not_told_untold : {stored : Option (List ℕ)} {a b n : ℕ} {text : List ℕ} → NotTold stored a b n text → TellsFault n → ⊥
not_told_untold (showing.no_build calm none) is = untold 9 9 refl (λ e. omega (arith, e)) (λ e. omega (arith, e)) is
not_told_untold (showing.damaged at calm fails) is = untold 9 9 refl (λ e. omega (arith, e)) (λ e. omega (arith, e)) is
not_told_untold (showing.disk_failed rose) is = untold 5 5 refl (λ e. omega (arith, e)) (λ e. omega (arith, e)) is
not_told_untold (showing.no_memory calm) is = untold 8 8 refl (λ e. omega (arith, e)) (λ e. omega (arith, e)) is

not_told_other : {stored : Option (List ℕ)} {a b n : ℕ} {text : List ℕ} → NotTold stored a b n text → (¬ (n ≡ 6)) × (¬ (n ≡ 7)) × (¬ (n ≡ 2))
not_told_other (showing.no_build calm none) = (λ e. omega (arith, e), λ e. omega (arith, e), λ e. omega (arith, e))
not_told_other (showing.damaged at calm fails) = (λ e. omega (arith, e), λ e. omega (arith, e), λ e. omega (arith, e))
not_told_other (showing.disk_failed rose) = (λ e. omega (arith, e), λ e. omega (arith, e), λ e. omega (arith, e))
not_told_other (showing.no_memory calm) = (λ e. omega (arith, e), λ e. omega (arith, e), λ e. omega (arith, e))

not_told_disk : {stored : Option (List ℕ)} {a b n : ℕ} {text : List ℕ} → NotTold stored a b n text → n ≡ 5 → Rose a b
not_told_disk (showing.no_build calm none) five = absurd (omega (arith, five))
not_told_disk (showing.damaged at calm fails) five = absurd (omega (arith, five))
not_told_disk (showing.disk_failed rose) five = rose
not_told_disk (showing.no_memory calm) five = absurd (omega (arith, five))

not_told_always : {stored : Option (List ℕ)} {a b n : ℕ} {text : List ℕ} → NotTold stored a b n text → (n ≡ 9) ⊎ (n ≡ 8) ⊎ (n ≡ 5)
not_told_always (showing.no_build calm none) = inl refl
not_told_always (showing.damaged at calm fails) = inl refl
not_told_always (showing.disk_failed rose) = inr (inr refl)
not_told_always (showing.no_memory calm) = inr (inl refl)

not_told_unrun : {stored : Option (List ℕ)} {a b n : ℕ} {text : List ℕ} → NotTold stored a b n text → HasRun n → ⊥
not_told_unrun why run = says_unrun (not_told_says why) run

module _ {D H A : Type 0} (v : Devices D H A) (laws : DiskLaws v.disk) (c : Call D H A) where
  abbrev ReopensSo : ℕ → Type 0
  ReopensSo n = Reopens v.disk v.host v.source c.hosts c.hosts_now c.answers c.answers_now c.history
      c.disk c.now c.old c.new c.sink_before c.sink_after n

  abbrev ResumesSo : Setting → List Event → ℕ → Type 0
  ResumesSo setting events n = Resumes v.disk v.host v.source c.hosts c.hosts_now c.answers c.answers_now c.history
      setting events c.disk c.now c.old c.new c.sink_before c.sink_after n

  -- over any store
  pub resume_says : {n : ℕ} → ReopensSo n → HasRun n ⊎ ((text : List ℕ) × Says n text × Tells text c)
  resume_says (resume.unopened {text = text} unled same why tells) = inr (text, not_told_says why, tells)
  resume_says (resume.goes_on setting led stay launched has store reports) = reports_say reports

  pub resume_untold : {n : ℕ} → ReopensSo n → TellsFault n → ⊥
  resume_untold (resume.unopened unled same why tells) is = not_told_untold why is
  resume_untold (resume.goes_on setting led stay launched has store reports) is = reports_untold reports is

  pub resume_known : {n : ℕ} → ReopensSo n → n ≡ 2 → ⊥
  resume_known (resume.unopened unled same why tells) two = (not_told_other why).2 two
  resume_known (resume.goes_on setting led stay launched has store reports) two = reports_usage reports two

  answers_failed : {n : ℕ} → ReopensSo n → n ≡ 6 → HasFailed (answered v c)
  answers_failed (resume.unopened unled same why tells) six = absurd ((not_told_other why).0 six)
  answers_failed (resume.goes_on setting led stay launched has store reports) six = reports_answers reports six

  disk_failed : {n : ℕ} → ReopensSo n → n ≡ 5 → Rose (v.disk.faults c.disk) (v.disk.faults c.now)
  disk_failed (resume.unopened unled same why tells) five = not_told_disk why five
  disk_failed (resume.goes_on setting led stay launched has store reports) five = reports_disk reports five

  sink_failed : {n : ℕ} → ReopensSo n → n ≡ 7 → Rose c.sink_before c.sink_after
  sink_failed (resume.unopened unled same why tells) seven = absurd ((not_told_other why).1 seven)
  sink_failed (resume.goes_on setting led stay launched has store reports) seven = reports_sink reports seven

  none : {n : ℕ} → ReopensSo n → n ≡ 9 → (text : List ℕ) × NotTold (v.disk.reads c.disk) (v.disk.faults c.disk) (v.disk.faults c.now) n text × Tells text c
  none (resume.unopened {text = text} unled same why tells) nine = (text, why, tells)
  none (resume.goes_on setting led stay launched has store reports) nine = absurd (reports_build reports nine)

  pub resume_unread : {n : ℕ} → ReopensSo n → n ≡ 9 → IsUnled c
  resume_unread (resume.unopened unled same why tells) nine = unled
  resume_unread (resume.goes_on setting led stay launched has store reports) nine = absurd (reports_build reports nine)

  finds_none : {n : ℕ} → ReopensSo n → (file : List ℕ) → v.disk.reads c.disk ≡ Some file → HasNone file → ((n ≡ 9) ⊎ (n ≡ 8) ⊎ (n ≡ 5)) × IsUntouched v.disk c.disk c.now × IsUnled c
  finds_none (resume.unopened unled same why tells) file told is = (not_told_always why, same, unled)
  finds_none (resume.goes_on setting led stay launched has store reports) file told is = absurd (both file (if_told HasBuild told has) is)

  shown_calm : {n : ℕ} → ReopensSo n → HasRun n → v.disk.faults c.now ≡ v.disk.faults c.disk
  shown_calm (resume.unopened unled same why tells) run = absurd (not_told_unrun why run)
  shown_calm (resume.goes_on setting led stay launched has store reports) run = reports_calm reports run

  -- over any store, also one of which the disk tells nothing
  pub resume_any : ReopensSo c.status → Unopened v c ⊎ GoesOn v c
  resume_any reopens = by reopens refl
    where
      by : {n : ℕ} → ReopensSo n → n ≡ c.status → Unopened v c ⊎ GoesOn v c
      by (resume.unopened unled same why tells) is = inl (record { why = subst (λ (m : ℕ). (m ≡ 9) ⊎ (m ≡ 5) ⊎ (m ≡ 8)) is (⊎_elim (λ nine. inl nine) (⊎_elim (λ eight. inr (inr eight)) (λ five. inr (inl five))) (not_told_always why)); disk = same; unled = unled })
      by (resume.goes_on setting led stay launched has store reports) is = inr (record {
        setting = setting;
        life = led.lived;
        leaves = λ file told. subst (λ (m : ℕ). LeavesStore v.disk setting file c.history c.disk c.now c.old c.new c.sink_before c.sink_after m) is (store file told);
        too_long = λ fourteen. led.too_long (is ∙ fourteen);
      })

  -- over a consistent one
  module _ (setting : Setting) (events : List Event) where
    abbrev FinishedSo : D → ℕ → Type 0
    FinishedSo opened n = FinishedIn v c end.Log setting opened events n

    delivered : {n : ℕ} → ResumesSo setting events n → n ≡ c.status → HasRun n → ∥ ((more : List Event) × Delivers v end.Log setting events (events ++ more) c) ∥₁
    delivered (resume.refused unled same why tells) is run = absurd (opened_unrun why run)
    delivered (resume.went_on opened up_to same reports finishes) is run =
        ∥∥₁_map (subst (λ (m : ℕ). ∥ FinishedSo opened m ∥₁) is finishes) (λ f. finish_delivers v laws end.Log setting opened events c same f (subst HasRun is run))

    lasts_by : IsSome (v.disk.reads c.disk) → (opened : D) → AtEachMoment v.disk c.disk opened (v.disk.may_leave c.disk) → v.disk.faults opened ≡ v.disk.faults c.disk → FinishedSo opened c.status → LastsResume v setting events c
    lasts_by known opened up_to same finishes =
        let g = gone v laws end.Log setting opened events c same finishes in
        record {
          taken = g.taken;
          risked = g.risked;
          takes = record { takes = g.takes; next = g.next };
          lasts = record { origin = opened; up_to = up_to; from_then = g.moments known; at_end = g.images known; sure = g.sure; shown = g.shown };
        }

    lasts : {n : ℕ} → ResumesSo setting events n → n ≡ c.status → IsSome (v.disk.reads c.disk) → Stays v c ⊎ ∥ LastsResume v setting events c ∥₁
    lasts (resume.refused unled same why tells) is known = inl same.moments
    lasts (resume.went_on opened up_to same reports finishes) is known = inr (∥∥₁_map (subst (λ (m : ℕ). ∥ FinishedSo opened m ∥₁) is finishes) (lasts_by known opened up_to same))

    opened_why : {n : ℕ} {text : List ℕ} → NotOpened events (v.disk.faults c.disk) (v.disk.faults c.now) n text → (n ≡ 9) ⊎ (n ≡ 5) ⊎ (n ≡ 8)
    opened_why (resume.no_build none) = inl refl
    opened_why (resume.disk_failed rose) = inr (inl refl)
    opened_why resume.no_memory = inr (inr refl)

    went : {n : ℕ} → ResumesSo setting events n → n ≡ c.status → Unopened v c ⊎ ∥ WentOn v setting events c ∥₁
    went (resume.refused unled same why tells) is = inl (record { why = subst (λ (m : ℕ). (m ≡ 9) ⊎ (m ≡ 5) ⊎ (m ≡ 8)) is (opened_why why); disk = same; unled = unled })
    went (resume.went_on opened up_to same reports finishes) is = inr (∥∥₁_map (subst (λ (m : ℕ). ∥ FinishedSo opened m ∥₁) is finishes) (finish_went v laws end.Log setting opened events c same))

    not_opened_works : {n : ℕ} {text : List ℕ} → NotOpened events (v.disk.faults c.disk) (v.disk.faults c.now) n text → AllCalm v c → ¬ (events ≡ []) → HasWorked n
    not_opened_works (resume.no_build none) calm some = absurd (some none)
    not_opened_works (resume.disk_failed rose) calm some = absurd (calm.disk rose)
    not_opened_works resume.no_memory calm some = inr (inl refl)

    works : {n : ℕ} → ResumesSo setting events n → n ≡ c.status → AllCalm v c → ¬ (events ≡ []) → HasWorked c.status
    works (resume.refused unled same why tells) is calm some = subst HasWorked is (not_opened_works why calm some)
    works (resume.went_on opened up_to same reports finishes) is calm some = subst HasWorked is (reports_worked reports calm.disk calm.answers calm.sink)

  module _ (by : ResumesBy v c) where
    here : (setting : Setting) (events : List Event) → Finds v setting events c → ResumesSo setting events c.status
    here setting events finds = by.resumes finds.file finds.told setting events finds.stores

    pub resume_outputs : HasRun c.status → (setting : Setting) (events : List Event) → Finds v setting events c → ∥ ((more : List Event) × Delivers v end.Log setting events (events ++ more) c) ∥₁
    resume_outputs run setting events finds = delivered setting events (here setting events finds) refl run

    -- a store that was not opened has each byte
    untouched : {n : ℕ} → ReopensSo n → n ≡ 9 → IsUntouched v.disk c.disk c.now
    untouched (resume.unopened unled same why tells) nine = same
    untouched (resume.goes_on setting led stay launched has store reports) nine = absurd (reports_build reports nine)

    pub resume_crashes : (c.status ≡ 9 → IsUntouched v.disk c.disk c.now)
        × ((setting : Setting) (events : List Event) → Finds v setting events c → Stays v c ⊎ ∥ LastsResume v setting events c ∥₁)
    resume_crashes = (untouched by.reopens, λ setting events finds. lasts setting events (here setting events finds) refl (ap is_some finds.told))

    pub resume_causes : ResumeCauses v c
    resume_causes = record {
      answers = answers_failed by.reopens;
      disk = disk_failed by.reopens;
      sink = sink_failed by.reopens;
      no_build = none by.reopens;
      finds_none = finds_none by.reopens;
      calm = shown_calm by.reopens;
      went_on = λ setting events finds. went setting events (here setting events finds) refl;
      works = λ calm setting events finds some. works setting events (here setting events finds) refl calm some;
    }
