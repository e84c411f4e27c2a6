-- A line, and its decision.
use Rattle.std.proofs.Common.{◌≡◌, ◌≤◌, ◌∙◌, ℕ, false, List, [], ◌∷◌, ◌++◌, Option, None, Result, Ok, Err, refl, sym, subst, append_assoc}
use Rattle.std.specs.Prelude.{IsErrOf, OnOk}
use Rattle.device_faults.specs.Faults.{Rose}
use Rattle.model_run.specs.declared.event.Event.{Event}
use Rattle.model_run.specs.declared.taken.Taken.{Taken}
use Rattle.model_run.specs.declared.taken.Taken.TheVariants.{Accepted}
use Rattle.model_run.specs.World as W
use Rattle.settle_laws.specs.Stances.{Stance}
use Rattle.durable_build.specs.Lower.build_core.Builds.{Parts, StandsFor, setting_in}
use Rattle.journal_core.specs.declared.faults.TakeFault.{TakeFault}
use Rattle.journal_core.specs.declared.faults.TakeFault.TheVariants.{Memory, Disk, Full, Stopped}
use Rattle.agent_worker.specs.declared.gate.Heard.{Heard}
use Rattle.agent_worker.specs.declared.gate.Heard.TheVariants.{Decided, Skipped}
use Rattle.durable_build.specs.Standing.{Kept, Keeps}
use Rattle.durable_build.specs.Taking.{IsSized, LeavesWhole, TakeAnswers, TakeKeeps, TakeLeaves}
use Rattle.locked_build.specs.declared.ask.Entry.{Entry}
use Rattle.locked_build.specs.declared.ask.Entry.TheVariants.{Line, Failed}
use Rattle.locked_build.specs.Histories.{kept_fault}
use Rattle.locked_build.specs.Showing.{answer_of}
use Rattle.locked_build.specs.Facts.{Facts}
use Rattle.locked_build.specs.Grants.{noted, MayFail}
use Rattle.locked_build.specs.Hearing.{Decides, IsSkipped, not_accepted, AnswerSays, noted_line, SkipSays}
use Rattle.locked_build.proofs.HistoryLaws.{kept_fault-append}
use Rattle.locked_build.proofs.WorldLaws.{IsInOrder}
use Rattle.locked_build.proofs.FactLaws.{facts_one, facts_quiet, facts_wanting}
use Rattle.locked_build.proofs.GrantLaws.{kept_behind}
use Rattle.jp_disk.specs.View.{DiskLaws, DiskView}

module _ {D T : Type 0} (disk : DiskView D) (stance : T → Stance) (opening old : Kept D T) (h : List Entry) (none : kept_fault h ≡ None)
    (k : Facts disk stance opening old h) (line : List ℕ) where
  -- what is known goes on through a line and its decision
  pub heard_one : (new : Kept D T) → disk.faults old.journal.disk ≤ disk.faults new.journal.disk → DiskLaws disk → (e : Event) (r : Result Taken TakeFault) → old.stopped ≡ false → IsInOrder old.build e
      → TakeAnswers stance old new e r → TakeLeaves stance old new e r → IsSized stance old new e r → LeavesWhole stance (setting_in old.build) new.build r → OnOk r (setting_in new.build ≡ setting_in old.build)
      → OnOk r ((w : W.Build) → StandsFor stance old.build w → StandsFor stance new.build (W.after_one (setting_in old.build) w e))
      → ((payloads : List (List ℕ)) → Keeps disk stance old payloads → TakeKeeps disk stance old new e payloads r)
      → (IsErrOf r Disk → Rose (disk.faults old.journal.disk) (disk.faults new.journal.disk)) → (¬ (IsErrOf r Disk) → disk.faults new.journal.disk ≡ disk.faults old.journal.disk)
      → Facts disk stance opening new (h ++ noted_line line e r)
  heard_one new count laws e (Ok t) run order answers leaves size whole setting stands keeps cause calm =
      let quiet = facts_quiet disk stance opening old h none k (Line line ∷ []) (refl, refl) in
      subst (λ (es : List Entry). Facts disk stance opening new es) (append_assoc h (Line line ∷ []) (noted e (Ok t)))
      (facts_one disk stance opening old (h ++ Line line ∷ []) (kept_fault-append h (Line line ∷ []) none) quiet new count laws e (Ok t) run order answers leaves size whole setting stands keeps cause calm)
  heard_one new count laws e (Err f) run order answers leaves size whole setting stands keeps cause calm =
      facts_one disk stance opening old h none k new count laws e (Err f) run order answers leaves size whole setting stands keeps cause calm

  pub skipped_facts : (r : Result Heard TakeFault) (after : List Entry) → SkipSays line r h after → Facts disk stance opening old after
  skipped_facts (Ok Skipped) after is = subst (λ (es : List Entry). Facts disk stance opening old es) (sym is) (facts_quiet disk stance opening old h none k (Line line ∷ []) (refl, refl))
  skipped_facts (Ok (Decided request)) after is = absurd is
  skipped_facts (Err Memory) after is = subst (λ (es : List Entry). Facts disk stance opening old es) (sym is) (facts_wanting disk stance opening old h none k)
  skipped_facts (Err Disk) after is = absurd is
  skipped_facts (Err (Full len add)) after is = absurd is
  skipped_facts (Err Stopped) after is = absurd is

module _ {T : Type 0} (stance : T → Stance) (b : Parts T) (line : List ℕ) where
  pub skipped_says : (r : Result Heard TakeFault) (h after : List Entry) → IsSkipped b line → SkipSays line r h after → (es : List Entry) × (after ≡ h ++ es) × AnswerSays stance b line r es
  skipped_says (Ok Skipped) h after skipped is = (Line line ∷ [], is, (skipped, refl))
  skipped_says (Ok (Decided request)) h after skipped is = absurd is
  skipped_says (Err Memory) h after skipped is = (Failed Memory None ∷ [], is, refl)
  skipped_says (Err Disk) h after skipped is = absurd is
  skipped_says (Err (Full len add)) h after skipped is = absurd is
  skipped_says (Err Stopped) h after skipped is = absurd is

  module _ (request : ℕ) (e : Event) (decides : Decides b line request e) where
    pub failed_says : (f : TakeFault) → MayFail stance b e f → AnswerSays stance b line (Err f) (noted e (Err f))
    failed_says Memory may = refl
    failed_says Disk may = (request, e, decides, (may, refl))
    failed_says (Full len add) may = (request, e, decides, (may, refl))
    failed_says Stopped may = absurd may

    pub passed_says : (t : Taken) → answer_of b e ≡ t → (t ≡ Accepted → ⊥) → AnswerSays stance b line (Ok Skipped) (Line line ∷ [])
    passed_says t is other = (not_accepted request e decides (λ accepted. other (sym is ∙ accepted)), refl)

pub skip_kept : (line : List ℕ) (r : Result Heard TakeFault) (h after : List Entry) (room : Type 0) → kept_fault h ≡ None → SkipSays line r h after → OnOk r room → kept_fault after ≡ None → room
skip_kept line (Ok heard) h after room none is holds kept = holds
skip_kept line (Err Memory) h after room none is holds kept = absurd (kept_behind h after (Failed Memory None ∷ []) Memory none is refl kept)
skip_kept line (Err Disk) h after room none is holds kept = absurd is
skip_kept line (Err (Full len add)) h after room none is holds kept = absurd is
skip_kept line (Err Stopped) h after room none is holds kept = absurd is
