-- One grant, and the grants behind it.
use Rattle.std.proofs.Common.{◌≡◌, ◌<◌, ◌+◌, ◌∙◌, ℕ, true, false, List, [], ◌∷◌, ◌++◌, Option, Some, None, Result, Ok, Err, refl, sym, ap, subst, append_assoc, append-nil, arith}
use Rattle.std.specs.Prelude.{◌-◌, ◌^◌, OnOk, length, min}
use Rattle.model_run.specs.declared.event.Event.{Event}
use Rattle.model_run.specs.declared.event.Event.TheVariants.{Granted}
use Rattle.model_run.specs.declared.taken.Taken.{Taken}
use Rattle.model_run.specs.declared.taken.Taken.TheVariants.{Accepted, NotOpen, WrongPlace, Finished}
use Rattle.model_run.specs.World as W
use Rattle.settle_laws.specs.Stances.{Stance}
use Rattle.durable_build.specs.Lower.build_core.Builds.{Parts, StandsFor, setting_in}
use Rattle.journal_core.specs.declared.faults.TakeFault.{TakeFault}
use Rattle.journal_core.specs.declared.faults.TakeFault.TheVariants.{Memory, Disk, Full, Stopped}
use Rattle.durable_build.specs.Lower.delta_records.Payloads.{payload_form}
use Rattle.durable_build.specs.Lower.build_images.Images.{image_in}
use Rattle.durable_build.specs.Standing.{Kept, image_before}
use Rattle.durable_build.specs.Taking.{IsSized, TakeAnswers, TakeLeaves}
use Rattle.locked_build.specs.declared.ask.Entry.{Entry}
use Rattle.locked_build.specs.declared.ask.Entry.TheVariants.{Took}
use Rattle.locked_build.specs.Histories.{kept_fault}
use Rattle.locked_build.specs.Showing.{answer_of, due, IsNext, IsSettled}
use Rattle.locked_build.specs.Grants.{noted, MayFail, Grants, granted, refused}
use Rattle.locked_build.specs.Steps.{OneSays, GrantSays}
use Rattle.locked_build.proofs.HistoryLaws.{kept_fault-append, no_fault}
use Rattle.locked_build.proofs.FactLaws.{true_false}

pub not_open : NotOpen ≡ Accepted → ⊥
not_open e = cc

pub finished : Finished ≡ Accepted → ⊥
finished e = cc

pub wrong : (kept : ℕ) → WrongPlace kept ≡ Accepted → ⊥
wrong kept e = cc

abbrev given : Option (ℕ × ℕ) → ℕ × ℕ
given None = (0, 0)
given (Some p) = p

same_grant : (p q : ℕ × ℕ) → Some p ≡ Some q → q ≡ p
same_grant p q e = sym (ap given e)

module _ {D T : Type 0} (stance : T → Stance) (old new : Kept D T) where
  -- the grant that is due is the only one
  not_taken : (request executor : ℕ) (t : Taken) → due old.build ≡ Some (request, executor) → answer_of old.build (Granted request executor) ≡ t → (t ≡ Accepted → ⊥) → IsSettled old.build
  not_taken request executor t is answered never r x also accepted =
      let same = same_grant (request, executor) (r, x) (sym is ∙ also) in
      never (sym answered ∙ sym (ap (λ (p : ℕ × ℕ). answer_of old.build (Granted p.0 p.1)) same) ∙ accepted)

  module _ (h after : List Entry) (request executor : ℕ) (is : due old.build ≡ Some (request, executor)) where
    pub grant_taken : OneSays stance old new (Granted request executor) (Ok Accepted) → after ≡ h ++ Took (Granted request executor) ∷ [] → GrantSays stance old new h after (Ok true)
    grant_taken says here = (request, executor, is, says, here)

    pub grant_not : (t : Taken) → (t ≡ Accepted → ⊥) → OneSays stance old new (Granted request executor) (Ok t) → after ≡ h ++ noted (Granted request executor) (Ok t) → GrantSays stance old new h after (Ok false)
    grant_not Accepted other says here = absurd (other refl)
    grant_not NotOpen other says here = (not_taken request executor NotOpen is says.0 not_open, says.1, here ∙ append-nil h)
    grant_not (WrongPlace kept) other says here = (not_taken request executor (WrongPlace kept) is says.0 (wrong kept), says.1, here ∙ append-nil h)
    grant_not Finished other says here = (not_taken request executor Finished is says.0 finished, says.1, here ∙ append-nil h)

    pub grant_failed : (f : TakeFault) → MayFail stance old.build (Granted request executor) f → after ≡ h ++ noted (Granted request executor) (Err f) → GrantSays stance old new h after (Err f)
    grant_failed Memory may here = (noted (Granted request executor) (Err Memory), refused request executor Memory is may, here, refl)
    grant_failed Disk may here = (noted (Granted request executor) (Err Disk), refused request executor Disk is may, here, refl)
    grant_failed (Full len add) may here = (noted (Granted request executor) (Err (Full len add)), refused request executor (Full len add) is may, here, refl)
    grant_failed Stopped may here = absurd may

module _ {T : Type 0} (stance : T → Stance) (start now : Parts T) (h0 h es : List Entry) (so_far : h ≡ h0 ++ es) (onward : (more : List Entry) → Grants stance now more → Grants stance start (es ++ more)) where
  pub more_granted : (after : List Entry) (next : Parts T) (request executor : ℕ) → due now ≡ Some (request, executor) → IsNext stance now (Granted request executor) next
      → after ≡ h ++ Took (Granted request executor) ∷ [] → (x : List Entry) × (after ≡ h0 ++ x) × ((more : List Entry) → Grants stance next more → Grants stance start (x ++ more))
  more_granted after next request executor is goes noted_is =
      let new = Took (Granted request executor) ∷ [] in (
        es ++ new,
        noted_is ∙ ap (λ (xs : List Entry). xs ++ new) so_far ∙ append_assoc h0 es new,
        λ more rest. subst (Grants stance start) (sym (append_assoc es new more)) (onward (new ++ more) (granted request executor is goes rest)),
      )

  pub more_done : (after es' : List Entry) → Grants stance now es' → after ≡ h ++ es' → (x : List Entry) × (after ≡ h0 ++ x) × Grants stance start x
  more_done after es' last is = (es ++ es', is ∙ ap (λ (xs : List Entry). xs ++ es') so_far ∙ append_assoc h0 es es', onward es' last)

-- a fault that was noted is kept
pub kept_behind : (h after es : List Entry) (f : TakeFault) → kept_fault h ≡ None → after ≡ h ++ es → kept_fault es ≡ Some f → kept_fault after ≡ None → ⊥
kept_behind h after es f none here is kept = no_fault f (sym (ap kept_fault here ∙ kept_fault-append h es none ∙ is) ∙ kept)

pub failed_is : {T : Type 0} (stance : T → Stance) (b : Parts T) (e : Event) (f : TakeFault) → MayFail stance b e f → kept_fault (noted e (Err f)) ≡ Some f
failed_is stance b e Memory may = refl
failed_is stance b e Disk may = refl
failed_is stance b e (Full len add) may = refl
failed_is stance b e Stopped may = absurd may

-- a record makes the journal longer
longer_by : (old new size : ℕ) → new ≡ old + min (5 + size) (2 ^ 64 - 1) → old < new
longer_by old new size is = omega (arith, is)

-- each answer of one take, by what `take` of the build says
pub one_says : {D T : Type 0} (stance : T → Stance) (old new : Kept D T) (e : Event) (r : Result Taken TakeFault) → old.stopped ≡ false → TakeAnswers stance old new e r → TakeLeaves stance old new e r → IsSized stance old new e r
    → OnOk r (setting_in new.build ≡ setting_in old.build) → OnOk r ((w : W.Build) → StandsFor stance old.build w → StandsFor stance new.build (W.after_one (setting_in old.build) w e))
    → OneSays stance old new e r
one_says stance old new e (Ok Accepted) run answers leaves size setting stands =
    record { next = record { accepted = sym answers.1; setting = setting; stands = stands }; running = leaves.0; begun = leaves.1; longer = longer_by old.journal.len new.journal.len (length (payload_form.spelling leaves.2.payload)) leaves.2.len; within = leaves.3 }
one_says stance old new e (Ok NotOpen) run answers leaves size setting stands = (sym answers.1, leaves)
one_says stance old new e (Ok (WrongPlace kept)) run answers leaves size setting stands = (sym answers.1, leaves)
one_says stance old new e (Ok Finished) run answers leaves size setting stands = (sym answers.1, leaves)
one_says stance old new e (Err Memory) run answers leaves size setting stands = tt
one_says stance old new e (Err Disk) run answers leaves size setting stands = answers.1
one_says stance old new e (Err (Full len add)) run answers leaves size setting stands =
    (answers.1, answers.3, record { weights = old.weights; before = image_before stance old.build; image = image_in stance new.build; adds = answers.4; is_before = size.1; is_after = size.0 })
one_says stance old new e (Err Stopped) run answers leaves size setting stands = absurd (true_false (sym answers ∙ run))
