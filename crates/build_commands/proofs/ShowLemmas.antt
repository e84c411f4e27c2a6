-- How a command that shows a build ends, put together, and the cause of each status.
use Rattle.std.proofs.Common.{◌≡◌, ◌⊎◌, ◌<◌, ◌∙◌, ℕ, List, [], Option, None, Some, IfSome, inl, inr, refl, sym, subst, ⊎_elim, arith}
use Rattle.device_faults.specs.Faults.{Rose}
use Rattle.journal_core.specs.Records.{Has}
use Rattle.model_run.specs.World.{Build}
use Rattle.build_life.specs.Lower.durable_build.declared.faults.StoreFault.{StoreFault}
use Rattle.build_life.specs.Lower.durable_build.declared.faults.StoreFault.TheVariants as fault
use Rattle.build_life.specs.Lower.durable_build.Opening.{OpenFails}
use Rattle.build_commands.specs.declared.refusal.Refusal.{Refusal}
use Rattle.build_commands.specs.declared.refusal.Refusal.TheVariants as variant
use Rattle.build_commands.specs.declared.refusal.Refusal.TheVariants.{ReadFailed, AgentsRefused, TooLong, ScriptRefused, DiskFailed, OutOfMemory, NoBuild, Damaged, Full}
use Rattle.build_commands.specs.Refusals.{refusal_status, refusal_text, TellsFault}
use Rattle.build_commands.specs.Showing.{ShowsBuild, NotTold, no_build, damaged, disk_failed, no_memory, Decides, shown, not_told, Shows, build, refusal, TellsOf, told, no_room, HasBuild, HasNone, Causes}
use Rattle.build_commands.specs.Texts.{damaged_text}
use Rattle.build_commands.specs.Writing.{Writes, whole, cut, Tells}
use Rattle.build_commands.proofs.RefusalLemmas.{as_said, as_told}

-- what holds of the bytes of a disk, where it tells them
pub if_told : (o : Option (List ℕ)) (P : List ℕ → Type 0) → ((file : List ℕ) → o ≡ Some file → P file) → IfSome o P
if_told None P all = tt
if_told (Some file) P all = all file refl

-- a store does not have a build and none
both : (file : List ℕ) → HasBuild file → HasNone file → ⊥
both file has (inl none) = has.0 none
both file has (inr hurt) = has.1 hurt.0 hurt.1

here : (P : List ℕ → Type 0) (o : Option (List ℕ)) (file : List ℕ) → o ≡ Some file → IfSome o P → P file
here P o file is p = subst (λ (x : Option (List ℕ)). IfSome x P) is p

-- a store that was not opened
pub not_opened : (stored : Option (List ℕ)) (before after : ℕ) (f : StoreFault) (r : Refusal) → TellsFault f r → IfSome stored (λ file. OpenFails file f) → (¬ (f ≡ fault.Disk) → after ≡ before) → (f ≡ fault.Disk → Rose before after)
    → NotTold stored before after (refusal_status r) (refusal_text r)
not_opened stored before after fault.Memory r tells fails calm rose = as_told (NotTold stored before after) r OutOfMemory tells (no_memory (calm (λ e. cc)))
not_opened stored before after fault.Disk r tells fails calm rose = as_told (NotTold stored before after) r DiskFailed tells (disk_failed (rose refl))
not_opened stored before after fault.Empty r tells fails calm rose = as_told (NotTold stored before after) r NoBuild tells (no_build (calm (λ e. cc)) fails)
not_opened stored before after (fault.Damaged at) r tells fails calm rose = as_said (NotTold stored before after) r 9 (damaged_text at) tells (no_memory (calm (λ e. cc))) (damaged at (calm (λ e. cc)) fails)

-- a refusal has not the status of a build that was shown
other_status : (r : Refusal) → (refusal_status r ≡ 0 → ⊥) × (refusal_status r ≡ 7 → ⊥)
other_status DiskFailed = (λ e. omega (arith, e), λ e. omega (arith, e))
other_status ReadFailed = (λ e. omega (arith, e), λ e. omega (arith, e))
other_status (AgentsRefused line) = (λ e. omega (arith, e), λ e. omega (arith, e))
other_status TooLong = (λ e. omega (arith, e), λ e. omega (arith, e))
other_status variant.HasBuild = (λ e. omega (arith, e), λ e. omega (arith, e))
other_status (ScriptRefused line) = (λ e. omega (arith, e), λ e. omega (arith, e))
other_status (Full line) = (λ e. omega (arith, e), λ e. omega (arith, e))
other_status OutOfMemory = (λ e. omega (arith, e), λ e. omega (arith, e))
other_status NoBuild = (λ e. omega (arith, e), λ e. omega (arith, e))
other_status (Damaged line) = (λ e. omega (arith, e), λ e. omega (arith, e))

pub not_shown : (r : Refusal) (status : ℕ) → status ≡ refusal_status r → (status ≡ 0) ⊎ (status ≡ 7) → ⊥
not_shown r status is (inl e) = (other_status r).0 (sym is ∙ e)
not_shown r status is (inr e) = (other_status r).1 (sym is ∙ e)

-- nor has want of memory
pub shown_so : (status : ℕ) (P : Type 0) → (status ≡ 0) ⊎ (status ≡ 7) → (status ≡ 8) ⊎ P → P
shown_so status P so (inr is) = is
shown_so status P (inl e) (inl eight) = absurd (omega (arith, e, eight))
shown_so status P (inr e) (inl eight) = absurd (omega (arith, e, eight))

module _ (text_of : Build → List ℕ) (stored : Option (List ℕ)) (before after : ℕ) where
  some_status : (r : Refusal) → 0 < refusal_status r
  some_status DiskFailed = omega arith
  some_status ReadFailed = omega arith
  some_status (AgentsRefused line) = omega arith
  some_status TooLong = omega arith
  some_status variant.HasBuild = omega arith
  some_status (ScriptRefused line) = omega arith
  some_status (Full line) = omega arith
  some_status OutOfMemory = omega arith
  some_status NoBuild = omega arith
  some_status (Damaged line) = omega arith

  module _ (old new : Option (List ℕ)) (c d : ℕ) where
    pub shows_fault : (f : StoreFault) (r : Refusal) (status : ℕ) → TellsFault f r → IfSome stored (λ file. OpenFails file f) → (¬ (f ≡ fault.Disk) → after ≡ before) → (f ≡ fault.Disk → Rose before after)
        → status ≡ refusal_status r → Tells old new c d (refusal_text r) → Shows text_of stored before after old new c d status
    shows_fault f r status tells fails calm rose is wrote =
        subst (λ (n : ℕ). Shows text_of stored before after old new c d n) (sym is) (refusal (not_told (not_opened stored before after f r tells fails calm rose)) (some_status r) wrote)

    pub shows_text : (text : List ℕ) (status : ℕ) → after ≡ before → IfSome stored (λ file. ShowsBuild text_of file text) → Writes old new c d text 0 status → Shows text_of stored before after old new c d status
    shows_text text status calm is wrote = build (shown calm is) wrote

    pub shows_told : (StandsFor : Build → Type 0) (status : ℕ) → after ≡ before → ((text : List ℕ) → ((w : Build) → StandsFor w → text ≡ text_of w) → IfSome stored (λ file. ShowsBuild text_of file text))
        → TellsOf text_of StandsFor old new c d status → Shows text_of stored before after old new c d status
    shows_told StandsFor status calm is (told {text = text} of wrote) = build (shown calm (is text of)) wrote
    shows_told StandsFor status calm is (no_room eight wrote) = subst (λ (n : ℕ). Shows text_of stored before after old new c d n) (sym eight) (refusal (not_told (no_memory calm)) (omega arith) wrote)

  -- A status with its cause, before the text is written.
  data Outcome (c d : ℕ) (status : ℕ) : Type 0 where
    as_shown : status ≡ 0 → after ≡ before → IfSome stored HasBuild → Outcome c d status
    as_cut : status ≡ 7 → after ≡ before → Rose c d → IfSome stored HasBuild → Outcome c d status
    as_refused : status ≡ 9 → after ≡ before → IfSome stored HasNone → Outcome c d status
    as_failed : status ≡ 5 → Rose before after → Outcome c d status
    as_wanting : status ≡ 8 → Outcome c d status

  has_build : {n : ℕ} {text : List ℕ} → Decides text_of stored before after n text → n ≡ 0 → IfSome stored HasBuild
  has_build (shown {text = text} calm is) e = found text stored is
    where
      found : (text : List ℕ) (o : Option (List ℕ)) → IfSome o (λ file. ShowsBuild text_of file text) → IfSome o HasBuild
      found text None is = tt
      found text (Some file) is = (is.some, is.sound)
  has_build (not_told (no_build calm none)) e = absurd (omega (arith, e))
  has_build (not_told (damaged at calm fails)) e = absurd (omega (arith, e))
  has_build (not_told (disk_failed rose)) e = absurd (omega (arith, e))
  has_build (not_told (no_memory calm)) e = absurd (omega (arith, e))

  -- and the disk counted no fault
  shown_calm : {n : ℕ} {text : List ℕ} → Decides text_of stored before after n text → n ≡ 0 → after ≡ before
  shown_calm (shown calm is) e = calm
  shown_calm (not_told (no_build calm none)) e = calm
  shown_calm (not_told (damaged at calm fails)) e = calm
  shown_calm (not_told (disk_failed rose)) e = absurd (omega (arith, e))
  shown_calm (not_told (no_memory calm)) e = calm

  module _ {c d : ℕ} (status : ℕ) where
    decided : {n : ℕ} {text : List ℕ} → Decides text_of stored before after n text → status ≡ n → Outcome c d status
    decided (shown calm is) e = as_shown e calm (has_build (shown calm is) refl)
    decided (not_told (no_build calm none)) e = as_refused e calm (found stored none)
      where
        found : (o : Option (List ℕ)) → IfSome o (Has []) → IfSome o HasNone
        found None none = tt
        found (Some file) none = inl none
    decided (not_told (damaged at calm fails)) e = as_refused e calm (found stored fails)
      where
        found : (o : Option (List ℕ)) → IfSome o (λ file. OpenFails file (fault.Damaged at)) → IfSome o HasNone
        found None fails = tt
        found (Some file) fails = inr (at, fails)
    decided (not_told (disk_failed rose)) e = as_failed e rose
    decided (not_told (no_memory calm)) e = as_wanting e

  outcome : {old new : Option (List ℕ)} {c d : ℕ} (status : ℕ) → Shows text_of stored before after old new c d status → Outcome c d status
  outcome status (build decides (whole appends calm)) = decided status decides refl
  outcome status (build decides (cut part rose)) = as_cut refl (shown_calm decides refl) rose (has_build decides refl)
  outcome status (refusal decides some wrote) = decided status decides refl

  module _ {c d : ℕ} (status : ℕ) where
    known : Outcome c d status → (status ≡ 0) ⊎ (status ≡ 5) ⊎ (status ≡ 7) ⊎ (status ≡ 8) ⊎ (status ≡ 9)
    known (as_shown e calm is) = inl e
    known (as_failed e rose) = inr (inl e)
    known (as_cut e calm rose is) = inr (inr (inl e))
    known (as_wanting e) = inr (inr (inr (inl e)))
    known (as_refused e calm is) = inr (inr (inr (inr e)))

    refused_only : Outcome c d status → status ≡ 9 → IfSome stored HasNone
    refused_only (as_refused e calm is) nine = is
    refused_only (as_shown e calm is) nine = absurd (omega (arith, e, nine))
    refused_only (as_failed e rose) nine = absurd (omega (arith, e, nine))
    refused_only (as_cut e calm rose is) nine = absurd (omega (arith, e, nine))
    refused_only (as_wanting e) nine = absurd (omega (arith, e, nine))

    failed_only : Outcome c d status → status ≡ 5 → Rose before after
    failed_only (as_failed e rose) five = rose
    failed_only (as_refused e calm is) five = absurd (omega (arith, e, five))
    failed_only (as_shown e calm is) five = absurd (omega (arith, e, five))
    failed_only (as_cut e calm rose is) five = absurd (omega (arith, e, five))
    failed_only (as_wanting e) five = absurd (omega (arith, e, five))

    cut_only : Outcome c d status → status ≡ 7 → Rose c d
    cut_only (as_cut e calm rose is) seven = rose
    cut_only (as_refused e calm is) seven = absurd (omega (arith, e, seven))
    cut_only (as_shown e calm is) seven = absurd (omega (arith, e, seven))
    cut_only (as_failed e rose) seven = absurd (omega (arith, e, seven))
    cut_only (as_wanting e) seven = absurd (omega (arith, e, seven))

    shown_only : Outcome c d status → (status ≡ 0) ⊎ (status ≡ 7) → IfSome stored HasBuild
    shown_only (as_shown e calm is) so = is
    shown_only (as_cut e calm rose is) so = is
    shown_only (as_refused e calm is) so = absurd (⊎_elim (λ zero. omega (arith, e, zero)) (λ seven. omega (arith, e, seven)) so)
    shown_only (as_failed e rose) so = absurd (⊎_elim (λ zero. omega (arith, e, zero)) (λ seven. omega (arith, e, seven)) so)
    shown_only (as_wanting e) so = absurd (⊎_elim (λ zero. omega (arith, e, zero)) (λ seven. omega (arith, e, seven)) so)

    calm_only : Outcome c d status → (status ≡ 0) ⊎ (status ≡ 7) → after ≡ before
    calm_only (as_shown e calm is) so = calm
    calm_only (as_cut e calm rose is) so = calm
    calm_only (as_refused e calm is) so = calm
    calm_only (as_failed e rose) so = absurd (⊎_elim (λ zero. omega (arith, e, zero)) (λ seven. omega (arith, e, seven)) so)
    calm_only (as_wanting e) so = absurd (⊎_elim (λ zero. omega (arith, e, zero)) (λ seven. omega (arith, e, seven)) so)

    refused_always : Outcome c d status → ¬ (Rose before after) → (file : List ℕ) → stored ≡ Some file → HasNone file → (status ≡ 9) ⊎ (status ≡ 8)
    refused_always (as_shown e calm is) cd file at none = absurd (both file (here HasBuild stored file at is) none)
    refused_always (as_cut e calm rose is) cd file at none = absurd (both file (here HasBuild stored file at is) none)
    refused_always (as_refused e calm is) cd file at none = inl e
    refused_always (as_failed e rose) cd file at none = absurd (cd rose)
    refused_always (as_wanting e) cd file at none = inr e

    shown_always : Outcome c d status → ¬ (Rose before after) → ¬ (Rose c d) → (file : List ℕ) → stored ≡ Some file → HasBuild file → (status ≡ 0) ⊎ (status ≡ 8)
    shown_always (as_shown e calm is) cd cs file at has = inl e
    shown_always (as_cut e calm rose is) cd cs file at has = absurd (cs rose)
    shown_always (as_refused e calm is) cd cs file at has = absurd (both file has (here HasNone stored file at is))
    shown_always (as_failed e rose) cd cs file at has = absurd (cd rose)
    shown_always (as_wanting e) cd cs file at has = inr e

-- each status has its cause
pub causes_of : {text_of : Build → List ℕ} {stored : Option (List ℕ)} {before after : ℕ} {old new : Option (List ℕ)} {c d status : ℕ} → Shows text_of stored before after old new c d status → Causes stored before after c d status
causes_of {text_of} {stored} {before} {after} {status = status} s =
    let o = outcome text_of stored before after status s in
    record {
      known = known text_of stored before after status o;
      disk = failed_only text_of stored before after status o;
      sink = cut_only text_of stored before after status o;
      refused = refused_only text_of stored before after status o;
      refuses = refused_always text_of stored before after status o;
      shown = shown_only text_of stored before after status o;
      calm = calm_only text_of stored before after status o;
      shows = shown_always text_of stored before after status o;
    }
