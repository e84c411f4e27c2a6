-- What one call more says of the medium, the images and the faults.
use Rattle.std.proofs.Common.{◌≡◌, ◌⊎◌, inl, inr, ⊎_elim, ◌≤◌, ◌+◌, ◌-◌, ◌^◌, ℕ, Bool, true, false, List, [], ◌∷◌, ◌++◌, length, Some, Result, Ok, Err, refl, sym, ◌∙◌, ap, subst, rules, arith}
use Rattle.std.specs.Prelude.{OnOk, OnErr, IsErr, IsOk, is_ok, max}
use Rattle.std.proofs.lemmas.Bool.{cases_lt}
use Rattle.std.proofs.lemmas.List.{places}
use Rattle.jp_disk.specs.Images.{IsTornWrite, ImagesStep, IsOnlyImage, WritesNothing, after_write}
use Rattle.jp_disk.specs.Moments.{TimePasses}
use Rattle.device_faults.specs.Faults.{Rose, HasCause, counted}
use Rattle.jp_disk.specs.Medium.{Medium, MayLeave, LeftSince, at_rest, after, after_all}
use Rattle.jp_disk.specs.ImageLaws.{same_image, whole_write}
use Rattle.jp_disk.specs.MediumLaws.{reads_image}
use Rattle.jp_disk.specs.History.{History, medium, images_since, IsOneCall}
use Rattle.device_faults.specs.declared.faults.Failed.{Failed}
use Rattle.jp_disk.specs.declared.call.Call.{Call}
use Rattle.jp_disk.specs.declared.call.Call.TheVariants.{Write, Sync}
use Rattle.jp_disk.proofs.ImageLemmas.{image_before, only_same}
use Rattle.jp_disk.proofs.MediumLemmas.{after_all-push, call_passes, nothing_passes}

-- what a read gives is an image
pub reads_are_image : (h : History) → MayLeave (medium h) (medium h).reads
reads_are_image h = reads_image h.calls (at_rest h.first) (same_image h.first [])

-- the medium after the call, or as it was where memory was refused
pub medium_after : (call : Bool → Call) (old new : History) (done : Bool) → IsOneCall call old new done → (medium new ≡ after (call done) (medium old)) ⊎ ((medium new ≡ medium old) × (done ≡ false))
medium_after call old new done is = ⊎_elim
    (λ kept. inl (ap (λ (calls : List Call). after_all calls (at_rest new.first)) kept.calls ∙ ap (λ (first : List ℕ). after_all (old.calls ++ call done ∷ []) (at_rest first)) is.first ∙ after_all-push old.calls (call done) (at_rest old.first)))
    (λ refused. inr (ap (λ (calls : List Call). after_all calls (at_rest new.first)) refused.calls ∙ ap (λ (first : List ℕ). after_all old.calls (at_rest first)) is.first, refused.failed))
    is.kept

-- the same, of a call that was done
pub medium_done : (call : Bool → Call) (old new : History) (done : Bool) → done ≡ true → IsOneCall call old new done → medium new ≡ after (call true) (medium old)
medium_done call old new done is_done is = ⊎_elim
    (λ kept. kept ∙ ap (λ (d : Bool). after (call d) (medium old)) is_done)
    (λ refused. absurd (cc (refused.1, is_done)))
    (medium_after call old new done is)

-- the same, of one that leaves the medium alone
pub medium_quiet : (call : Bool → Call) (old new : History) (done : Bool) → after (call done) (medium old) ≡ medium old → IsOneCall call old new done → medium new ≡ medium old
medium_quiet call old new done quiet is = ⊎_elim (λ kept. kept ∙ quiet) (λ refused. refused.0) (medium_after call old new done is)

pub time_passes : (call : Bool → Call) (old new : History) (done : Bool) → IsOneCall call old new done → TimePasses (length old.calls) (length new.calls) (images_since old) (images_since new) (MayLeave (medium new))
time_passes call old new done is =
    let Passes : List Call → List ℕ → Type 0 = λ calls first. TimePasses (length old.calls) (length calls) (images_since old) (λ t image. LeftSince calls t (at_rest first) image) (λ image. MayLeave (after_all calls (at_rest first)) image) in
    let from : (calls : List Call) → new.calls ≡ calls → Passes calls old.first → Passes new.calls new.first =
    λ calls same passes. subst (λ (x : List Call). Passes x new.first) (sym same) (subst (λ (x : List ℕ). Passes calls x) (sym is.first) passes) in
    ⊎_elim
    (λ kept. from (old.calls ++ call done ∷ []) kept.calls (call_passes old.calls (call done) (at_rest old.first)))
    (λ refused. from old.calls refused.calls (nothing_passes old.calls (at_rest old.first)))
    is.kept

pub has_cause : {T : Type 0} (call : Bool → Call) (old new : History) (done : Bool) (result : Result T Failed) → (IsErr result → done ≡ false) → (IsOk result → done ≡ true) → IsOneCall call old new done → HasCause old.faults new.faults result
has_cause call old new true result undone is_done is = record { never_falls = omega (arith, is.faults); calm = λ ok. is.faults; failed = λ failed. absurd (cc (undone failed)) }
has_cause call old new false result undone is_done is = record { never_falls = omega (arith, is.faults); calm = λ ok. absurd (cc (is_done ok)); failed = λ failed. rose old.faults new.faults is.faults }
  where
    rose : (before now : ℕ) → now ≡ counted before → Rose before now
    rose before now is = ⊎_elim (λ lt. inl (omega (arith, lt, is))) (λ le. inr (omega (arith, le, is))) (cases_lt before (2 ^ 64 - 1))

abbrev Still : History → History → Type 0
Still old new = WritesNothing (Some (medium old).reads) (Some (medium new).reads) (MayLeave (medium old)) (MayLeave (medium new))

same_still : (old new : History) → medium new ≡ medium old → Still old new
same_still old new same = record {
  reads = ap (λ (m : Medium). Some m.reads) same;
  images = λ image left. subst (λ (m : Medium). MayLeave m image) same left;
}

-- a call that leaves the medium alone writes nothing
pub quiet_still : (call : Bool → Call) (old new : History) (done : Bool) → after (call done) (medium old) ≡ medium old → IsOneCall call old new done → Still old new
quiet_still call old new done quiet is = same_still old new (medium_quiet call old new done quiet is)

pub sync_still : (old new : History) (done : Bool) → IsOneCall Sync old new done → Still old new
sync_still old new true is =
    let now = medium_done Sync old new true refl is in
    record {
      reads = ap (λ (m : Medium). Some m.reads) now;
      images = λ image left.
          subst (λ (x : List ℕ). MayLeave (medium old) x) (sym (only_same (medium old).reads image (subst (λ (m : Medium). MayLeave m image) now left))) (reads_are_image old);
    }
sync_still old new false is = quiet_still Sync old new false refl is

pub sync_only : (old new : History) (done : Bool) → done ≡ true → IsOneCall Sync old new done → IsOnlyImage (medium old).reads (MayLeave (medium new))
sync_only old new done is_done is image left = only_same (medium old).reads image (subst (λ (m : Medium). MayLeave m image) (medium_done Sync old new done is_done is) left)

-- a write, done or not
module _ (old new : History) (at : ℕ) (bytes : List ℕ) (done : Bool) (is : IsOneCall (Write at bytes) old new done) where
  pub write_reads : done ≡ true → (medium new).reads ≡ after_write (medium old).reads at bytes
  write_reads is_done = ap (λ (m : Medium). m.reads) (medium_done (Write at bytes) old new done is_done is)

  pub write_told : IsTornWrite at (length bytes) (medium old).reads (medium new).reads
  write_told = ⊎_elim
      (λ kept. subst (λ (m : Medium). IsTornWrite at (length bytes) (medium old).reads m.reads) (sym kept) (whole_write (medium old).reads bytes at))
      (λ refused. subst (λ (m : Medium). IsTornWrite at (length bytes) (medium old).reads m.reads) (sym refused.0) (same_image (medium old).reads ((at, length bytes) ∷ [])))
      (medium_after (Write at bytes) old new done is)

  pub write_images : ImagesStep (IsTornWrite at (length bytes)) (MayLeave (medium old)) (MayLeave (medium new))
  write_images image left = ⊎_elim
      (λ kept. image_before (medium old).synced image (medium old).pending at (length bytes) (subst (λ (m : Medium). MayLeave m image) kept left))
      (λ refused. (image, subst (λ (m : Medium). MayLeave m image) refused.0 left, same_image image ((at, length bytes) ∷ [])))
      (medium_after (Write at bytes) old new done is)

pub not_done : {T E : Type 0} (result : Result T E) → IsErr result → is_ok result ≡ false
not_done (Ok x) failed = absurd (cc failed)
not_done (Err e) failed = refl

pub was_done : {T E : Type 0} (result : Result T E) → IsOk result → is_ok result ≡ true
was_done (Ok x) ok = refl
was_done (Err e) ok = absurd (cc ok)

pub on_ok : {T E : Type 0} (result : Result T E) (P : Type 0) → (is_ok result ≡ true → P) → OnOk result P
on_ok (Ok x) P then = then refl
on_ok (Err e) P then = tt

pub on_err : {T E : Type 0} (result : Result T E) (P : Type 0) → P → OnErr result P
on_err (Ok x) P holds = tt
on_err (Err e) P holds = holds

pub length-after_write : (file bytes : List ℕ) (at : ℕ) → at ≤ length file → length (after_write file at bytes) ≡ max (length file) (at + length bytes)
length-after_write file bytes at le =
    let size : length (after_write file at bytes) ≡ at + length bytes + (length file - (at + length bytes)) = search (rules, places) in
    omega (arith, size)
