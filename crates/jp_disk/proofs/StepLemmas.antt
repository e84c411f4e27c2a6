-- What a disk in memory holds stays in step with its calls.
use Rattle.std.proofs.Common.{◌≡◌, ◌≤◌, ◌<◌, ◌+◌, ◌-◌, ◌%◌, ℕ, zero, suc, Bool, true, false, List, [], ◌∷◌, ◌++◌, length, get_or, drop, Option, None, refl, sym, ◌∙◌, ap, subst, arith, length-append}
use Rattle.std.specs.Prelude.{unwrap_or}
use Rattle.std.proofs.lemmas.List.{drop_all, append-nil}
use Rattle.jp_disk.specs.Images.{IsImage, IsOutside, after_write}
use Rattle.jp_disk.specs.Medium.{Medium, MayLeave, at_rest, after, after_all, ranges_of, IsQuiet}
use Rattle.jp_disk.specs.ImageLaws.{same_image}
use Rattle.jp_disk.specs.MediumLaws.{reads_image}
use Rattle.jp_disk.specs.History.{IsInStep}
use Rattle.jp_disk.specs.declared.call.Call.{Call}
use Rattle.jp_disk.specs.declared.call.Call.TheVariants.{Write, Sync}
use Rattle.jp_disk.proofs.ImageLemmas.{image_changed}
use Rattle.jp_disk.proofs.MediumLemmas.{after_all-push, after-quiet, ranges_of-push, ranges_of-quiet}

drop_kept : {X : Type 0} (n : ℕ) (xs : List X) (x : X) → n ≤ length xs → drop n (xs ++ x ∷ []) ≡ drop n xs ++ x ∷ []
drop_kept zero xs x le = refl
drop_kept (suc n) [] x le = absurd (omega arith)
drop_kept (suc n) (y ∷ xs) x le = drop_kept n xs x (omega arith)

-- the ranges written since the last sync, with one call more
recent-push : (settled : ℕ) (calls : List Call) (call : Call) → settled ≤ length calls → ranges_of (drop settled (calls ++ call ∷ [])) ≡ ranges_of (drop settled calls) ++ ranges_of (call ∷ [])
recent-push settled calls call le = ap ranges_of (drop_kept settled calls call le) ∙ ranges_of-push (drop settled calls) call

abbrev pub medium_of : Option (List ℕ) → List ℕ → List Call → Medium
medium_of first bytes calls = after_all calls (at_rest (unwrap_or first bytes))

-- the fields of `IsInStep`, of calls that make this medium
in_step_at : (first last : Option (List ℕ)) (bytes : List ℕ) (calls : List Call) (settled : ℕ) (m : Medium) → medium_of first bytes calls ≡ m → m.reads ≡ bytes → m.synced ≡ unwrap_or last bytes → m.pending ≡ ranges_of (drop settled calls) → settled ≤ length calls → IsInStep first last bytes calls settled
in_step_at first last bytes calls settled m is reads synced pending within = record {
  reads = ap (λ (x : Medium). x.reads) is ∙ reads;
  synced = ap (λ (x : Medium). x.synced) is ∙ synced;
  pending = ap (λ (x : Medium). x.pending) is ∙ pending;
  within = within;
}

medium_push : (first first' : Option (List ℕ)) (bytes bytes' : List ℕ) (calls calls' : List Call) (call : Call) → unwrap_or first' bytes' ≡ unwrap_or first bytes → calls' ≡ calls ++ call ∷ [] → medium_of first' bytes' calls' ≡ after call (medium_of first bytes calls)
medium_push first first' bytes bytes' calls calls' call same is =
    ap (λ (x : List Call). after_all x (at_rest (unwrap_or first' bytes'))) is ∙ ap (λ (x : List ℕ). after_all (calls ++ call ∷ []) (at_rest x)) same ∙ after_all-push calls call (at_rest (unwrap_or first bytes))

-- a call that leaves the medium alone
pub in_step_quiet : (first last : Option (List ℕ)) (bytes : List ℕ) (calls calls' : List Call) (settled : ℕ) (call : Call) → IsQuiet call → calls' ≡ calls ++ call ∷ [] → IsInStep first last bytes calls settled → IsInStep first last bytes calls' settled
in_step_quiet first last bytes calls calls' settled call quiet is step =
    let recent : ranges_of (drop settled calls) ≡ ranges_of (drop settled calls') =
    sym (append-nil (ranges_of (drop settled calls))) ∙ ap (λ (x : List (ℕ × ℕ)). ranges_of (drop settled calls) ++ x) (sym (ranges_of-quiet call quiet)) ∙ sym (recent-push settled calls call step.within) ∙ ap (λ (x : List Call). ranges_of (drop settled x)) (sym is) in
    in_step_at first last bytes calls' settled (medium_of first bytes calls)
    (medium_push first first bytes bytes calls calls' call refl is ∙ after-quiet call (medium_of first bytes calls) quiet)
    step.reads step.synced (step.pending ∙ recent) (omega (arith, ap length is, length-append calls (call ∷ []), step.within))

-- a sync that was done, where the copy of the last sync is that of the bytes now
pub in_step_synced : (first last last' : Option (List ℕ)) (bytes : List ℕ) (calls calls' : List Call) (settled n : ℕ) (done : Bool) → done ≡ true → unwrap_or last' bytes ≡ bytes → calls' ≡ calls ++ Sync done ∷ [] → n ≡ length calls' → IsInStep first last bytes calls settled → IsInStep first last' bytes calls' n
in_step_synced first last last' bytes calls calls' settled n done is_done same is size step =
    let m = medium_of first bytes calls in
    in_step_at first last' bytes calls' n (at_rest m.reads)
    (medium_push first first bytes bytes calls calls' (Sync done) refl is ∙ ap (λ (d : Bool). after (Sync d) m) is_done)
    step.reads (step.reads ∙ sym same) (ap ranges_of (sym (drop_all n calls' (omega (arith, size))))) (omega (arith, size))

-- a write, done or not
pub in_step_written : (first first' last last' : Option (List ℕ)) (bytes bytes' : List ℕ) (calls calls' : List Call) (settled at : ℕ) (new : List ℕ) (done : Bool)
    → unwrap_or first' bytes' ≡ unwrap_or first bytes → unwrap_or last' bytes' ≡ unwrap_or last bytes → bytes' ≡ after_write bytes at new → calls' ≡ calls ++ Write at new done ∷ [] → IsInStep first last bytes calls settled → IsInStep first' last' bytes' calls' settled
in_step_written first first' last last' bytes bytes' calls calls' settled at new done same_first same_last wrote is step =
    let m = medium_of first bytes calls in
    let call = Write at new done in
    in_step_at first' last' bytes' calls' settled (after call m)
    (medium_push first first' bytes bytes' calls calls' call same_first is)
    (ap (λ (x : List ℕ). after_write x at new) step.reads ∙ sym wrote) (step.synced ∙ sym same_last)
    (ap (λ (x : List (ℕ × ℕ)). x ++ (at, length new) ∷ []) step.pending ∙ sym (recent-push settled calls call step.within) ∙ ap (λ (x : List Call). ranges_of (drop settled x)) (sym is))
    (omega (arith, ap length is, length-append calls (call ∷ []), step.within))

module _ (first last : Option (List ℕ)) (bytes : List ℕ) (calls : List Call) (settled : ℕ) (step : IsInStep first last bytes calls settled) where
  pub bytes_are_image : MayLeave (medium_of first bytes calls) bytes
  bytes_are_image = subst (λ (x : List ℕ). MayLeave (medium_of first bytes calls) x) step.reads (reads_image calls (at_rest (unwrap_or first bytes)) (same_image (unwrap_or first bytes) []))

  -- the bytes are an image of those of the last sync, under what was written since
  pub bytes_follow : IsImage (unwrap_or last bytes) (ranges_of (drop settled calls)) bytes
  bytes_follow = subst (λ (x : List (ℕ × ℕ)). IsImage (unwrap_or last bytes) x bytes) step.pending (subst (λ (x : List ℕ). IsImage x (medium_of first bytes calls).pending bytes) step.synced bytes_are_image)

  pub last_no_longer : length (unwrap_or last bytes) ≤ length bytes
  last_no_longer = omega (arith, bytes_are_image.no_shorter, ap length step.synced)

  -- what a crash leaves, over copies of what is held
  pub crashed : (image file kept : List ℕ) (recent : List Call) (choice : ℕ) → file ≡ bytes → kept ≡ unwrap_or last bytes → recent ≡ drop settled calls
      → ((place : ℕ) → place < length kept → IsOutside (ranges_of recent) place → get_or image place 0 ≡ get_or file place 0)
      → length image + choice % (1 + length file - length kept) ≡ length file → MayLeave (medium_of first bytes calls) image
  crashed image file kept recent choice file_is kept_is recent_is outside size =
      let m = medium_of first bytes calls in
      let same : kept ≡ m.synced = kept_is ∙ sym step.synced in
      let ranges : m.pending ≡ ranges_of recent = step.pending ∙ ap ranges_of (sym recent_is) in
      image_changed m.synced file image m.pending choice (subst (λ (x : List ℕ). MayLeave m x) (sym file_is) bytes_are_image)
      (λ place lt out. outside place (omega (arith, lt, ap length same)) (subst (λ (x : List (ℕ × ℕ)). IsOutside x place) ranges out))
      (subst (λ (x : List ℕ). length image + choice % (1 + length file - length x) ≡ length file) same size)

pub quiet_sync : (done : Bool) → done ≡ false → IsQuiet (Sync done)
quiet_sync true is = absurd (cc is)
quiet_sync false is = tt
