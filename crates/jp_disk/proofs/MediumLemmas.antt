-- What calls make of a medium.
use Rattle.std.proofs.Common.{◌≡◌, ◌⊎◌, inl, inr, ⊎_elim, ◌<◌, ◌≤◌, ℕ, zero, suc, true, false, List, [], ◌∷◌, ◌++◌, length, get_or, refl, ap, arith, length-append}
use Rattle.jp_disk.specs.Images.{IsOutside}
use Rattle.jp_disk.specs.Moments.{TimePasses}
use Rattle.jp_disk.specs.Medium.{Medium, MayLeave, LeftSince, after, after_all, ranges_of, IsQuiet}
use Rattle.jp_disk.specs.declared.call.Call.{Call}
use Rattle.jp_disk.specs.declared.call.Call.TheVariants.{Len, Read, Write, Sync}

-- outside all ranges is outside that of each call
pub outside_call : (calls : List Call) (k : ℕ) (d : Call) (place : ℕ) → k < length calls → IsOutside (ranges_of calls) place → IsOutside (ranges_of (get_or calls k d ∷ [])) place
outside_call [] k d place lt out = absurd (omega arith)
outside_call (Len done ∷ calls) zero d place lt out = tt
outside_call (Read at len done ∷ calls) zero d place lt out = tt
outside_call (Write at bytes done ∷ calls) zero d place lt out = (out.0, tt)
outside_call (Sync done ∷ calls) zero d place lt out = tt
outside_call (Len done ∷ calls) (suc k) d place lt out = outside_call calls k d place (omega arith) out
outside_call (Read at len done ∷ calls) (suc k) d place lt out = outside_call calls k d place (omega arith) out
outside_call (Write at bytes done ∷ calls) (suc k) d place lt out = outside_call calls k d place (omega arith) out.1
outside_call (Sync done ∷ calls) (suc k) d place lt out = outside_call calls k d place (omega arith) out

pub after_all-push : (calls : List Call) (call : Call) (m : Medium) → after_all (calls ++ call ∷ []) m ≡ after call (after_all calls m)
after_all-push [] call m = refl
after_all-push (first ∷ calls) call m = after_all-push calls call (after first m)

left_since-push : (calls : List Call) (call : Call) (t : ℕ) (m : Medium) (image : List ℕ) → t ≤ length calls → LeftSince (calls ++ call ∷ []) t m image → LeftSince calls t m image ⊎ MayLeave (after_all (calls ++ call ∷ []) m) image
left_since-push [] call zero m image le (inl here) = inl here
left_since-push [] call zero m image le (inr there) = inr there
left_since-push [] call (suc t) m image le left = absurd (omega arith)
left_since-push (first ∷ calls) call zero m image le (inl here) = inl (inl here)
left_since-push (first ∷ calls) call zero m image le (inr there) = ⊎_elim (λ was. inl (inr was)) (λ now. inr now) (left_since-push calls call zero (after first m) image (omega arith) there)
left_since-push (first ∷ calls) call (suc t) m image le left = left_since-push calls call t (after first m) image (omega arith) left

left_since_kept : (calls : List Call) (call : Call) (t : ℕ) (m : Medium) (image : List ℕ) → t ≤ length calls → LeftSince calls t m image → LeftSince (calls ++ call ∷ []) t m image
left_since_kept [] call zero m image le here = inl here
left_since_kept [] call (suc t) m image le left = absurd (omega arith)
left_since_kept (first ∷ calls) call zero m image le (inl here) = inl here
left_since_kept (first ∷ calls) call zero m image le (inr there) = inr (left_since_kept calls call zero (after first m) image (omega arith) there)
left_since_kept (first ∷ calls) call (suc t) m image le left = left_since_kept calls call t (after first m) image (omega arith) left

-- time goes on from these calls to those
abbrev pub CallsPass : List Call → List Call → Medium → Type 0
CallsPass calls later m = TimePasses (length calls) (length later) (λ t image. LeftSince calls t m image) (λ t image. LeftSince later t m image) (λ image. MayLeave (after_all later m) image)

pub call_passes : (calls : List Call) (call : Call) (m : Medium) → CallsPass calls (calls ++ call ∷ []) m
call_passes calls call m = record {
  later = omega (arith, length-append calls (call ∷ []));
  nothing_else = λ t image le left. left_since-push calls call t m image le left;
  keeps = λ t image le left. left_since_kept calls call t m image le left;
}

pub nothing_passes : (calls : List Call) (m : Medium) → CallsPass calls calls m
nothing_passes calls m = record { later = omega arith; nothing_else = λ t image le left. inl left; keeps = λ t image le left. left }

pub after-quiet : (call : Call) (m : Medium) → IsQuiet call → after call m ≡ m
after-quiet (Len done) m quiet = refl
after-quiet (Read at len done) m quiet = refl
after-quiet (Write at bytes done) m quiet = absurd quiet
after-quiet (Sync true) m quiet = absurd quiet
after-quiet (Sync false) m quiet = refl

pub ranges_of-push : (calls : List Call) (call : Call) → ranges_of (calls ++ call ∷ []) ≡ ranges_of calls ++ ranges_of (call ∷ [])
ranges_of-push [] call = refl
ranges_of-push (Len done ∷ calls) call = ranges_of-push calls call
ranges_of-push (Read at len done ∷ calls) call = ranges_of-push calls call
ranges_of-push (Write at bytes done ∷ calls) call = ap (λ (ranges : List (ℕ × ℕ)). (at, length bytes) ∷ ranges) (ranges_of-push calls call)
ranges_of-push (Sync done ∷ calls) call = ranges_of-push calls call

pub ranges_of-quiet : (call : Call) → IsQuiet call → ranges_of (call ∷ []) ≡ []
ranges_of-quiet (Len done) quiet = refl
ranges_of-quiet (Read at len done) quiet = refl
ranges_of-quiet (Write at bytes done) quiet = absurd quiet
ranges_of-quiet (Sync done) quiet = refl
