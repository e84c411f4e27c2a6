-- A frame of an image that is told by its kind and place is told so again; and a frame that meets the table is found again.
use Rattle.std.proofs.Common.{◌≡◌, ◌∙◌, ◌<◌, ◌≤◌, ℕ, zero, suc, Bool, true, false, List, [], ◌∷◌, map, None, refl, sym, ap, subst, arith}
use Rattle.std.specs.Prelude.{◌&&◌, nat_eq, nat_lt, slice_get}
use Rattle.std.specs.List.{AllByRecursion as AllAre}
use Rattle.std.specs.Option.{unwrap_or}
use Rattle.std.proofs.lemmas.Bool.{eqb-true, ltb-true, ltb-false}
use Rattle.std.proofs.lemmas.Option.{slice_get_past}
use Rattle.model_run.specs.declared.frame.Frame.{Frame}
use Rattle.model_run.specs.declared.frame.FrameKind.{FrameKind}
use Rattle.model_run.specs.declared.frame.FrameKind.TheVariants as kind
use Rattle.model_run.specs.Nesting.{FrameFits, Sorts, row_at, shape_at}
use Rattle.model_run.specs.Terms.{Term}
use Rattle.image_form.specs.declared.image.ImageFrame.{ImageFrame}
use Rattle.frame_rows.specs.Kinds.{kinds, kind_found, kind_number}
use Rattle.frame_rows.specs.Places.{left_at}
use Rattle.frame_rows.proofs.PlaceLaws.{left_found}
use Rattle.image_frames.specs.Standings.{IsTold, frame_in, kind_of}
use Rattle.saved_thread.specs.Saving.{frame_told}

-- each number below this one passes a test
abbrev all_below : (ℕ → Bool) → ℕ → Bool
all_below test zero = true
all_below test (suc n) = test n && all_below test n

left_true : (a b : Bool) → (a && b) ≡ true → a ≡ true
left_true true b e = refl
left_true false b e = e

right_true : (a b : Bool) → (a && b) ≡ true → b ≡ true
right_true true b e = e
right_true false b e = absurd (cc e)

passes : (test : ℕ → Bool) (m n : ℕ) → all_below test m ≡ true → n < m → test n ≡ true
passes test zero n e lt = absurd (omega (arith, lt))
passes test (suc m) n e lt = one (nat_lt n m) refl (λ less. passes test m n (right_true (test m) (all_below test m) e) less)
  where
    one : (b : Bool) → nat_lt n m ≡ b → (n < m → test n ≡ true) → test n ≡ true
    one true is more = more (ltb-true n m is)
    one false is more = let le : m ≤ n = ltb-false n m is in let same : m ≡ n = omega (arith, lt, le) in subst (λ k. test k ≡ true) same (left_true (test m) (all_below test m) e)

-- the kind of each number has this number
abbrev tells_number : ℕ → Bool
tells_number n = nat_eq (kind_number (kind_of n)) n

pub kind_numbered : (n : ℕ) → (slice_get kinds n ≡ None → ⊥) → kind_number (kind_of n) ≡ n
kind_numbered n there = one (nat_lt n 46) refl
  where
    one : (b : Bool) → nat_lt n 46 ≡ b → kind_number (kind_of n) ≡ n
    one true is = eqb-true (kind_number (kind_of n)) n (passes tells_number 46 n refl (ltb-true n 46 is))
    one false is = absurd (there (slice_get_past kinds n (ltb-false n 46 is)))

-- and each kind is found by its number
pub number_kind : (k : FrameKind) → kind_of (kind_number k) ≡ k
number_kind k = ap (λ o. unwrap_or o kind.Statement) (kind_found k)

pub told_again : (root : Term) (f : ImageFrame) → IsTold root f → frame_told root (frame_in root f) ≡ f
told_again root f t =
    ap (λ k. record { kind = k; node = f.node; at = (row_at root (frame_in root f)).done; env = f.env; values = f.values }) (kind_numbered f.kind t.0)
    ∙ ap (λ n. record { kind = f.kind; node = f.node; at = n; env = f.env; values = f.values }) (sym t.1)

pub all_told_again : (root : Term) (fs : List ImageFrame) → AllAre (IsTold root) fs → map (frame_told root) (map (frame_in root) fs) ≡ fs
all_told_again root [] h = refl
all_told_again root (f ∷ fs) h = ap (λ g. g ∷ map (frame_told root) (map (frame_in root) fs)) (told_again root f h.0) ∙ ap (λ gs. f ∷ gs) (all_told_again root fs h.1)

-- from the parts that are done those that still come are found
pub left_again : (fits : Sorts) (root : Term) (f : Frame) → FrameFits fits root f → left_at f.kind (shape_at root f.node) (row_at root f).done ≡ f.left
left_again fits root f h = left_found f.kind (shape_at root f.node) f.left f.env (h.meets).left

pub found_again : (root : Term) (f : Frame) → left_at f.kind (shape_at root f.node) (row_at root f).done ≡ f.left → frame_in root (frame_told root f) ≡ f
found_again root f e =
    ap (λ k. record { kind = k; node = f.node; left = left_at k (shape_at root f.node) (row_at root f).done; env = f.env; values = f.values }) (number_kind f.kind)
    ∙ ap (λ n. record { kind = f.kind; node = f.node; left = n; env = f.env; values = f.values }) e
