-- The frames in front of a thread now, which stood.
use Rattle.std.proofs.Common.{◌≡◌, ◌∙◌, ◌<◌, ◌≤◌, ◌+◌, ◌-◌, ℕ, List, ◌++◌, length, length-append, slice_get, take, drop, sym, ap, subst, arith}
use Rattle.std.proofs.Math.Seq.{drop-append_seam, drop-append-add, take-append-add}
use Rattle.image_form.specs.declared.image.ImageFrame.{ImageFrame}
use Rattle.image_changes.specs.Growing.{IsCommon, IsCounted}
use Rattle.image_changes.proofs.Gets.{first_behind, shorter_front}

-- lists with the same front are the same where what is behind it is
pub same_behind : {X : Type 0} (front xs ys : List X) → front ++ xs ≡ front ++ ys → xs ≡ ys
same_behind front xs ys e = sym (drop-append_seam front xs) ∙ ap (drop (length front)) e ∙ drop-append_seam front ys

-- an item behind a front
behind_at : {X : Type 0} (front xs : List X) (n : ℕ) → slice_get (front ++ xs) (length front + n) ≡ slice_get xs n
behind_at front xs n = sym (first_behind (length front + n) (front ++ xs)) ∙ ap (λ (l : List _). slice_get l 0) (drop-append-add front xs n) ∙ first_behind n xs

-- the items from one on that is not in front
pub from_behind : {X : Type 0} (front xs : List X) (first place : ℕ) → length front + place ≡ first → drop place xs ≡ drop first (front ++ xs)
from_behind front xs first place e = sym (drop-append-add front xs place) ∙ ap (λ (n : ℕ). drop n (front ++ xs)) e

common_at : (front had has : List ImageFrame) (n m : ℕ) → take n had ≡ take n has → n ≤ length had → n ≤ length has → (n < length had → slice_get had n ≡ slice_get has n → ⊥)
    → m ≤ n → length front + m ≤ 4294967295 → (length front + m < 4294967295 → m ≡ n) → IsCommon (front ++ had) (front ++ has) (length front) (length front + m)
common_at front had has n m same in_had in_has most le few all = record {
  same = take-append-add front had m ∙ ap (λ (l : List ImageFrame). front ++ l) (shorter_front n m had has le same) ∙ sym (take-append-add front has m);
  within_had = omega (arith, length-append front had, le, in_had);
  within_has = omega (arith, length-append front has, le, in_has);
  from = omega arith;
  few = few;
  most = λ less more at.
      let is : m ≡ n = all less in
      let here : slice_get had m ≡ slice_get has m = sym (behind_at front had m) ∙ at ∙ behind_at front has m in
      most (omega (arith, is, more, length-append front had)) (subst (λ k. slice_get had k ≡ slice_get has k) is here);
}

-- so many frames are the same where so many more are than stand in front
pub common_counted : (front had has : List ImageFrame) (n count : ℕ) → take n had ≡ take n has → n ≤ length had → n ≤ length has → (n < length had → slice_get had n ≡ slice_get has n → ⊥)
    → IsCounted (length front) n count → IsCommon (front ++ had) (front ++ has) (length front) count
common_counted front had has n count same in_had in_has most c =
    let more : ℕ = count - length front in
    let is : length front + more ≡ count = omega (arith, c.from) in
    subst (IsCommon (front ++ had) (front ++ has) (length front)) is
    (common_at front had has n more same in_had in_has most (omega (arith, is, c.within)) (omega (arith, is, c.few)) (λ less. let full : count ≡ length front + n = c.all (omega (arith, is, less)) in omega (arith, is, full)))
