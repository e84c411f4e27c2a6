-- Images of a file with pending writes.
use Rattle.std.proofs.Common.{◌≡◌, ◌⊎◌, inl, inr, ⊎_elim, ◌<◌, ◌≤◌, ℕ, zero, suc, ◌+◌, ◌-◌, ◌%◌, min, List, [], ◌∷◌, ◌++◌, length, get_or, refl, sym, ◌∙◌, ap, arith}
use Rattle.std.specs.Prelude.{nat_lt, if◌then◌else◌}
use Rattle.std.proofs.lemmas.List.{ext_get_or}
use Rattle.std.proofs.lemmas.Bool.{cases_lt}
use Rattle.std.proofs.lemmas.Bool.Decides.{nat_tests}
use Rattle.jp_disk.specs.Images.{IsImage, IsOutside, furthest_end, IsTornWrite}
use Rattle.jp_disk.specs.ImageLaws.{furthest_end_from, furthest_end-push}

outside_push : (ranges : List (ℕ × ℕ)) (at n place : ℕ) → IsOutside ranges place → (place < at) ⊎ (at + n ≤ place) → IsOutside (ranges ++ (at, n) ∷ []) place
outside_push [] at n place out here = (here, tt)
outside_push (range ∷ ranges) at n place out here = (out.0, outside_push ranges at n place out.1 here)

-- a list by its items
listed : (ℕ → ℕ) → ℕ → List ℕ
listed item zero = []
listed item (suc n) = item 0 ∷ listed (λ k. item (suc k)) n

length-listed : (item : ℕ → ℕ) (n : ℕ) → length (listed item n) ≡ n
unfolding listed
length-listed item zero = refl
length-listed item (suc n) = ap suc (length-listed (λ k. item (suc k)) n)

get_or-listed : (item : ℕ → ℕ) (n k : ℕ) → k < n → get_or (listed item n) k 0 ≡ item k
unfolding listed
get_or-listed item zero k lt = absurd (omega arith)
get_or-listed item (suc n) zero lt = refl
get_or-listed item (suc n) (suc k) lt = get_or-listed (λ k. item (suc k)) n k (omega arith)

module _ (synced image : List ℕ) (at n : ℕ) where
  -- the byte before the last write: that of the last sync within its range, and else the one that is left
  byte_before : ℕ → ℕ
  byte_before k = if nat_lt k at then get_or image k 0 else (if nat_lt k (at + n) then (if nat_lt k (length synced) then get_or synced k 0 else get_or image k 0) else get_or image k 0)

  byte_before-outside : (k : ℕ) → (k < at) ⊎ (at + n ≤ k) → byte_before k ≡ get_or image k 0
  unfolding byte_before
  byte_before-outside k (inl lt) = grind (arith, nat_tests)
  byte_before-outside k (inr le) = grind (arith, nat_tests)

  byte_before-inside : (k : ℕ) → at ≤ k → k < at + n → k < length synced → byte_before k ≡ get_or synced k 0
  unfolding byte_before
  byte_before-inside k le lt short = grind (arith, nat_tests)

-- each image with one write more is a torn write of an image without it
pub image_before : (synced image : List ℕ) (pending : List (ℕ × ℕ)) (at n : ℕ) → IsImage synced (pending ++ (at, n) ∷ []) image → (before : List ℕ) × IsImage synced pending before × IsTornWrite at n before image
image_before synced image pending at n is =
    let item = byte_before synced image at n in
    let many = min (length image) (furthest_end (length synced) pending) in
    let size = length-listed item many in
    let far = furthest_end_from (length synced) pending in
    let all = furthest_end-push (length synced) pending at n in (
      listed item many,
      record {
        no_shorter = omega (arith, size, far, is.no_shorter);
        no_longer = omega (arith, size);
        same = λ k lt out. get_or-listed item many k (omega (arith, lt, far, is.no_shorter)) ∙ same k lt out;
      },
      record {
        no_shorter = omega (arith, size);
        no_longer = omega (arith, size, is.no_longer, all, far);
        same = λ k lt out. sym (get_or-listed item many k (omega (arith, lt, size)) ∙ byte_before-outside synced image at n k out.0);
      },
    )
  where
    same : (k : ℕ) → k < length synced → IsOutside pending k → byte_before synced image at n k ≡ get_or synced k 0
    same k lt out = ⊎_elim
        (λ (before : k < at). byte_before-outside synced image at n k (inl before) ∙ is.same k lt (outside_push pending at n k out (inl before)))
        (λ (le : at ≤ k). ⊎_elim
        (λ (within : k < at + n). byte_before-inside synced image at n k le within lt)
        (λ (behind : at + n ≤ k). byte_before-outside synced image at n k (inr behind) ∙ is.same k lt (outside_push pending at n k out (inr behind)))
        (cases_lt k (at + n)))
        (cases_lt k at)

-- with nothing pending there is one image
pub only_same : (file image : List ℕ) → IsImage file [] image → image ≡ file
only_same file image is =
    let size : length image ≡ length file = omega (arith, is.no_shorter, is.no_longer) in
    ext_get_or 0 image file size (λ k lt. is.same k (omega (arith, lt, size)) tt)

-- what stays an image where bytes change in the pending ranges and some are lost past the old end
pub image_changed : (synced file image : List ℕ) (pending : List (ℕ × ℕ)) (choice : ℕ) → IsImage synced pending file
    → ((place : ℕ) → place < length synced → IsOutside pending place → get_or image place 0 ≡ get_or file place 0)
    → length image + choice % (1 + length file - length synced) ≡ length file → IsImage synced pending image
image_changed synced file image pending choice is outside size = record {
  no_shorter = omega (arith, size, is.no_shorter);
  no_longer = omega (arith, size, is.no_longer);
  same = λ place lt out. outside place lt out ∙ is.same place lt out;
}
