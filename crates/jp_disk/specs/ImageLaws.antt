-- Laws of images, for a disk to meet the trait by. They stand here, since a law of an `impl` may cite no file of proofs/.
use Rattle.std.specs.Prelude.{◌≡◌, ◌⊎◌, ◌<◌, ◌≤◌, ℕ, ◌+◌, ◌-◌, max, List, [], ◌∷◌, ◌++◌, length, take, refl}
use Rattle.std.proofs.Common.{inl, inr, get_or, ◌∙◌, rules, arith, length-take}
use Rattle.std.proofs.lemmas.List.{places}
use Rattle.jp_disk.specs.Images.{IsImage, IsOutside, furthest_end, IsTornWrite, after_write}

pub furthest_end_from : (end : ℕ) (ranges : List (ℕ × ℕ)) → end ≤ furthest_end end ranges
furthest_end_from end [] = omega arith
furthest_end_from end (range ∷ ranges) = omega (arith, furthest_end_from end ranges)

pub furthest_end-push : (end : ℕ) (ranges : List (ℕ × ℕ)) (at n : ℕ) → furthest_end end (ranges ++ (at, n) ∷ []) ≡ max (furthest_end end ranges) (at + n)
furthest_end-push end [] at n = refl
furthest_end-push end (range ∷ ranges) at n = omega (arith, furthest_end-push end ranges at n)

pub outside_parts : (ranges : List (ℕ × ℕ)) (at n place : ℕ) → IsOutside (ranges ++ (at, n) ∷ []) place → IsOutside ranges place × ((place < at) ⊎ (at + n ≤ place))
outside_parts [] at n place out = (tt, out.0)
outside_parts (range ∷ ranges) at n place out = let rest = outside_parts ranges at n place out.1 in ((out.0, rest.0), rest.1)

-- a file is an image of itself, whatever is pending
pub same_image : (file : List ℕ) (pending : List (ℕ × ℕ)) → IsImage file pending file
same_image file pending = record { no_shorter = omega arith; no_longer = furthest_end_from (length file) pending; same = λ place lt out. refl }

-- a torn write of an image is an image with that range pending
pub image_push : (synced file image : List ℕ) (pending : List (ℕ × ℕ)) (at n : ℕ) → IsImage synced pending file → IsTornWrite at n file image → IsImage synced (pending ++ (at, n) ∷ []) image
image_push synced file image pending at n is torn = record {
  no_shorter = omega (arith, is.no_shorter, torn.no_shorter);
  no_longer = omega (arith, is.no_longer, torn.no_longer, furthest_end-push (length synced) pending at n);
  same = λ place lt out.
      let parts = outside_parts pending at n place out in
      torn.same place (omega (arith, lt, is.no_shorter)) (parts.1, tt) ∙ is.same place lt parts.0;
}

-- a whole write is one that may be torn
pub whole_write : (file bytes : List ℕ) (at : ℕ) → IsTornWrite at (length bytes) file (after_write file at bytes)
whole_write file bytes at = record {
  no_shorter = omega (arith, size, length-take at file);
  no_longer = omega (arith, size, length-take at file);
  same = λ place lt out. same place lt out.0;
}
  where
    size : length (after_write file at bytes) ≡ length (take at file) + length bytes + (length file - (at + length bytes))
    size = search (rules, places)

    same : (place : ℕ) → place < length file → (place < at) ⊎ (at + length bytes ≤ place) → get_or (after_write file at bytes) place 0 ≡ get_or file place 0
    same place lt (inl before) = search (rules, places)
    same place lt (inr behind) = search (rules, places)
