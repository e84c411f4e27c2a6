-- What each kind of change says of the marks.
use Rattle.std.proofs.Common.{◌≡◌, ℕ, zero, suc, Bool, true, false, List, [], ◌∷◌, ◌++◌, length, get_or, set, slice_get, refl, ◌∙◌, arith}
use Rattle.std.proofs.lemmas.List.{length-set, length_push}
use Rattle.cell_heap.specs.Follows.{Follows}
use Rattle.cell_heap.specs.Region.{Region}
use Rattle.cell_heap.specs.ValueTypes.{Cell}

pub Follows-refl : (r : Region) → Follows r r
Follows-refl r = record { grows = omega arith; unmarked = λ id e. e; same = λ id e. refl }

pub Follows-same : (r s : Region) → s ≡ r → Follows r s
Follows-same r s e = rw e (Follows-refl r)

pub Follows-trans : (r s t : Region) → Follows r s → Follows s t → Follows r t
Follows-trans r s t a b = record {
  grows = omega (arith, a.grows, b.grows);
  unmarked = λ id e. a.unmarked id (b.unmarked id e);
  same = λ id e. b.same id e ∙ a.same id (b.unmarked id e);
}

unmarked_set : (bs : List Bool) (i j : ℕ) → get_or (set bs i true) j true ≡ false → get_or bs j true ≡ false
unmarked_set [] i j e = e
unmarked_set (b ∷ bs) zero zero e = cc
unmarked_set (b ∷ bs) zero (suc j) e = e
unmarked_set (b ∷ bs) (suc i) zero e = e
unmarked_set (b ∷ bs) (suc i) (suc j) e = unmarked_set bs i j e

same_set : (bs : List Bool) (h : List Cell) (i j : ℕ) (c : Cell) → length bs ≡ length h → get_or (set bs i true) j true ≡ false → slice_get (set h i c) j ≡ slice_get h j
same_set [] [] i j c len e = refl
same_set [] (x ∷ h) i j c len e = let no : ⊥ = omega (arith, len) in absurd no
same_set (b ∷ bs) [] i j c len e = let no : ⊥ = omega (arith, len) in absurd no
same_set (b ∷ bs) (x ∷ h) zero zero c len e = cc
same_set (b ∷ bs) (x ∷ h) zero (suc j) c len e = refl
same_set (b ∷ bs) (x ∷ h) (suc i) zero c len e = refl
same_set (b ∷ bs) (x ∷ h) (suc i) (suc j) c len e = same_set bs h i j c (omega (arith, len)) e

-- a cell that was written
pub Follows-set : (r s : Region) (i : ℕ) (c : Cell) → length r.changed ≡ length r.cells → s ≡ record r { cells = set r.cells i c; changed = set r.changed i true } → Follows r s
Follows-set r s i c len e = rw e (record {
  grows = omega (arith, length-set r.cells i c);
  unmarked = λ id h. unmarked_set r.changed i id h;
  same = λ id h. same_set r.changed r.cells i id c len h;
})

unmarked_push : (bs : List Bool) (j : ℕ) → get_or (bs ++ true ∷ []) j true ≡ false → get_or bs j true ≡ false
unmarked_push [] zero e = cc
unmarked_push [] (suc j) e = cc
unmarked_push (b ∷ bs) zero e = e
unmarked_push (b ∷ bs) (suc j) e = unmarked_push bs j e

same_push : (bs : List Bool) (h : List Cell) (j : ℕ) (c : Cell) → length bs ≡ length h → get_or (bs ++ true ∷ []) j true ≡ false → slice_get (h ++ c ∷ []) j ≡ slice_get h j
same_push [] [] zero c len e = cc
same_push [] [] (suc j) c len e = cc
same_push [] (x ∷ h) j c len e = let no : ⊥ = omega (arith, len) in absurd no
same_push (b ∷ bs) [] j c len e = let no : ⊥ = omega (arith, len) in absurd no
same_push (b ∷ bs) (x ∷ h) zero c len e = refl
same_push (b ∷ bs) (x ∷ h) (suc j) c len e = same_push bs h j c (omega (arith, len)) e

-- a cell that is new
pub Follows-push : (r s : Region) (c : Cell) (n : ℕ) → length r.changed ≡ length r.cells → s ≡ record { cells = r.cells ++ c ∷ []; changed = r.changed ++ true ∷ []; spare = n } → Follows r s
Follows-push r s c n len e = rw e (record {
  grows = omega (arith, length_push r.cells c);
  unmarked = λ id h. unmarked_push r.changed id h;
  same = λ id h. same_push r.changed r.cells id c len h;
})
