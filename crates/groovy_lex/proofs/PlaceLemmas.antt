-- The place of the next byte.
use Rattle.std.proofs.Common.{◌≡◌, ℕ, suc, ◌+◌, refl, ap, ◌∙◌, arith, add-one, true, false, min, ◌==◌}
use Rattle.model_syntax.specs.declared.place.Place.{Place}
use Rattle.model_syntax.specs.Source.{Source}
use Rattle.model_syntax.specs.Places.{line_at, column_at, place_at, is_inner}

abbrev pub place : ℕ → ℕ → Place
place l c = record { line = l; column = c }

same_place : {l k c d : ℕ} → l ≡ k → c ≡ d → place l c ≡ place k d
same_place p q = cc

pub place_begins : (B : Source) → place_at B 0 ≡ record { line = 1; column = 1 }
unfolding line_at column_at
place_begins B = refl

-- Behind a newline.
pub place_newline : (B : Source) (k l : ℕ) (p : Place) → p ≡ place_at B k → B k ≡ 10 → l ≡ min (p.line + 1) 4294967295 → place l 1 ≡ place_at B (k + 1)
unfolding line_at column_at
place_newline B k l p e n h =
    let i : l ≡ min (min (line_at B k) 4294967295 + 1) 4294967295 = h ∙ ap (λ (z : Place). min (z.line + 1) 4294967295) e in
    let j : l ≡ min (line_at B (suc k)) 4294967295 = rw n (omega (arith, i)) in
    let c : 1 ≡ min (column_at B (suc k)) 4294967295 = rw n refl in
    rw add-one (same_place j c)

-- Behind a byte that begins no character.
pub place_inner : (B : Source) (k : ℕ) (p : Place) → p ≡ place_at B k → (B k == 10) ≡ false → is_inner B k ≡ true → p ≡ place_at B (k + 1)
unfolding line_at column_at
place_inner B k p e n i =
    let l : min (line_at B k) 4294967295 ≡ min (line_at B (suc k)) 4294967295 = rw n refl in
    let c : min (column_at B k) 4294967295 ≡ min (column_at B (suc k)) 4294967295 = rw (n, i) refl in
    e ∙ rw add-one (same_place l c)

-- Behind any other.
pub place_behind : (B : Source) (k d : ℕ) (p : Place) → p ≡ place_at B k → (B k == 10) ≡ false → is_inner B k ≡ false → d ≡ min (p.column + 1) 4294967295 → place p.line d ≡ place_at B (k + 1)
unfolding line_at column_at
place_behind B k d p e n i h =
    let l : p.line ≡ min (line_at B (suc k)) 4294967295 = ap (λ (z : Place). z.line) e ∙ rw n refl in
    let j : d ≡ min (min (column_at B k) 4294967295 + 1) 4294967295 = h ∙ ap (λ (z : Place). min (z.column + 1) 4294967295) e in
    let c : d ≡ min (column_at B (suc k)) 4294967295 = rw (n, i) (omega (arith, j)) in
    rw add-one (same_place l c)
