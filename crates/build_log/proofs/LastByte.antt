-- The byte with which a log ends.
use Rattle.std.proofs.Common.{◌≡◌, ◌∙◌, ℕ, suc, ◌-◌, refl, ap, arith, List, [], ◌∷◌, length, Option, Some, None}
use Rattle.std.specs.Prelude.{slice_get}
use Rattle.std.specs.List.{last_or}

last_at : (before : Option ℕ) (b : ℕ) (bs : List ℕ) → last_or before (b ∷ bs) ≡ slice_get (b ∷ bs) (length bs)
last_at before b [] = refl
last_at before b (c ∷ bs) = last_at (Some b) c bs

pub last_byte : (log : List ℕ) → last_or None log ≡ slice_get log (length log - 1)
last_byte [] = refl
last_byte (b ∷ bs) = let at : length bs ≡ suc (length bs) - 1 = omega arith in last_at None b bs ∙ ap (slice_get (b ∷ bs)) at
