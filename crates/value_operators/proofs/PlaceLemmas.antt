-- The character at which an index points.
use Rattle.std.proofs.Common.{◌≡◌, ℕ, suc, ◌+◌, ◌-◌, ◌<◌, Bool, true, false, if◌then◌else◌, List, length, ltb, refl, ap, ◌∙◌, arith}
use Rattle.std.specs.Prelude.{ℤ, pos, negsuc}
use Rattle.std.proofs.lemmas.Bool.Decides.{nat_tests}
use Rattle.model_values.specs.Cells.{new_text}
use Rattle.model_values.specs.Characters.{characters, part_of}
use Rattle.model_values.specs.Index.{at, past, below, place_of, text_at}
use Rattle.model_values.specs.Limits.{product_limits}
use Rattle.model_values.specs.declared.cell.Cell.{Cell}
use Rattle.value_view.proofs.CharacterLemmas.{part_of-one}

within_pos : (b : Bool) (i n j : ℕ) → ltb i n ≡ b → at j ≡ (if b then at i else past) → j < n
within_pos true i n j t e = let same : j ≡ i = cc in let lt : i < n = grind (arith, nat_tests) in omega (arith, same, lt)
within_pos false i n j t e = absurd cc

within_neg : (b : Bool) (i n j : ℕ) → ltb i n ≡ b → at j ≡ (if b then at (n - suc i) else below) → j < n
within_neg true i n j t e = let same : j ≡ n - suc i = cc in let lt : i < n = grind (arith, nat_tests) in omega (arith, same, lt)
within_neg false i n j t e = absurd cc

pub place_within : (i : ℤ) (n j : ℕ) → at j ≡ place_of i n → j < n
place_within (pos i) n j e = within_pos (ltb i n) i n j refl e
place_within (negsuc i) n j e = within_neg (ltb i n) i n j refl e

pub character_at : (h : List Cell) (t : List ℕ) (i : ℤ) (j : ℕ) (c : List ℕ) → at j ≡ place_of i (length (characters t)) → c ≡ part_of t j (j + 1) → new_text product_limits h c ≡ text_at product_limits h (characters t) i (place_of i (length (characters t)))
character_at h t i j c place is =
    ap (λ (m : List ℕ). new_text product_limits h m) (is ∙ part_of-one t j (place_within i (length (characters t)) j place))
    ∙ ap (λ p. text_at product_limits h (characters t) i p) place
