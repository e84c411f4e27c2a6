-- Which cells are new or were written since the last mark: a truth value for each cell.
use Rattle.std.specs.Prelude.{ℕ, ◌+◌, Bool, true, false, List, [], ◌∷◌}

-- what a contract sees of them: the truth values, and how many more take no memory
pub record Marks : Type 0 where
  pub flags : List Bool
  pub spare : ℕ

-- the places of the true ones, rising, where the first has this number
abbrev pub places_from : ℕ → List Bool → List ℕ
places_from n [] = []
places_from n (true ∷ bs) = n ∷ places_from (n + 1) bs
places_from n (false ∷ bs) = places_from (n + 1) bs

abbrev pub places : List Bool → List ℕ
places bs = places_from 0 bs
