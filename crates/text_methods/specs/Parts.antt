-- The parts between the characters that cut a text.
use Rattle.std.specs.Prelude.{ℕ, Bool, true, false, List, [], ◌∷◌}
use Rattle.model_values.specs.Characters.{characters}
use Rattle.model_values.specs.Searching.{is_among, pieces, without_empty, without_last_empty}

-- the pieces of a text between the characters of another
abbrev pub cut : List ℕ → List ℕ → List (List ℕ)
cut cuts s = pieces (is_among (characters cuts)) (characters s)

-- with the empty pieces but for an empty last one, or without them
abbrev pub kept : Bool → List (List ℕ) → List (List ℕ)
kept true ps = without_last_empty ps
kept false ps = without_empty ps

-- a piece in front of others, if it is kept
abbrev pub kept_piece : Bool → List ℕ → List (List ℕ)
kept_piece true p = p ∷ []
kept_piece false [] = []
kept_piece false (b ∷ bs) = (b ∷ bs) ∷ []
