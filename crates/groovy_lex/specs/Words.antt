-- A table of words by their bytes.
use Rattle.std.specs.Prelude.{ℕ, Option, Some, None, List, [], ◌∷◌, if◌then◌else◌}
use Rattle.std.specs.Str.{bytes_eq}
use Rattle.model_syntax.specs.declared.word.Word.{Word}

-- The word of the first row with these bytes.
abbrev pub lookup : List (List ℕ × Word) → List ℕ → Option Word
lookup [] t = None
lookup (row ∷ rows) t = if bytes_eq t row.0 then Some row.1 else lookup rows t
