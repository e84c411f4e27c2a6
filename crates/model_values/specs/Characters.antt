-- A text by its characters. Positions and lengths of texts count these.
use Rattle.std.specs.Prelude.{ℕ, ◌-◌, if◌then◌else◌, List, [], ◌∷◌, ◌++◌, take, drop}
use Rattle.std.specs.Fmt.{is_char_start}

-- a byte in front of the characters behind it: it is a character's first, or it begins the character whose other
-- bytes follow
abbrev pub byte_before : ℕ → List (List ℕ) → List (List ℕ)
byte_before b [] = (b ∷ []) ∷ []
byte_before b ([] ∷ cs) = (b ∷ []) ∷ cs
byte_before b ((d ∷ ds) ∷ cs) = if is_char_start d then (b ∷ []) ∷ (d ∷ ds) ∷ cs else (b ∷ d ∷ ds) ∷ cs

-- the characters of a text, each as its bytes
abbrev pub characters : List ℕ → List (List ℕ)
characters [] = []
characters (b ∷ bs) = byte_before b (characters bs)

abbrev pub concatenated : List (List ℕ) → List ℕ
concatenated [] = []
concatenated (c ∷ cs) = c ++ concatenated cs

-- the characters from one place up to another
abbrev pub part_of : List ℕ → ℕ → ℕ → List ℕ
part_of s i j = concatenated (take (j - i) (drop i (characters s)))
