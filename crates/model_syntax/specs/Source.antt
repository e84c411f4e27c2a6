-- The bytes of a script by their places, and the characters that they spell.
use Rattle.std.specs.Prelude.{◌≡◌, ℕ, ◌+◌, List, [], ◌∷◌, length, slice_index_or, encode_utf8}
use Rattle.std.specs.Char.{IsScalar}

-- A script as a function of the place.
abbrev pub Source : Type 0
Source = ℕ → ℕ

-- What stands past the end, where no byte is.
abbrev pub past_end : ℕ
past_end = 256

-- The bytes of a script, each at its place.
abbrev pub byte_at : List ℕ → Source
byte_at bytes k = slice_index_or bytes k past_end

-- These bytes stand one behind the other, from the place `a` on.
abbrev pub Spelled : Source → List ℕ → ℕ → Type 0
Spelled B [] a = Unit {0}
Spelled B (x ∷ xs) a = (B a ≡ x) × Spelled B xs (a + 1)

-- The source is UTF-8 (this product's own): from one place up to another stands this character.
pub data Character (B : Source) : ℕ → ℕ → ℕ → Type 0 where
  character : {c a : ℕ} → IsScalar c → Spelled B (encode_utf8 c) a → Character B c a (a + length (encode_utf8 c))

-- No character stands here: the script ends, or its bytes are no UTF-8.
abbrev pub NoCharacter : Source → ℕ → Type 0
NoCharacter B a = (c b : ℕ) → Character B c a b → ⊥

-- Characters up to a place, and `Stop` at none of the places where they begin.
pub data Passed (B : Source) (Stop : ℕ → Type 0) : ℕ → ℕ → Type 0 where
  passed_none : {a : ℕ} → Passed B Stop a a
  passed_more : {c a m b : ℕ} → (Stop a → ⊥) → Character B c a m → Passed B Stop m b → Passed B Stop a b
