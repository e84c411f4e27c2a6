-- Lines and columns. This product's own: lines count from 1 by LF, columns from 1 in characters.
use Rattle.std.specs.Prelude.{ℕ, zero, suc, ◌+◌, ◌||◌, ◌&&◌, Bool, leb, ltb, min, if◌then◌else◌, ◌==◌}
use Rattle.model_syntax.specs.declared.place.Place.{Place}
use Rattle.model_syntax.specs.Source.{Source}

-- Groovy skips a byte order mark at the start: this is the place behind it.
abbrev pub mark_end : Source → ℕ
mark_end B = if (B 0 == 239) && ((B 1 == 187) && (B 2 == 191)) then 3 else 0

-- A byte that does not begin a character: one of the mark, or a later byte of a character in UTF-8.
abbrev pub is_inner : Source → ℕ → Bool
is_inner B k = ltb k (mark_end B) || (leb 128 (B k) && ltb (B k) 192)

-- The line of a place is 1 more than the newlines before it.
unfoldable pub line_at : Source → ℕ → ℕ
line_at B zero = 1
line_at B (suc k) = if B k == 10 then line_at B k + 1 else line_at B k

-- The column of a place is 1 more than the characters between it and the newline before it.
unfoldable pub column_at : Source → ℕ → ℕ
column_at B zero = 1
column_at B (suc k) = if B k == 10 then 1 else (if is_inner B k then column_at B k else column_at B k + 1)

-- The line and the column of a place; both stand still at the last number of 32 bits.
abbrev pub place_at : Source → ℕ → Place
place_at B a = record { line = min (line_at B a) 4294967295; column = min (column_at B a) 4294967295 }
