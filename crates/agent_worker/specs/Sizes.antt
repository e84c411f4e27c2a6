-- Sizes, in bytes. This product's own.
use Rattle.std.specs.Prelude.{ℕ}

-- how much of a stream is read at once
abbrev pub piece_size : ℕ
piece_size = 65536

-- the longest answer line that is given to the gate
abbrev pub longest_line : ℕ
longest_line = 1024

-- what is kept of a line: the longest, a CR, and one byte that shows that it is longer
abbrev pub line_room : ℕ
line_room = 1026
