-- The lines of the answers: how the operator cuts bytes into lines.
use Rattle.std.specs.Prelude.{◌≢◌, ◌∷◌, ◌++◌, [], List, ℕ, All, take, length, slice_index, ◌-◌, nat_eq, nat_le, if◌then◌else◌}
use Rattle.agent_worker.specs.Sizes.{longest_line, line_room}
use Rattle.agent_worker.specs.declared.operator.LineEnd.{LineEnd}
use Rattle.agent_worker.specs.declared.operator.LineEnd.TheVariants as line_end

-- this product's own: a newline ends a line, and a CR at its end is no part of it
abbrev pub without_cr : List ℕ → List ℕ
without_cr line = if nat_eq (slice_index line (length line - 1)) 13 then take (length line - 1) line else line

-- the line, where it has at most 1,024 bytes; else it is passed over
abbrev pub kept_line : List ℕ → List (List ℕ)
kept_line begun = if nat_le (length (without_cr begun)) longest_line then without_cr begun ∷ [] else []

-- the whole lines of these bytes, of which the first has begun so
abbrev pub lines_of : List ℕ → List ℕ → List (List ℕ)
lines_of begun [] = []
lines_of begun (b ∷ bytes) = if nat_eq b 10 then kept_line begun ++ lines_of [] bytes else lines_of (begun ++ b ∷ []) bytes

-- what of the last line has come
abbrev pub begun_after : List ℕ → List ℕ → List ℕ
begun_after begun [] = begun
begun_after begun (b ∷ bytes) = if nat_eq b 10 then begun_after [] bytes else begun_after (begun ++ b ∷ []) bytes

-- what is kept of a line that comes: enough to see that it is too long
abbrev pub short : List ℕ → List ℕ
short bytes = take line_room bytes

-- bytes of one line, without the newline
abbrev pub NoNewline : List ℕ → Type 0
NoNewline bytes = All (λ b. b ≢ 10) bytes

-- the bytes that were read, where these of the line came; a byte that memory was refused to is the last of them
abbrev pub read_bytes : LineEnd → List ℕ → List ℕ
read_bytes line_end.Line bytes = bytes ++ 10 ∷ []
read_bytes line_end.End bytes = bytes
read_bytes line_end.Failed bytes = bytes
read_bytes line_end.Memory bytes = bytes

-- the last line, where the answers end within it
abbrev pub last_line : List ℕ → List (List ℕ)
last_line [] = []
last_line (b ∷ bytes) = kept_line (b ∷ bytes)
