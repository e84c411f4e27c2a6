-- How the POSIX shell reads a word that has quoted parts (Shell Command Language, 2.2): between single quotes, which are 39, each
-- byte as it stands; outside of them the byte behind a backslash, which is 92.
use Rattle.std.specs.Prelude.{ℕ, List, [], ◌∷◌, nat_eq, if◌then◌else◌}

-- where in the word a byte is
pub data Part : Type 0 where
  bare : Part
  quoted : Part
  escaped : Part

-- what the rest of a word stands for
abbrev pub word_of : Part → List ℕ → List ℕ
word_of part [] = []
word_of bare (byte ∷ rest) = if nat_eq byte 39 then word_of quoted rest else (if nat_eq byte 92 then word_of escaped rest else byte ∷ word_of bare rest)
word_of quoted (byte ∷ rest) = if nat_eq byte 39 then word_of bare rest else byte ∷ word_of quoted rest
word_of escaped (byte ∷ rest) = byte ∷ word_of bare rest
