-- How far a loop over a value has come.
use Rattle.std.specs.Prelude.{◌≡◌, ◌≤◌, ℕ, List, length, drop}
use Rattle.model_values.specs.Characters.{characters}
use Rattle.model_values.specs.Kinds.{Kind, text}

-- character n of a text begins at byte k, or the text ends there
pub record BeginsAt (s : List ℕ) (n k : ℕ) : Type 0 where
  pub within : k ≤ length s
  pub begins : characters (drop k s) ≡ drop n (characters s)

-- turn n of a loop over a value of this kind: over a text the byte at which its character begins is known
abbrev pub IsLoopPlace : Kind → ℕ → ℕ → Type 0
IsLoopPlace (text s) n k = BeginsAt s n k
IsLoopPlace _ n k = Unit {0}
