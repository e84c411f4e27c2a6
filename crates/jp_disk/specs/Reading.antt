-- What a read gives.
use Rattle.std.specs.Prelude.{ℕ, ◌<◌, ◌≤◌, ◌≡◌, List, length, take, drop, ◌++◌}

-- How many bytes a read may give into a buffer, at this place of a file that ends there: at least one below the end,
-- where the buffer has room for one, and none from the end on.
pub record IsReadCount (end at : ℕ) (buffer : List ℕ) (n : ℕ) : Type 0 where
  pub fits : n ≤ length buffer
  pub some_bytes : at < end → 0 < length buffer → 0 < n
  pub at_end : end ≤ at → n ≡ 0

-- the first n bytes of the buffer are those of the file from this place on, and the others stay
abbrev pub HasRead : List ℕ → ℕ → ℕ → List ℕ → List ℕ → Type 0
HasRead file at n old new = new ≡ take n (drop at file) ++ drop n old
