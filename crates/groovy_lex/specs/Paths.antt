-- Names behind `$`.
use Rattle.std.specs.Prelude.{◌≡◌, ℕ, ◌+◌, ◌<◌, ◌≤◌, true, List, ◌++◌}
use Rattle.model_syntax.specs.declared.token.Token.{Token}
use Rattle.model_syntax.specs.Source.{Source}
use Rattle.model_syntax.specs.Spelling.{is_letter}
use Rattle.model_syntax.specs.Reading.{Path}

-- A further name follows: a dot and a letter stand here.
abbrev pub IsOn : Source → ℕ → Type 0
IsOn B a = (B a ≡ 46) × (is_letter (B (a + 1)) ≡ true)

-- The names from one place up to another were read, and their tokens went behind those before.
pub record IsPath (B : Source) (n a : ℕ) (old new : List Token) (b : ℕ) : Type 0 where
  pub found : List Token
  pub path : Path B found a b
  pub longer : new ≡ old ++ found
  pub forward : a < b
  pub inside : b ≤ n
