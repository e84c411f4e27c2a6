-- Numbers, as the lexer finds them.
use Rattle.std.specs.Prelude.{◌≡◌, ℕ, ◌+◌, ◌≤◌, List, length, ℤ, pos}
use Rattle.std.specs.Str.Parse.{digits_value}
use Rattle.model_syntax.specs.declared.token.TokenKind.TheVariants as kind
use Rattle.model_syntax.specs.Source.{Source}
use Rattle.model_syntax.specs.Spelling.{Fits, IsBadNumber}

-- From one place up to another stands this number, and it is none of the refused ones.
pub record IsNumberAt (B : Source) (a b : ℕ) (v : ℤ) : Type 0 where
  pub text : List ℕ
  pub fits : Fits B text (kind.Int v) a
  pub ends : b ≡ a + length text
  pub value : v ≡ pos (digits_value 10 text)
  pub small : digits_value 10 text ≤ 2147483647
  pub good : IsBadNumber B text (a + length text) → ⊥

-- A number that is refused stands at the place.
pub record IsBadNumberAt (B : Source) (a : ℕ) : Type 0 where
  pub text : List ℕ
  pub value : ℤ
  pub fits : Fits B text (kind.Int value) a
  pub bad : IsBadNumber B text (a + length text)
