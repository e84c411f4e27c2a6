-- What a sign does to what is open, and the bytes with which comments and signs begin.
use Rattle.std.specs.Prelude.{◌≡◌, ◌≢◌, ℕ, ◌<◌, ◌≤◌, Bool, true, false, List}
use Rattle.std.specs.Char.{is_ascii_digit}
use Rattle.model_syntax.specs.declared.sign.Sign.{Sign}
use Rattle.model_syntax.specs.Spelling.{is_letter}
use Rattle.model_syntax.specs.OpenBrackets.{Open, depth, after_sign, is_opening}
use Rattle.model_syntax.specs.Reading.{is_blank}

-- A sign was taken, or it would be the 129th open bracket.
abbrev pub Turns : Sign → List Open → List Open → Bool → Type 0
Turns x s u true = (u ≡ after_sign x s) × (is_opening x ≡ true → depth s < 128)
Turns x s u false = (u ≡ s) × (is_opening x ≡ true) × (128 ≤ depth s)

-- The byte begins no blank, newline, name, number or text.
pub record IsOther (b : ℕ) : Type 0 where
  pub no_blank : is_blank b ≡ false
  pub no_newline : b ≢ 10
  pub no_letter : is_letter b ≡ false
  pub no_digit : is_ascii_digit b ≡ false
  pub no_single : b ≢ 39
  pub no_double : b ≢ 34
